-- The two passes of reading, a turn at a time; and what a good end of each tells. Assumes nothing.
use Prim.Native.Nat.{ℕ, zero, suc, ◌+◌, ◌-◌, ◌*◌, ◌≤◌, ◌<◌}
use native.Mathlib.Nat.{eq-or-lt_of_le, sub-zero}
use native.Mathlib.Omega.{arith}
use mathlib.Core.Path.{◌≡◌, refl, sym, ap, subst, ◌∙◌}
use mathlib.Core.Bool.{Bool, true, false, not}
use mathlib.Core.Logic.{⊎_elim}
use mathlib.Core.List.{List}
use lib.Dec.{eqb, leb, ltb}
use lib.ListN.{length, get_or}
use borrow.Author.Tests.{lt-ltb, le-ltb, le-leb, lt-leb, eq-eqb, ne_eqb, leb-true, not-true}
use Rattle.std.specs.Prelude.{Result, Ok, Err, ⊤}
use Rattle.models.specs.declared.Refusal.{Refusal}
use Rattle.models.specs.Answer.{number, place, onward}
use Rattle.models.specs.Reading.{Outcome, good, fault, demand, letter, successors, one_record, ended, records, straying, linked}
use Rattle.models.specs.Model.{model_states}

-- ---- one record: the first test that fails decides

module _ (s : List ℕ) (at : ℕ) (on : Outcome) where
  pub kind_wrong : (get_or s at 0 ≡ 32 → ⊥) → one_record s at on ≡ fault 12 at
  unfolding one_record
  kind_wrong h = simp (ne_eqb _ _ h)

  module _ (k : get_or s at 0 ≡ 32) where
    pub cut_letter : length s ≤ at + 1 → one_record s at on ≡ fault 13 (length s)
    unfolding one_record
    cut_letter h = simp (eq-eqb _ _ k, le-ltb _ _ h)

    module _ (l : at + 1 < length s) where
      pub letter_large : 63 < get_or s (at + 1) 0 → one_record s at on ≡ fault 14 (at + 1)
      unfolding one_record
      letter_large h = simp (eq-eqb _ _ k, lt-ltb _ _ l, lt-leb _ _ h)

      module _ (x : get_or s (at + 1) 0 ≤ 63) where
        pub cut_flag : length s ≤ at + 2 → one_record s at on ≡ fault 13 (length s)
        unfolding one_record
        cut_flag h = simp (eq-eqb _ _ k, lt-ltb _ _ l, le-leb _ _ x, le-ltb _ _ h)

        module _ (m : at + 2 < length s) where
          pub flag_wrong : 1 < get_or s (at + 2) 0 → one_record s at on ≡ fault 15 (at + 2)
          unfolding one_record
          flag_wrong h = simp (eq-eqb _ _ k, lt-ltb _ _ l, le-leb _ _ x, lt-ltb _ _ m, lt-leb _ _ h)

          module _ (f : get_or s (at + 2) 0 ≤ 1) where
            pub cut_successors : length s < at + 11 → one_record s at on ≡ fault 13 (length s)
            unfolding one_record
            cut_successors h = simp (eq-eqb _ _ k, lt-ltb _ _ l, le-leb _ _ x, lt-ltb _ _ m, le-leb _ _ f, lt-leb _ _ h)

            pub record_good : at + 11 ≤ length s → one_record s at on ≡ on
            unfolding one_record
            record_good h = simp (eq-eqb _ _ k, lt-ltb _ _ l, le-leb _ _ x, lt-ltb _ _ m, le-leb _ _ f, le-leb _ _ h)

-- a demand that did not stop reading held
demanded : (b : Bool) (number place n : ℕ) (on : Outcome) → demand b number place on ≡ good n → (b ≡ true) × (on ≡ good n)
demanded true number place n on e = (refl, e)
demanded false number place n on e = let z : ◌≡◌ {A = ℕ} 0 1 = cc in absurd (omega arith)

-- what a record that did not stop reading has
pub record Passed (s : List ℕ) (at : ℕ) (on : Outcome) (n : ℕ) : Type 0 where
  pub small : get_or s (at + 1) 0 ≤ 63
  pub whole : at + 11 ≤ length s
  pub rest : on ≡ good n

passed : (s : List ℕ) (at : ℕ) (on : Outcome) (n : ℕ) → one_record s at on ≡ good n → Passed s at on n
unfolding one_record
passed s at on n e =
    let a = demanded (eqb (get_or s at 0) 32) 12 at n _ e in
    let b = demanded (ltb (at + 1) (length s)) 13 (length s) n _ a.1 in
    let c = demanded (leb (get_or s (at + 1) 0) 63) 14 (at + 1) n _ b.1 in
    let d = demanded (ltb (at + 2) (length s)) 13 (length s) n _ c.1 in
    let f = demanded (leb (get_or s (at + 2) 0) 1) 15 (at + 2) n _ d.1 in
    let g = demanded (leb (at + 11) (length s)) 13 (length s) n _ f.1 in
    record { small = leb-true _ _ c.0; whole = leb-true _ _ g.0; rest = g.1 }

-- ---- the records, one after the other

module _ (s : List ℕ) where
  pub records_end : (room k : ℕ) → length s ≤ 11 * k → records room s k ≡ good k
  unfolding records
  records_end zero k h = simp (le-leb _ _ h)
  records_end (suc room) k h = simp (le-leb _ _ h)

  pub records_full : 704 < length s → records 0 s 64 ≡ fault 11 704
  unfolding records
  records_full h = simp (lt-leb _ _ h)

  -- the loop's end
  pub records_last : (k : ℕ) → k ≤ model_states → 64 ≤ k → records (64 - k) s k ≡ records model_states s 0 → records 0 s 64 ≡ records model_states s 0
  records_last k l h i = let e : 64 ≡ k = omega arith in ap (λ (j : ℕ). records (64 - j) s j) e ∙ i

  pub one_more : (room k : ℕ) → 11 * k < length s → records (suc room) s k ≡ one_record s (11 * k) (records room s (k + 1))
  unfolding records
  one_more room k h = simp (lt-leb _ _ h)

  pub records_next : (k : ℕ) → k < model_states → 11 * k < length s → records (64 - k) s k ≡ one_record s (11 * k) (records (64 - (k + 1)) s (k + 1))
  records_next k l h =
      let e : 64 - k ≡ suc (64 - (k + 1)) = omega arith in
      ap (λ (room : ℕ). records room s k) e ∙ one_more (64 - (k + 1)) k h

  -- a turn of the loop: what is left to read at state k is what was to be read at first
  module _ (k : ℕ) (l : k < model_states) (h : 11 * k < length s) (r : Result ⊤ Refusal) (e : (on : Outcome) → one_record s (11 * k) on ≡ onward r on)
      (i : records (64 - k) s k ≡ records model_states s 0) where
    turned : onward r (records (64 - (k + 1)) s (k + 1)) ≡ records model_states s 0
    turned = sym (e (records (64 - (k + 1)) s (k + 1))) ∙ sym (records_next k l h) ∙ i

    pub records_fault : (x : Refusal) → r ≡ Err x → fault (number x) (place x) ≡ records model_states s 0
    records_fault x q = ap (λ (r : Result ⊤ Refusal). onward r (records (64 - (k + 1)) s (k + 1))) (sym q) ∙ turned

    pub records_on : (u : ⊤) → r ≡ Ok u → records (64 - (k + 1)) s (k + 1) ≡ records model_states s 0
    records_on u q = ap (λ (r : Result ⊤ Refusal). onward r (records (64 - (k + 1)) s (k + 1))) (sym q) ∙ turned

-- what a good end tells of the n states that were read from state k on
pub record Counts (s : List ℕ) (room k n : ℕ) : Type 0 where
  pub from : k ≤ n
  pub few : n ≤ k + room
  pub long : 11 * k ≤ length s → 11 * n ≤ length s
  pub letters : (j : ℕ) → k ≤ j → j < n → letter s j ≤ 63

none_more : (s : List ℕ) (room k n : ℕ) → k ≡ n → Counts s room k n
none_more s room k n e = record { from = omega arith; few = omega arith; long = λ h. omega arith; letters = λ j a b. absurd (omega arith) }

some_more : (s : List ℕ) (room k n : ℕ) (on : Outcome) → Passed s (11 * k) on n → Counts s room (k + 1) n → Counts s (suc room) k n
some_more s room k n on p c = record {
  from = omega (arith, c.from);
  few = omega (arith, c.few);
  long = λ h. c.long (omega (arith, p.whole));
  letters = λ j a b. ⊎_elim (λ e. subst (λ (i : ℕ). letter s i ≤ 63) e p.small) (λ h. c.letters j (omega arith) b) (eq-or-lt_of_le a);
}

pub counts : (s : List ℕ) (room k n : ℕ) → records room s k ≡ good n → Counts s room k n
unfolding records
counts s zero k n e = go (leb (length s) (11 * k)) e
  where
    go : (b : Bool) → ended b k (fault 11 (11 * k)) ≡ good n → Counts s zero k n
    go true e = none_more s zero k n (cc)
    go false e = let z : ◌≡◌ {A = ℕ} 0 1 = cc in absurd (omega arith)
counts s (suc room) k n e = go (leb (length s) (11 * k)) e (counts s room (k + 1) n)
  where
    go : (b : Bool) → ended b k (one_record s (11 * k) (records room s (k + 1))) ≡ good n → (records room s (k + 1) ≡ good n → Counts s room (k + 1) n) → Counts s (suc room) k n
    go true e ih = none_more s (suc room) k n (cc)
    go false e ih = let p = passed s (11 * k) (records room s (k + 1)) n e in some_more s room k n _ p (ih p.rest)

-- ---- the successors, state after state

module _ (s : List ℕ) (n : ℕ) where
  step : (left k : ℕ) (b : Bool) → straying n (successors s k) ≡ b → linked (suc left) s n k ≡ demand (not b) 16 (11 * k + 3) (linked left s n (k + 1))
  unfolding linked
  step left k b e = ap (λ (b : Bool). demand (not b) 16 (11 * k + 3) (linked left s n (k + 1))) e

  pub linked_start : linked (n - 0) s n 0 ≡ linked n s n 0
  linked_start = ap (λ (left : ℕ). linked left s n 0) (sub-zero n)

  -- a turn of the loop, where w is the set of successors and r the answer of the test
  module _ (k : ℕ) (l : k < n) (w : ℕ) (r : Bool) (e : w ≡ successors s k) (f : r ≡ straying n w) (i : linked (n - k) s n k ≡ linked n s n 0) where
    pub linked_turn : (b : Bool) → r ≡ b → demand (not b) 16 (11 * k + 3) (linked (n - (k + 1)) s n (k + 1)) ≡ linked n s n 0
    linked_turn b q =
        let m : n - k ≡ suc (n - (k + 1)) = omega arith in
        sym (step (n - (k + 1)) k b (ap (straying n) (sym e) ∙ sym f ∙ q)) ∙ ap (λ (left : ℕ). linked left s n k) (sym m) ∙ i

  pub linked_end : (k : ℕ) → n ≤ k → linked (n - k) s n k ≡ good n
  unfolding linked
  linked_end k h = let r : n - k ≡ 0 = omega arith in ap (λ (left : ℕ). linked left s n k) r

  -- where no state is at fault, no successor strays
  pub linked_good : (left k m : ℕ) → linked left s n k ≡ good m → (m ≡ n) × ((j : ℕ) → k ≤ j → j < k + left → straying n (successors s j) ≡ false)
  unfolding linked
  linked_good zero k m e = (cc, λ j a b. absurd (omega arith))
  linked_good (suc left) k m e =
      let d = demanded (not (straying n (successors s k))) 16 (11 * k + 3) m _ e in
      let r = linked_good left (k + 1) m d.1 in
      (r.0, λ j a b. ⊎_elim (λ q. subst (λ (i : ℕ). straying n (successors s i) ≡ false) q (not-true _ d.0)) (λ h. r.1 j (omega arith) (omega arith)) (eq-or-lt_of_le a))
