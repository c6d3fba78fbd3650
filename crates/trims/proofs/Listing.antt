-- Listing a set's members, the lowest first. Assumes nothing.
use Prim.Native.Nat.{ℕ, zero, suc, ◌+◌, ◌^◌, ◌<◌, ◌≤◌}
use native.Mathlib.Nat.{zero-add, add-zero}
use native.Mathlib.Omega.{arith}
use mathlib.Core.Path.{◌≡◌, refl, sym, ap, subst, ◌∙◌}
use mathlib.Core.Logic.{◌⊎◌, inl, inr}
use mathlib.Core.Bool.{Bool, false, not, ◌&&◌, and-true, and-false}
use mathlib.Core.List.{List}
use lib.Dec.{T, eqb}
use borrow.Author.Tests.{eq-eqb, ne_eqb, eqb-false, not-true}
use lib.ListN.{get_or, length, set, take}
use lib.Seq.{get_or-set_same, get_or-set_other}
use Rattle.std.proofs.lemmas.List.{get_or-take, length-take-le}
use Rattle.bits.specs.Word.{word_bits, bit, many, remove, Lowest}
use Rattle.bits.proofs.Laws.{lt_or_ge, bit_zero, bit_remove, many_flip}
use Rattle.bits.proofs.Truths.{true_T, T_true, and_T, false_no}
use Rattle.bits.proofs.Resting.{Rest, in_word, turn_rest, turn_was}
use Rattle.bits.proofs.Begun.{rest_begun}
use Rattle.automata.specs.Table.{table_states}
use Rattle.trims.specs.Kept.{new_number}
use Rattle.trims.specs.inner.Lists.{Listed, Lists}
use Rattle.trims.specs.inner.Moves.{Rising}
use Rattle.bits.proofs.Ranks.{rank_out, rank_le}
use Rattle.trims.proofs.Numbers.{number_le}

-- none below q
many_none : (f : ℕ → Bool) (q : ℕ) → ((j : ℕ) → j < q → f j ≡ false) → many q f ≡ 0
unfolding many
many_none f zero n = refl
many_none f (suc q) n = rank_out f q (n q (omega arith)) ∙ many_none f q (λ j l. n j (omega arith))

-- n members are listed, and the rest of the set is still to come: all of it above them
pub record Listing (from : List ℕ) (k rest n : ℕ) : Type 0 where
  pub left : Rest k rest
  pub count : n + many table_states (bit rest) ≡ many table_states (bit k)
  pub ahead : (q : ℕ) → T (bit rest q) → new_number k q ≡ n + many q (bit rest)
  pub members : (i : ℕ) → i < n → Listed k i (get_or from i 0)

pub listing_none : (from : List ℕ) {k rest : ℕ} → rest ≡ k → k < 2 ^ word_bits → Listing from k rest 0
unfolding new_number
listing_none from {k} {rest} e h = record {
  left = rest_begun e h;
  count = zero-add (many table_states (bit rest)) ∙ ap (λ (w : ℕ). many table_states (bit w)) e;
  ahead = λ q t. ap (λ (w : ℕ). many q (bit w)) (sym e) ∙ sym (zero-add (many q (bit rest)));
  members = λ i l. absurd (omega arith);
}

module _ {from : List ℕ} {k rest n q rest' : ℕ} (x : Listing from k rest n) (l : Lowest word_bits rest q) (s : rest' ≡ remove word_bits rest q) where
  at : (j : ℕ) → j < word_bits → bit rest' j ≡ bit rest j && not (eqb j q)
  at j i = ap (λ (w : ℕ). bit w j) s ∙ bit_remove word_bits rest q j l.inside i

  fewer : (m : ℕ) → q < m → m ≤ word_bits → many m (bit rest) ≡ many m (bit rest') + 1
  fewer m a b = many_flip m (bit rest') (bit rest) q a gone l.least.here other
    where
      gone : bit rest' q ≡ false
      gone = at q l.inside ∙ ap (λ (b : Bool). bit rest q && not b) (eq-eqb q q refl) ∙ and-false (bit rest q)

      other : (j : ℕ) → j < m → (j ≡ q → ⊥) → bit rest' j ≡ bit rest j
      other j i d = at j (omega arith) ∙ ap (λ (b : Bool). bit rest j && not b) (ne_eqb j q d) ∙ and-true (bit rest j)

  here : new_number k q ≡ n
  here = x.ahead q (true_T l.least.here) ∙ ap (λ (m : ℕ). n + m) (many_none (bit rest) q l.least.below) ∙ add-zero n

  pub listing_fits : n < table_states
  listing_fits = omega (arith, x.count, fewer table_states l.inside (omega arith), rank_le (bit k) table_states)

  member : (i : ℕ) → n < length from → (i < n) ⊎ (n ≤ i) → i < n + 1 → Listed k i (get_or (set from n q) i 0)
  member i f (inl h) m = rw (get_or-set_other from n i q 0 (λ z. omega arith)) (x.members i h)
  member i f (inr h) m =
      let z : n ≡ i = omega arith in
      subst (λ (j : ℕ). Listed k j (get_or (set from n q) j 0)) z
      (rw (get_or-set_same from n q 0 f) (record { inside = l.inside; member = turn_was x.left l s; number = here }))

  -- a member of what is left then was one before, and is not q
  stays : (m : ℕ) → T (bit rest' m) → T (bit rest m) × (eqb m q ≡ false)
  stays m t =
      let z : T (bit rest m && not (eqb m q)) = rw (at m (in_word m (turn_rest x.left l s).fits t)) at t in
      let p = (and_T (bit rest m) (not (eqb m q))).0 z in
      (p.0, not-true (eqb m q) (T_true (not (eqb m q)) p.1))

  above : (m : ℕ) → T (bit rest' m) → (m < q) ⊎ (q ≤ m) → new_number k m ≡ n + 1 + many m (bit rest')
  above m t (inl h) = absurd (false_no (l.least.below m h) (stays m t).0)
  above m t (inr h) =
      let d = eqb-false m q (stays m t).1 in
      let i = in_word m (turn_rest x.left l s).fits t in
      omega (arith, d, x.ahead m (stays m t).0, fewer m (omega (arith, d)) (omega (arith, i)))

  pub listing_turn : n < length from → Listing (set from n q) k rest' (n + 1)
  listing_turn f = record {
    left = turn_rest x.left l s;
    count = omega (arith, x.count, fewer table_states l.inside (omega arith));
    ahead = λ m t. above m t (lt_or_ge m q);
    members = λ i m. member i f (lt_or_ge i n) m;
  }

-- nothing is left
pub listing_all : {from : List ℕ} {k rest n : ℕ} → Listing from k rest n → rest ≡ 0 → Lists from k n
listing_all {k = k} {rest} {n} x e = record {
  count = sym (add-zero n) ∙ ap (λ (m : ℕ). n + m) (sym (ap (λ (w : ℕ). many table_states (bit w)) e ∙ many_none (bit 0) table_states (λ j l. bit_zero j))) ∙ x.count;
  members = x.members;
}

pub lists_few : {from : List ℕ} {k n : ℕ} → Lists from k n → n ≤ table_states
lists_few {k} x = omega (arith, x.count, rank_le (bit k) table_states)

-- the part of the slice that is listed
pub lists_front : {from : List ℕ} {k n : ℕ} → Lists from k n → Lists (take n from) k n
lists_front {from} {k} {n} x = record {
  count = x.count;
  members = λ i l. subst (λ (m : ℕ). Listed k i m) (sym (get_or-take n from i 0 l)) (x.members i l);
}

pub lists_long : {from : List ℕ} {k n : ℕ} → Lists from k n → table_states ≤ length from → length (take n from) ≡ n
lists_long {from} {n = n} x l = length-take-le n from (omega (arith, lists_few x))

-- a listed state stands at or below its old number
pub lists_rise : {from : List ℕ} {k n : ℕ} → Lists from k n → length from ≡ n → Rising from
lists_rise {from} {k} x e = record {
  inside = λ i l. (x.members i (omega arith)).inside;
  rises = λ i l. omega (arith, (x.members i (omega arith)).number, number_le k (get_or from i 0));
}
