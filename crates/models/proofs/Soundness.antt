-- What is read is a sound model, and so is the one with no states that comes with a refusal. Assumes nothing.
use Prim.Native.Nat.{ℕ, ◌+◌, ◌*◌, ◌^◌, ◌≤◌, ◌<◌, zero-le, suc-le-suc}
use native.Mathlib.Omega.{arith}
use mathlib.Core.Path.{◌≡◌, refl, sym, ap, subst, ◌∙◌}
use mathlib.Core.Bool.{true, false, not, ◌&&◌, false≢true}
use mathlib.Core.Logic.{⊎_elim}
use mathlib.Core.List.{List}
use lib.Dec.{eqb, ltb, lit<}
use lib.ListN.{get_or, replicate, get_or-replicate, get_or-eq_default}
use borrow.Author.Tests.{le-ltb}
use Rattle.bits.specs.Word.{bit, word}
use Rattle.bits.proofs.Bytes.{little_lt}
use Rattle.bits.proofs.Laws.{lt_or_ge, bit_zero, bit_above, word_lt, any_intro}
use Rattle.models.specs.Reading.{Outcome, good, fault, letter, flag, successors, straying, records, linked, then_linked}
use Rattle.models.specs.Stored.{column, stored, no_states, model_of, Sound, Held}
use Rattle.models.specs.Answer.{given, answer}
use Rattle.models.proofs.Passes.{counts, linked_good}
use Rattle.models.proofs.Columns.{column_long, column_at, column_past}
use Rattle.models.specs.Model.{model_states}

-- a set with no member at or above n
pub stays : (n w t : ℕ) → w < 2 ^ 64 → straying n w ≡ false → bit w t ≡ true → t < n
unfolding straying
stays n w t h e b = ⊎_elim (λ l. l) (λ l. absurd (false≢true (sym e ∙ any_intro 64 (λ t. bit w t && not (ltb t n)) t inside (out l)))) (lt_or_ge t n)
  where
    inside : t < model_states
    inside = ⊎_elim (λ l. l) (λ l. absurd (false≢true (sym (bit_above 64 w t h l) ∙ b))) (lt_or_ge t 64)

    out : n ≤ t → bit w t && not (ltb t n) ≡ true
    out l = rw (b, le-ltb t n l)

-- a word of no bits has no member
no_bit : (w t : ℕ) → w ≡ 0 → bit w t ≡ true → ⊥
no_bit w t e b = false≢true (sym (bit_zero t) ∙ ap (λ (x : ℕ). bit x t) (sym e) ∙ b)

zeros : (i : ℕ) → ◌≡◌ {A = ℕ} (get_or (replicate model_states 0) i 0) 0
zeros i = ⊎_elim (λ l. get_or-replicate model_states i 0 0 l) (λ l. get_or-eq_default (replicate model_states 0) 0 l) (lt_or_ge i 64)

none_sound : Sound (model_of no_states)
none_sound = record {
  few = zero-le;
  letter_small = λ i. subst (λ (x : ℕ). x < 64) (sym (zeros i)) (lit< tt);
  initial_exists = λ i b. absurd (no_bit 0 i refl b);
  next_from = λ i t b. absurd (no_bit _ t (zeros i) b);
  next_exists = λ i t b. absurd (no_bit _ t (zeros i) b);
}

none_held : Held no_states
none_held = record { letters_long = refl; successors_long = refl; sound = none_sound }

module _ (s : List ℕ) (bytes : (i : ℕ) → get_or s i 0 < 256) where
  -- n states whose letters are below 64 and whose successors stay below n
  module _ (n : ℕ) (few : n ≤ model_states) (small : (j : ℕ) → j < n → letter s j ≤ 63) (stay : (j : ℕ) → j < n → straying n (successors s j) ≡ false) where
    letter_below : (i : ℕ) → get_or (column n (letter s)) i 0 < 64
    letter_below i =
        ⊎_elim (λ l. subst (λ (x : ℕ). x < 64) (sym (column_at n (letter s) i few l)) (suc-le-suc (small i l)))
        (λ l. subst (λ (x : ℕ). x < 64) (sym (column_past n (letter s) i l)) (lit< tt)) (lt_or_ge i n)

    initial_below : (i : ℕ) → bit (word n (λ k. eqb (flag s k) 1)) i ≡ true → i < n
    initial_below i b =
        ⊎_elim (λ l. l) (λ l. absurd (false≢true (sym (bit_above n _ i (word_lt n (λ k. eqb (flag s k) 1)) l) ∙ b))) (lt_or_ge i n)

    from_below : (i t : ℕ) → bit (get_or (column n (successors s)) i 0) t ≡ true → i < n
    from_below i t b = ⊎_elim (λ l. l) (λ l. absurd (no_bit _ t (column_past n (successors s) i l) b)) (lt_or_ge i n)

    next_below : (i t : ℕ) → bit (get_or (column n (successors s)) i 0) t ≡ true → t < n
    next_below i t b =
        let l = from_below i t b in
        stays n (successors s i) t (little_lt s bytes 8 (11 * i + 3)) (stay i l) (ap (λ (w : ℕ). bit w t) (sym (column_at n (successors s) i few l)) ∙ b)

    stored_held : Held (stored s n)
    stored_held = record {
      letters_long = column_long n (letter s);
      successors_long = column_long n (successors s);
      sound = record { few = few; letter_small = letter_below; initial_exists = initial_below; next_from = from_below; next_exists = next_below };
    }

  linked_held : (n : ℕ) → records model_states s 0 ≡ good n → (o : Outcome) → linked n s n 0 ≡ o → Held (given s o).model
  linked_held n e (fault number place) q = none_held
  linked_held n e (good m) q =
      let k = counts s 64 0 n e in
      let g = linked_good s n n 0 m q in
      subst (λ (m : ℕ). Held (stored s m)) (sym g.0)
      (stored_held n (omega (arith, k.few)) (λ j l. k.letters j zero-le l) (λ j l. g.1 j zero-le (omega arith)))

  pub answer_held : Held (answer s).model
  answer_held = go (records model_states s 0) refl
    where
      go : (o : Outcome) → records model_states s 0 ≡ o → Held (given s (then_linked s o)).model
      go (fault number place) e = none_held
      go (good n) e = linked_held n e (linked n s n 0) refl
