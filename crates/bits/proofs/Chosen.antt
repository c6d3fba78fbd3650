-- Sets by a test of their members: a number more at a time, and what such a set is where the test has a meaning. Assumes nothing.
use Prim.Native.Nat.{ℕ, ◌+◌, ◌^◌, ◌<◌, ◌≤◌}
use mathlib.Core.Path.{◌≡◌, refl, sym, subst, ap, ◌∙◌}
use mathlib.Core.Bool.{Bool, true, false, ◌||◌, or-false}
use mathlib.Core.Logic.{◌⊎◌, inl, inr, ◌≢◌}
use native.Mathlib.Omega.{arith}
use native.Mathlib.Nat.{lt_of_lt_of_le, not-suc-le-zero}
use native.Mathlib.Decide.{ℕ_discrete}
use borrow.Author.Tests.{eq-eqb, ne_eqb}
use lib.Dec.{T, eqb}
use lib.Pow.{pow_mono}
use Rattle.bits.specs.Word.{word_bits, bit, word}
use Rattle.bits.specs.Says.{Says}
use Rattle.bits.specs.Sets.{Members, add_if}
use Rattle.bits.specs.Those.{ThoseBelow}
use Rattle.bits.proofs.Laws.{lt_or_ge, bit_zero, bit_insert, bit_above, bit_word, word_lt, ext}
use Rattle.bits.proofs.Truths.{true_T, T_true, false_no}

pub those_none : (says : ℕ → Bool → Type 0) → ThoseBelow 0 says 0
those_none says = record { each = λ k l. absurd (not-suc-le-zero l); others = λ k l. bit_zero k }

added_apart : (w k : ℕ) (b : Bool) (j : ℕ) → j ≢ k → bit (add_if w k b) j ≡ bit w j
added_apart w k true j n = bit_insert w k j ∙ ap (λ (x : Bool). bit w j || x) (ne_eqb j k n) ∙ or-false (bit w j)
added_apart w k false j n = refl

added_here : (w k : ℕ) (b : Bool) → bit w k ≡ false → bit (add_if w k b) k ≡ b
added_here w k true e = bit_insert w k k ∙ ap (λ (x : Bool). x || eqb k k) e ∙ eq-eqb k k refl
added_here w k false e = e

-- k, which the test says b of, joins those below it
pub those_more : {says : ℕ → Bool → Type 0} {w v k : ℕ} {b : Bool} → ThoseBelow k says w → v ≡ add_if w k b → says k b → ThoseBelow (k + 1) says v
those_more {says} {w} {v} {k} {b} t e s = subst (ThoseBelow (k + 1) says) (sym e) (record {
  each = λ j l. below j (ℕ_discrete j k) l;
  others = λ j l. added_apart w k b j (λ h. let x : j ≡ k = h in omega arith) ∙ t.others j (omega arith);
})
  where
    below : (j : ℕ) → Dec (j ≡ k) → j < k + 1 → says j (bit (add_if w k b) j)
    below j (yes h) l = subst (λ (i : ℕ). says i (bit (add_if w k b) i)) (sym h) (subst (says k) (sym (added_here w k b (t.others k (omega arith)))) s)
    below j (no h) l =
        let d : j < k = le_ne j h l in
        subst (says j) (sym (added_apart w k b j h)) (t.each j d)
      where
        le_ne : (j : ℕ) → j ≢ k → j < k + 1 → j < k
        le_ne j h l = go (lt_or_ge j k)
          where
            go : (j < k) ⊎ (k ≤ j) → j < k
            go (inl d) = d
            go (inr d) = absurd (h (omega arith))

-- where the test tells whether P holds
pub those_members : {n w : ℕ} {P : ℕ → Type 0} {says : ℕ → Bool → Type 0} → ThoseBelow n says w → ((k : ℕ) (b : Bool) → k < n → says k b → Says b (P k)) → Members w (λ k. (k < n) × P k)
those_members {n} {w} {P} t h = record {
  holds = λ k i. holds k i (lt_or_ge k n);
  has = λ k p. true_T (on k p.0 p.1);
}
  where
    holds : (k : ℕ) → T (bit w k) → (k < n) ⊎ (n ≤ k) → (k < n) × P k
    holds k i (inl l) = (l, (h k (bit w k) l (t.each k l)).yes_holds (T_true (bit w k) i))
    holds k i (inr g) = absurd (false_no (t.others k g) i)

    on : (k : ℕ) → k < n → P k → bit w k ≡ true
    on k l p = go (bit w k) refl
      where
        go : (b : Bool) → bit w k ≡ b → bit w k ≡ true
        go true e = e
        go false e = absurd ((h k (bit w k) l (t.each k l)).no_fails e p)

-- where the test computes f
pub those_word : {n w : ℕ} {f : ℕ → Bool} {says : ℕ → Bool → Type 0} → ThoseBelow n says w → w < 2 ^ word_bits → n ≤ word_bits → ((k : ℕ) (b : Bool) → k < n → says k b → b ≡ f k) → w ≡ word n f
those_word {n} {w} {f} t few le h = ext word_bits w (word n f) few (lt_of_lt_of_le (word_lt n f) (pow_mono le)) (λ k l. go k (lt_or_ge k n))
  where
    go : (k : ℕ) → (k < n) ⊎ (n ≤ k) → bit w k ≡ bit (word n f) k
    go k (inl l) = h k (bit w k) l (t.each k l) ∙ sym (bit_word n f k l)
    go k (inr g) = t.others k g ∙ sym (bit_above n (word n f) k (word_lt n f) g)

-- at the end
pub those_all : {says : ℕ → Bool → Type 0} {w k n : ℕ} → ThoseBelow k says w → k ≤ n → n ≤ k → ThoseBelow n says w
those_all {says} {w} {k} {n} t l g = let e : k ≡ n = omega arith in subst (λ (m : ℕ). ThoseBelow m says w) e t
