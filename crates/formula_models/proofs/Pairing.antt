-- This state and the next as one number: what a variable of either is there, and the set of successors of each form of a formula. Assumes nothing.
use Prim.Native.Nat.{ℕ, ◌+◌, ◌*◌, ◌-◌, ◌^◌, ◌<◌, ◌≤◌}
use native.Mathlib.Omega.{arith}
use mathlib.Core.Path.{◌≡◌, sym, ap, ap₂, ◌∙◌}
use mathlib.Core.Bool.{Bool, true, false}
use lib.Bits.{bit_or, bit_and}
use Rattle.bits.specs.Word.{bit, word}
use Rattle.bits.proofs.Laws.{bit_cat_low, bit_cat_high, word_lt, bit_word, word_unique, word_and, word_or, word_not, word_no_bit, word_every_bit}
use Rattle.definitions.specs.declared.kinds.Junction.{Junction}
use Rattle.definitions.specs.declared.kinds.Junction.TheVariants.{And, Or}
use Rattle.definitions.specs.Definition1.{Formula, prop, yea, nay, neg, join}
use Rattle.definitions.specs.Definition2.{holds}
use Rattle.models.specs.Model.{model_states}
use Rattle.systems.specs.Reading.{last_variable, variable_count}
use Rattle.formula_models.specs.Meaning.{both, successors}
use Rattle.formula_models.specs.inner.Rows.{all_if_of, join_words_of}

-- equal bits, equal words
word_same : (n : ℕ) (f g : ℕ → Bool) → ((k : ℕ) → k < n → f k ≡ g k) → word n f ≡ word n g
word_same n f g e = word_unique n (word n f) g (word_lt n f) (λ k h. bit_word n f k h ∙ e k h)

module _ (x : ℕ) (h : x < model_states) where
  -- both x y has the bits of x and then those of y
  pub now_bit : (y i : ℕ) → i ≤ last_variable → bit (both x y) i ≡ bit x i
  now_bit y i l = let e : both x y ≡ y * 2 ^ 6 + x = omega arith in ap (λ (w : ℕ). bit w i) e ∙ bit_cat_low 6 y x i (omega arith) (omega arith)

  pub next_bit : (y i : ℕ) → bit (both x y) (variable_count + i) ≡ bit y i
  next_bit y i = let e : both x y ≡ y * 2 ^ 6 + x = omega arith in ap (λ (w : ℕ). bit w (variable_count + i)) e ∙ bit_cat_high 6 y x i (omega arith)

  pub all_or_none : (b : Bool) → all_if_of b ≡ word model_states (λ y. b)
  all_or_none true = word_every_bit model_states
  all_or_none false = word_no_bit model_states

  pub successors_now : (i : ℕ) → i ≤ last_variable → all_if_of (bit x i) ≡ successors (prop i) x
  unfolding holds
  successors_now i l = all_or_none (bit x i) ∙ word_same model_states (λ y. bit x i) (λ y. bit (both x y) i) (λ y k. sym (now_bit y i l))

  pub successors_next : (i : ℕ) → word model_states (λ y. bit y i) ≡ successors (prop (variable_count + i)) x
  unfolding holds
  successors_next i = word_same model_states (λ y. bit y i) (λ y. bit (both x y) (variable_count + i)) (λ y k. sym (next_bit y i))

  pub successors_yea : all_if_of true ≡ successors yea x
  unfolding holds
  successors_yea = word_every_bit model_states

  pub successors_nay : all_if_of false ≡ successors nay x
  unfolding holds
  successors_nay = word_no_bit model_states

  pub successors_neg : (f : Formula) (a : ℕ) → a ≡ successors f x → 2 ^ model_states - 1 - a ≡ successors (neg f) x
  unfolding holds
  successors_neg f a e = ap (λ (w : ℕ). 2 ^ model_states - 1 - w) e ∙ word_not model_states (λ y. holds f (both x y))

  pub successors_join : (j : Junction) (f g : Formula) (a b : ℕ) → a ≡ successors f x → b ≡ successors g x → join_words_of j a b ≡ successors (join j f g) x
  unfolding holds
  successors_join And f g a b p q = ap₂ bit_and p q ∙ word_and model_states (λ y. holds f (both x y)) (λ y. holds g (both x y))
  successors_join Or f g a b p q = ap₂ bit_or p q ∙ word_or model_states (λ y. holds f (both x y)) (λ y. holds g (both x y))
