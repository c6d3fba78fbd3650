-- The rules with no operand, and true[*]. Assumes nothing.
use Prim.Native.Nat.{ℕ, ◌+◌, ◌<◌, ◌≤◌}
use native.Mathlib.Omega.{arith}
use mathlib.Core.Path.{◌≡◌, refl, ap, ◌∙◌}
use mathlib.Core.Logic.{◌⊎◌, inl, inr, ◌↔◌}
use mathlib.Core.List.{List}
use lib.Dec.{T}
use borrow.Author.Tests.{lt-ltb}
use Rattle.bits.specs.Word.{bit, word, all}
use Rattle.bits.proofs.Laws.{lt_or_ge, bit_word, bit_all}
use Rattle.definitions.specs.Definition1.{Formula, yea, letter, empty}
use Rattle.definitions.specs.Definition2.{letter_count, holds}
use Rattle.automata.specs.Table.{table_states, cell}
use Rattle.automata.specs.Build.{auto, LetterStep, the_label, letter_a, PlusStep}
use Rattle.automata.specs.inner.Cells.{In, Put, Clean}
use Rattle.automata.specs.inner.Block.{Built, any_rule}
use Rattle.bits.proofs.Truths.{true_T}
use Rattle.automata.proofs.Labels.{Has}
use Rattle.automata.proofs.Places.{by_cell, by_none}

pub empty_built : (t : List ℕ) (base : ℕ) → Clean t base → base + 1 ≤ table_states → Built t t base empty
unfolding auto
empty_built t base clean room = record {
  block = record { label = λ p q x hp hq hx. by_none (cell t (base + p) (base + q)) x (clean.none (base + p) (base + q) (omega arith) (omega arith) (omega arith) (omega arith)) (λ s. s) };
  others = λ p q h out. refl;
}

module _ (t t₁ : List ℕ) (base w : ℕ) (f : Formula) (clean : Clean t base) (room : base + 2 ≤ table_states) (is : w ≡ word letter_count (holds f))
    (put : Put t t₁ base (base + 1) (base + 1) (base + 2) (λ p q. w)) where
  letter_word : (x : ℕ) → x < letter_count → Has w x ↔ T (holds f x)
  letter_word x h = let e : bit w x ≡ holds f x = ap (λ (v : ℕ). bit v x) is ∙ bit_word letter_count (holds f) x h in rw e (λ t. t, λ t. t)

  letter_label : (p q x : ℕ) → p < 2 → q < 2 → x < letter_count → Has (cell t₁ (base + p) (base + q)) x ↔ LetterStep (holds f) p x q
  letter_label p q x hp hq hx = go (lt_or_ge 0 p) (lt_or_ge 0 q)
    where
      blank : (In base (base + 1) (base + 1) (base + 2) (base + p) (base + q) → ⊥) → cell t₁ (base + p) (base + q) ≡ 0
      blank n = put.old (base + p) (base + q) (omega arith) n ∙ clean.none (base + p) (base + q) (omega arith) (omega arith) (omega arith) (omega arith)

      off : (0 < p) ⊎ (q ≤ 0) → LetterStep (holds f) p x q → ⊥
      off (inl l) (the_label d e s) = omega arith
      off (inr l) (the_label d e s) = omega arith

      fits : LetterStep (holds f) p x q → T (holds f x)
      fits (the_label d e s) = s

      go : (0 < p) ⊎ (p ≤ 0) → (0 < q) ⊎ (q ≤ 0) → Has (cell t₁ (base + p) (base + q)) x ↔ LetterStep (holds f) p x q
      go (inl l) k = by_none (cell t₁ (base + p) (base + q)) x (blank (λ i. omega arith)) (off (inl l))
      go (inr l) (inr k) = by_none (cell t₁ (base + p) (base + q)) x (blank (λ i. omega arith)) (off (inr k))
      go (inr l) (inl k) =
          by_cell (cell t₁ (base + p) (base + q)) w x (put.new (base + p) (base + q) (omega arith))
          (λ h. the_label (omega arith) (omega arith) ((letter_word x hx).0 h), λ s. (letter_word x hx).1 (fits s))

  pub letter_built : Built t t₁ base (letter f)
  unfolding auto
  letter_built = record {
    block = record { label = letter_label };
    others = λ p q h out. put.old p q h (λ i. out (omega arith));
  }

any_out : (p x q : ℕ) → PlusStep (letter_a (holds yea)) p x q → q ≡ 1
any_out p x q (PlusStep.a's (the_label d e s)) = e
any_out p x q (PlusStep.anew f (the_label d e s)) = e

any_in : (p x q : ℕ) → p < 2 → q ≡ 1 → PlusStep (letter_a (holds yea)) p x q
unfolding holds
any_in p x q l e = go (lt_or_ge 0 p)
  where
    go : (0 < p) ⊎ (p ≤ 0) → PlusStep (letter_a (holds yea)) p x q
    go (inl h) = PlusStep.anew (omega arith) (the_label refl e tt)
    go (inr h) = PlusStep.a's (the_label (omega arith) e tt)

module _ (t t₁ : List ℕ) (base : ℕ) (clean : Clean t base) (room : base + 2 ≤ table_states) (put : Put t t₁ base (base + 2) (base + 1) (base + 2) (λ p q. all letter_count)) where
  any_label : (p q x : ℕ) → p < 2 → q < 2 → x < letter_count → Has (cell t₁ (base + p) (base + q)) x ↔ PlusStep (letter_a (holds yea)) p x q
  any_label p q x hp hq hx = go (lt_or_ge 0 q)
    where
      go : (0 < q) ⊎ (q ≤ 0) → Has (cell t₁ (base + p) (base + q)) x ↔ PlusStep (letter_a (holds yea)) p x q
      go (inl k) =
          by_cell (cell t₁ (base + p) (base + q)) (all letter_count) x (put.new (base + p) (base + q) (omega arith))
          (λ h. any_in p x q hp (omega arith), λ s. true_T (bit_all letter_count x ∙ lt-ltb x letter_count hx))
      go (inr k) =
          by_none (cell t₁ (base + p) (base + q)) x
          (put.old (base + p) (base + q) (omega arith) (λ i. omega arith) ∙ clean.none (base + p) (base + q) (omega arith) (omega arith) (omega arith) (omega arith))
          (λ s. let e = any_out p x q s in omega arith)

  pub any_built : Built t t₁ base any_rule
  unfolding auto
  any_built = record {
    block = record { label = any_label };
    others = λ p q h out. put.old p q h (λ i. out (omega arith));
  }
