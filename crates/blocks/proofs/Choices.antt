-- `|`: a new first state in front of the two blocks. Assumes nothing.
use Prim.Native.Nat.{ℕ, ◌+◌, ◌-◌, ◌<◌, ◌≤◌}
use native.Mathlib.Omega.{arith}
use mathlib.Core.Path.{◌≡◌, ◌∙◌}
use mathlib.Core.Logic.Iff
use mathlib.Core.Logic.{◌⊎◌, inl, inr, ◌↔◌}
use mathlib.Core.List.{List}
use Rattle.bits.proofs.Laws.{lt_or_ge}
use Rattle.definitions.specs.declared.kinds.Pair.TheVariants.{Either}
use Rattle.definitions.specs.Definition1.{Rule, two}
use Rattle.rules.specs.Weight.{weight_of}
use Rattle.automata.specs.declared.shape.Shape.{Shape}
use Rattle.automata.specs.Table.{table_states, cell}
use Rattle.automata.specs.Build.{auto, Up, EitherStep}
use Rattle.automata.specs.inner.Cells.{In, Put, Clean, chosen}
use Rattle.automata.specs.inner.Block.{Built, Beside}
use Rattle.blocks.specs.inner.Building.{Room, Joins}
use Rattle.automata.proofs.Labels.{Has, chosen_left, chosen_right}
use Rattle.automata.proofs.language.Eithers.{either_a_lem, either_b}
use Rattle.automata.proofs.language.Language.{good, size_weight}
use Rattle.automata.proofs.Serving.{step_inside}
use Rattle.automata.proofs.Places.{by_cell, by_none, drop_none, block_at, drop_sum, blank}
use Rattle.definitions.specs.Definition2.{letter_count}

-- a state of `|` is the new one, one of a's moved up by 1, or one of b's moved up by 1+m
data Third (m n p : ℕ) : Type 0 where
  new : p ≡ 0 → Third m n p
  of_a : (i : ℕ) → p ≡ 1 + i → i < m → Third m n p
  of_b : (i : ℕ) → p ≡ 1 + m + i → i < n → Third m n p

third : (m n p : ℕ) → p < 1 + m + n → Third m n p
third m n p l = go (lt_or_ge p 1) (lt_or_ge p (1 + m))
  where
    go : (p < 1) ⊎ (1 ≤ p) → (p < 1 + m) ⊎ (1 + m ≤ p) → Third m n p
    go (inl h) k = new (omega arith)
    go (inr h) (inl k) = of_a (p - 1) (omega arith) (omega arith)
    go (inr h) (inr k) = of_b (p - (1 + m)) (omega arith) (omega arith)

module _ (a b : Rule) where
  -- the new state goes wherever the first states go
  new_a_out : (x q j : ℕ) → q ≡ 1 + j → j < weight_of a → EitherStep (auto a) (auto b) 0 x q → (auto a).step 0 x j
  new_a_out x q j e l (EitherStep.a's (Up.up i k d d' s)) = absurd (omega arith)
  new_a_out x q j e l (EitherStep.b's (Up.up i k d d' s)) = absurd (omega arith)
  new_a_out x q j e l (EitherStep.from_a k d d' s) = let z : k ≡ j = omega arith in rw z at s
  new_a_out x q j e l (EitherStep.from_b k d d' s) = absurd (omega (arith, size_weight a))

  new_b_out : (x q j : ℕ) → q ≡ 1 + weight_of a + j → EitherStep (auto a) (auto b) 0 x q → (auto b).step 0 x j
  new_b_out x q j e (EitherStep.a's (Up.up i k d d' s)) = absurd (omega arith)
  new_b_out x q j e (EitherStep.b's (Up.up i k d d' s)) = absurd (omega arith)
  new_b_out x q j e (EitherStep.from_a k d d' s) = let l = step_inside a 0 x k s in absurd (omega arith)
  new_b_out x q j e (EitherStep.from_b k d d' s) = let z : k ≡ j = omega (arith, size_weight a) in rw z at s

  new_a_step : (p x q j : ℕ) → p ≡ 0 → q ≡ 1 + j → j < weight_of a → (auto (two Either a b)).step p x q ↔ (auto a).step 0 x j
  unfolding auto
  new_a_step p x q j d e l = (λ s. new_a_out x q j e l (rw d at s), λ s. EitherStep.from_a j d e s)

  new_b_step : (p x q j : ℕ) → p ≡ 0 → q ≡ 1 + weight_of a + j → (auto (two Either a b)).step p x q ↔ (auto b).step 0 x j
  unfolding auto
  new_b_step p x q j d e = (λ s. new_b_out x q j e (rw d at s), λ s. EitherStep.from_b j d (omega (arith, size_weight a)) s)

  either_a_step : (p x q i : ℕ) → p ≡ 1 + i → i < weight_of a → (auto (two Either a b)).step p x q ↔ ((j : ℕ) × (q ≡ 1 + j) × (auto a).step i x j)
  unfolding auto
  either_a_step p x q i d l = rw d (either_a_lem (auto a) (auto b) (good a) (good b) i x q (omega (arith, size_weight a)))

  either_b_step : (p x q i : ℕ) → p ≡ 1 + weight_of a + i → (auto (two Either a b)).step p x q ↔ ((j : ℕ) × (q ≡ 1 + (auto a).size + j) × (auto b).step i x j)
  unfolding auto
  either_b_step p x q i d =
      let d' : p ≡ 1 + (auto a).size + i = omega (arith, size_weight a) in rw d' (either_b (auto a) (auto b) (good a) (good b) i x q)

module _ (t t₂ t₃ : List ℕ) (base : ℕ) (a b : Rule) (clean : Clean t base) (room : base + 1 + weight_of a + weight_of b ≤ table_states) (s : Beside t t₂ (base + 1) a b)
    (put : Put t₂ t₃ base (base + 1) (base + 1) (base + 1 + weight_of a + weight_of b) (chosen t₂ base (base + 1 + weight_of a))) where
  -- a place outside both blocks
  outer : (P Q : ℕ) → base ≤ P → P < table_states → base ≤ Q → Q < table_states → (In base (base + 1) (base + 1) (base + 1 + weight_of a + weight_of b) P Q → ⊥)
      → (In (base + 1) (base + 1 + weight_of a) (base + 1) (base + 1 + weight_of a) P Q → ⊥)
      → (In (base + 1 + weight_of a) (base + 1 + weight_of a + weight_of b) (base + 1 + weight_of a) (base + 1 + weight_of a + weight_of b) P Q → ⊥) → cell t₃ P Q ≡ 0
  outer P Q hp lp hq lq u v w = put.old P Q lq u ∙ blank t t₂ base (base + 1) a b clean s P Q hp lp hq lq v w

  either_label : (p q x : ℕ) → p < 1 + weight_of a + weight_of b → q < 1 + weight_of a + weight_of b → x < letter_count
      → Has (cell t₃ (base + p) (base + q)) x ↔ (auto (two Either a b)).step p x q
  either_label p q x hp hq hx = go (third (weight_of a) (weight_of b) p hp) (third (weight_of a) (weight_of b) q hq)
    where
      go : Third (weight_of a) (weight_of b) p → Third (weight_of a) (weight_of b) q → Has (cell t₃ (base + p) (base + q)) x ↔ (auto (two Either a b)).step p x q
      go u (new e) =
          by_none (cell t₃ (base + p) (base + q)) x
          (outer (base + p) (base + q) (omega arith) (omega arith) (omega arith) (omega arith) (λ i. omega arith) (λ i. omega arith) (λ i. omega arith))
          (λ z. let k = (step_inside (two Either a b) p x q z).no0 in omega arith)
      go (new d) (of_a j e l) =
          by_cell (cell t₃ (base + p) (base + q)) (chosen t₂ base (base + 1 + weight_of a) (base + p) (base + q)) x (put.new (base + p) (base + q) (omega arith))
          (Iff.trans (chosen_left t₂ base (base + 1 + weight_of a) (base + p) (base + q) x (omega arith))
          (Iff.trans (drop_none (cell t₂ (base + p) (base + q)) x
          (blank t t₂ base (base + 1) a b clean s (base + p) (base + q) (omega arith) (omega arith) (omega arith) (omega arith) (λ i. omega arith) (λ i. omega arith)))
          (Iff.trans (block_at t₂ (base + 1) a s.a_block (base + 1) (base + q) 0 j x (omega arith) (omega arith) (omega arith) l hx)
          (Iff.symm (new_a_step a b p x q j d e l)))))
      go (new d) (of_b j e l) =
          by_cell (cell t₃ (base + p) (base + q)) (chosen t₂ base (base + 1 + weight_of a) (base + p) (base + q)) x (put.new (base + p) (base + q) (omega arith))
          (Iff.trans (chosen_right t₂ base (base + 1 + weight_of a) (base + p) (base + q) x (omega arith))
          (Iff.trans (drop_none (cell t₂ (base + p) (base + q)) x
          (blank t t₂ base (base + 1) a b clean s (base + p) (base + q) (omega arith) (omega arith) (omega arith) (omega arith) (λ i. omega arith) (λ i. omega arith)))
          (Iff.trans (block_at t₂ (base + 1 + weight_of a) b s.b_block (base + 1 + weight_of a) (base + q) 0 j x (omega arith) (omega arith) (omega arith) l hx)
          (Iff.symm (new_b_step a b p x q j d e)))))
      go (of_a i d l) (of_a j e k) =
          by_cell (cell t₃ (base + p) (base + q)) (cell t₂ (base + p) (base + q)) x (put.old (base + p) (base + q) (omega arith) (λ i. omega arith))
          (Iff.trans (block_at t₂ (base + 1) a s.a_block (base + p) (base + q) i j x (omega arith) (omega arith) l k hx)
          (Iff.symm (Iff.trans (either_a_step a b p x q i d l) (drop_sum {P = λ z. (auto a).step i x z} 1 j q e))))
      go (of_a i d l) (of_b j e k) =
          by_none (cell t₃ (base + p) (base + q)) x
          (outer (base + p) (base + q) (omega arith) (omega arith) (omega arith) (omega arith) (λ i. omega arith) (λ i. omega arith) (λ i. omega arith))
          (λ z. let h = (either_a_step a b p x q i d l).0 z in let k = (step_inside a i x h.0 h.2).hi in omega (arith, h.1))
      go (of_b i d l) (of_a j e k) =
          by_none (cell t₃ (base + p) (base + q)) x
          (outer (base + p) (base + q) (omega arith) (omega arith) (omega arith) (omega arith) (λ i. omega arith) (λ i. omega arith) (λ i. omega arith))
          (λ z. let h = (either_b_step a b p x q i d).0 z in omega (arith, h.1, size_weight a))
      go (of_b i d l) (of_b j e k) =
          let e' : q ≡ 1 + (auto a).size + j = omega (arith, size_weight a) in
          by_cell (cell t₃ (base + p) (base + q)) (cell t₂ (base + p) (base + q)) x (put.old (base + p) (base + q) (omega arith) (λ i. omega arith))
          (Iff.trans (block_at t₂ (base + 1 + weight_of a) b s.b_block (base + p) (base + q) i j x (omega arith) (omega arith) l k hx)
          (Iff.symm (Iff.trans (either_b_step a b p x q i d) (drop_sum {P = λ z. (auto b).step i x z} (1 + (auto a).size) j q e'))))

  either_block : Built t t₃ base (two Either a b)
  either_block = record {
    block = record { label = either_label };
    others = λ p q h out. put.old p q h (λ i. out (omega arith)) ∙ s.others p q h (λ i. out (omega arith)) (λ i. out (omega arith));
  }

-- the new state at base, a at base + 1 to mid, b at mid to hi
module _ (t t₂ t₃ : List ℕ) (base mid hi : ℕ) (a b : Rule) (clean : Clean t base) (e : mid ≡ base + 1 + weight_of a) (d : hi ≡ mid + weight_of b) (room : hi ≤ table_states)
    (s : Beside t t₂ (base + 1) a b) where
  pub either_built : Put t₂ t₃ base (base + 1) (base + 1) hi (chosen t₂ base mid) → Built t t₃ base (two Either a b)
  either_built put = either_block t t₂ t₃ base a b clean (omega arith) s (rw (d, e) at put)

-- over operands of the shapes a and b
pub either_joins : (a b : Shape) (t t' : List ℕ) (base : ℕ) → Room Either a b t base
    → Put t t' base (base + 1) (base + 1) (base + 1 + a.weight + b.weight) (chosen t base (base + 1 + a.weight)) → Joins Either a b t t' base
either_joins a b t t' base room put = record {
  joined = λ t₀ x y d e clean u v s. either_built t₀ t t' base _ _ x y clean (omega (arith, u.weighs)) (omega (arith, v.weighs)) (omega (arith, room.square)) s put;
}
