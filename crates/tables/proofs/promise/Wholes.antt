-- A block at 0 is the whole table. Assumes nothing.
use Prim.Native.Nat.{ℕ, ◌+◌, ◌<◌, ◌≤◌}
use native.Mathlib.Omega.{arith}
use mathlib.Core.Path.{◌∙◌}
use mathlib.Core.Logic.{◌⊎◌, inl, inr, ◌↔◌}
use mathlib.Core.List.{List}
use Rattle.bits.proofs.Laws.{lt_or_ge}
use Rattle.definitions.specs.Definition1.{Rule}
use Rattle.rules.specs.Weight.{weight_of}
use Rattle.automata.specs.Table.{table_states, cell}
use Rattle.automata.specs.Build.{auto}
use Rattle.automata.specs.inner.Cells.{In, Clean}
use Rattle.automata.specs.inner.Block.{FinalsAt, Built}
use Rattle.automata.specs.IsTable.{IsTable}
use Rattle.automata.proofs.Labels.{Has}
use Rattle.automata.proofs.Serving.{step_inside}
use Rattle.automata.proofs.Places.{by_none, block_at, final_at}
use Rattle.definitions.specs.Definition2.{letter_count}

module _ (t t₁ : List ℕ) (f : ℕ) (r : Rule) (clean : Clean t 0) (small : weight_of r ≤ table_states) (built : Built t t₁ 0 r) (ends : FinalsAt f 0 r) where
  table_label : (p q x : ℕ) → p < table_states → q < table_states → x < letter_count → Has (cell t₁ p q) x ↔ (auto r).step p x q
  table_label p q x hp hq hx = go (lt_or_ge p (weight_of r)) (lt_or_ge q (weight_of r))
    where
      off : (In 0 (0 + weight_of r) 0 (0 + weight_of r) p q → ⊥) → Has (cell t₁ p q) x ↔ (auto r).step p x q
      off n = by_none (cell t₁ p q) x (built.others p q hq n ∙ clean.none p q (omega arith) hp (omega arith) hq) (λ s. let d = step_inside r p x q s in n (omega arith))

      go : (p < weight_of r) ⊎ (weight_of r ≤ p) → (q < weight_of r) ⊎ (weight_of r ≤ q) → Has (cell t₁ p q) x ↔ (auto r).step p x q
      go (inl l) (inl k) = block_at t₁ 0 r built.block p q p q x (omega arith) (omega arith) l k hx
      go (inl l) (inr k) = off (λ i. omega arith)
      go (inr l) k = off (λ i. omega arith)

  pub is_table : IsTable r t₁ f
  is_table = record { label = table_label; ends = λ q h. final_at f 0 r ends q q (omega arith) h }
