-- The table that is built of a rule stands, and what trimming makes of it serves the rule. Assumes nothing.
use Prim.Native.Nat.{ℕ, ◌<◌, ◌≤◌}
use native.Mathlib.Omega.{arith}
use mathlib.Core.Logic.{◌≢◌, inl, inr, ⊎_elim}
use mathlib.Core.List.{List}
use Rattle.bits.proofs.Laws.{lt_or_ge}
use Rattle.definitions.specs.Definition1.{Rule}
use Rattle.rules.specs.Weight.{weight_of}
use Rattle.rules.proofs.Weighing.{weight_pos}
use Rattle.automata.specs.Table.{table_states, cell, table_of}
use Rattle.automata.specs.Promise.{Serves}
use Rattle.automata.specs.IsTable.{IsTable, Words}
use Rattle.automata.proofs.Serving.{final_inside, outside, serves}
use Rattle.trims.specs.Stands.{Stands}
use Rattle.trims.specs.Trimmed.{Trimmed}
use Rattle.trims.proofs.Same.{serves_same}

module _ (r : Rule) (t : List ℕ) (f : ℕ) (is : IsTable r t f) (small : weight_of r ≤ table_states) (words : Words t) where
  label_inside : (p q : ℕ) → p < table_states → q < table_states → cell t p q ≢ 0 → (p < weight_of r) × (q < weight_of r)
  label_inside p q lp lq z = (
    ⊎_elim (λ h. h) (λ h. absurd (z (outside r t f is words p q lp lq (inl h)))) (lt_or_ge p (weight_of r)),
    ⊎_elim (λ h. h) (λ h. absurd (z (outside r t f is words p q lp lq (inr (inl h))))) (lt_or_ge q (weight_of r)),
  )

  pub built_stands : Stands t (weight_of r) f
  built_stands = record { some = weight_pos r; small = small; finals = λ q l b. final_inside r q ((is.ends q l).0 b); labels = label_inside }

  pub trimmed_serves : {u : List ℕ} {m g : ℕ} → Trimmed t u (weight_of r) f m g → Serves (table_of u m g) r
  trimmed_serves z = serves_same built_stands z r (serves r t f is (weight_of r) (omega arith) small words)
