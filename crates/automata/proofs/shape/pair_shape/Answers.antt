-- `automata::shape::pair_shape` meets its contract. Assumes nothing.
use mathlib.Core.Path.{ap₂}
use Prim.Native.Nat.{ℕ, ◌+◌}
use native.Mathlib.Omega.{arith}
use Rattle.automata.proofs.Ends.{overlap_finals}
use Rattle.automata.proofs.FinalSets.{raise_finals}
use Rattle.automata.proofs.shape.pair_shape.Goals as goal

pub returns-in-Overlap : goal.returns-in-Overlap
returns-in-Overlap c = λ x y d e u v.
    rw c.in-Overlap.is
    (record { ends = v.ends; weighs = ap₂ (λ (i j : ℕ). i + j) u.weighs v.weighs; final_set = overlap_finals 0 _ _ x y (omega (arith, u.weighs)) (raise_finals c.raise.ensures v.final_set) })
