-- `past_nots` goes on while a `not` stands there; a formula stands wherever it is. Assumes nothing.
use Prim.Native.Nat.{◌-◌, ◌≤◌}
use lib.ListN.{length}
use Rattle.formulas.specs.Labels.{NotsTo}
use Rattle.formulas.proofs.past_nots.Given as goal

abbrev pub invariant-loop-end : goal.invariant-loop-end
invariant-loop-end l = (l.at ≤ l.end) × NotsTo l.rule l.at l.end l.odd

abbrev pub decreases-loop-end : goal.decreases-loop-end
decreases-loop-end l = length l.rule - l.end
