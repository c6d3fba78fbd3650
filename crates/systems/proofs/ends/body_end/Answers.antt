-- `systems::ends::body_end` meets its contract. Assumes nothing.
use mathlib.Core.Path.{refl}
use native.Mathlib.Omega.{arith}
use Rattle.systems.specs.Reading.{body}
use Rattle.systems.proofs.Scan.{ended, bad_body}
use Rattle.systems.proofs.ends.body_end.Goals as goal

pub returns-then-system-at : goal.returns-then-system-at
returns-then-system-at c = ended _ _ body c.if-system-at.true

pub returns-then-system-at-le-LAST_VARIABLE : goal.returns-then-system-at-le-LAST_VARIABLE
returns-then-system-at-le-LAST_VARIABLE c = record { inside = omega arith; byte = refl; small = omega arith; ends = refl }

pub returns-else-system-at-le-LAST_VARIABLE : goal.returns-else-system-at-le-LAST_VARIABLE
returns-else-system-at-le-LAST_VARIABLE c = bad_body _ _ (omega arith) c.if-system-at-le-LAST_VARIABLE.false
