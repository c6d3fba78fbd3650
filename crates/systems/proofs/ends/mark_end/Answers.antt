-- `systems::ends::mark_end` meets its contract. Assumes nothing.
use mathlib.Core.Path.{refl}
use native.Mathlib.Omega.{arith}
use Rattle.systems.specs.Reading.{mark}
use Rattle.systems.proofs.Scan.{ended, no_mark}
use Rattle.systems.proofs.ends.mark_end.Goals as goal

pub returns-then-system-at : goal.returns-then-system-at
returns-then-system-at c = ended _ _ (mark _) c.if-system-at.true

pub returns-then-system-at-2 : goal.returns-then-system-at-2
returns-then-system-at-2 c = record { inside = omega arith; byte = c.if-system-at-2.true; ends = refl }

pub returns-else-system-at-2 : goal.returns-else-system-at-2
returns-else-system-at-2 c = let a = c.args in
    no_mark a.system.now a.mark a.at c.misplaced.result (omega arith) c.if-system-at-2.false c.misplaced.ensures
