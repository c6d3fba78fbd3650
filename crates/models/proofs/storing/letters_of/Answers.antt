-- `models::letters_of` meets its contract. Assumes nothing.
use native.Mathlib.Omega.{arith}
use mathlib.Core.Path.{refl}
use Rattle.models.specs.Reading.{letter}
use Rattle.models.proofs.Columns.{column_none, column_turn}
use Rattle.models.proofs.storing.letters_of.Goals as goal

pub loop-k-init : goal.loop-k-init
loop-k-init c = column_none _

pub loop-k-preserved : goal.loop-k-preserved
loop-k-preserved c = column_turn c.loop-k.k _ (letter c.args.model.now) c.loop-k.letters (omega arith) c.loop-k.invariant refl
