-- `move_labels` writes the rows in rising order: what it reads stands in the row it writes or below. Assumes nothing.
use mathlib.Core.Path.{refl}
use native.Mathlib.Omega.{arith}
use Rattle.automata.proofs.Puts.{put_none, put_down, put_as}
use Rattle.trims.proofs.Moving.{moved_rows}
use Rattle.trims.proofs.moves.move_labels.Goals as goal

pub loop-i-init : goal.loop-i-init
loop-i-init c = put_none _ _ _ _ _ _ (omega arith)

pub loop-i-preserved : goal.loop-i-preserved
loop-i-preserved c = put_down _ (omega arith) (omega arith) (omega arith) c.loop-i.invariant c.move_row.ensures (moved_rows _ _ _ _ _ c.requires.2 c.loop-i.invariant)

pub returns : goal.returns
returns c = put_as c.loop-i.invariant refl (omega arith) refl refl (λ p q i. refl)
