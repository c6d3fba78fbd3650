-- `move_row` writes the columns in rising order: what it reads stands at or past the column it writes. Assumes nothing.
use mathlib.Core.Path.{refl, ◌∙◌}
use native.Mathlib.Omega.{arith}
use Rattle.automata.proofs.Puts.{put_none, put_step, put_as}
use Rattle.trims.proofs.Moving.{moved_in_row}
use Rattle.trims.proofs.moves.move_row.Goals as goal

pub loop-j-init : goal.loop-j-init
loop-j-init c = put_none _ _ _ _ _ _ (omega arith)

pub loop-j-preserved : goal.loop-j-preserved
loop-j-preserved c = put_step (omega arith) (omega arith) c.loop-j.invariant c.put.ensures
    (c.moved_label-v.ensures ∙ moved_in_row _ _ _ c.args.i c.loop-j.j c.requires.2 c.loop-j.invariant)

pub returns : goal.returns
returns c = put_as c.loop-j.invariant refl refl refl (omega arith) (λ p q i. refl)
