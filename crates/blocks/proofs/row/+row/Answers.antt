-- The proof of `row`, which calls itself. The measure is how many parts are allowed. Assumes nothing.
use native.Mathlib.Omega.{arith}
use Rattle.automata.proofs.RowEnds.{room_both}
use Rattle.blocks.proofs.Rowing.{row_one, row_joined}
use Rattle.blocks.proofs.row.+row.Goals as goal

pub then-requires : goal.then-requires
then-requires t c = let room = c.requires.1 in let h = c.after_one-after.ensures in let l = c.if-c-gt1.true in let b = room_both _ _ _ _ _ room l h.1 c.row_shape-rest.ensures in record { long = omega (arith, c.requires.0, c.double.auto.t, c.row.auto.t); first_some = b.0; second_some = b.1; square = b.2; inside = omega arith }

pub returns-then-c-gt1 : goal.returns-then-c-gt1
returns-then-c-gt1 t c = let room = c.requires.1 in let h = c.after_one-after.ensures in let l = c.if-c-gt1.true in row_joined _ _ _ room _ _ _ _ _ _ l h.0 h.1 c.double.ensures c.row.ensures c.row_shape-rest.ensures c.then.ensures

pub returns-else-c-gt1 : goal.returns-else-c-gt1
returns-else-c-gt1 t c = row_one _ _ _ c.requires.1 _ c.if-c-gt1.false
