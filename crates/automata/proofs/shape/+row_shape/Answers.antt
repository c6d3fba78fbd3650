-- The proof of `row_shape`, which calls itself. The measure is how many parts are allowed. Assumes nothing.
use native.Mathlib.Omega.{arith}
use Rattle.automata.proofs.RowEnds.{one_shape, more_shape, room_both}
use Rattle.automata.proofs.shape.+row_shape.Goals as goal

pub returns-then-c-eq1 : goal.returns-then-c-eq1
returns-then-c-eq1 t c = λ x e u. one_shape _ _ _ _ x e c.if-c-eq1.true c.requires.rising c.maybe.ensures u

pub pair_shape-requires : goal.pair_shape-requires
pair_shape-requires t c = let h = c.after_one.ensures in let l = c.requires.one in let b = room_both _ _ _ _ 0 c.requires (omega (arith, c.if-c-eq1.false)) h.1 c.row_shape-rest.ensures in (b.0, b.1, omega arith)

pub returns : goal.returns
returns t c = let h = c.after_one.ensures in let l = c.requires.one in λ x e u. more_shape _ _ _ _ _ x e (omega (arith, h.1)) (omega (arith, h.1, c.if-c-eq1.false)) c.maybe-2.ensures (rw h.0 at (c.pair_shape.ensures x _ e e u (c.row_shape-rest.ensures x e u)))
