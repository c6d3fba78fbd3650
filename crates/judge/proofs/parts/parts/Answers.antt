-- `parts::parts` meets its contract: the rows passed are what the test says. Assumes nothing.
use mathlib.Core.Path.{refl}
use native.Mathlib.Omega.{arith}
use Rattle.judge.proofs.Rows.{rows_none, rows_one, rows_done}
use Rattle.judge.proofs.parts.parts.Goals as goal

pub loop-i-init : goal.loop-i-init
loop-i-init g c = rows_none refl

pub those-requires-clause-can : goal.those-requires-clause-can
those-requires-clause-can g c k l = c.requires _ k (omega arith) l

pub loop-i-preserved : goal.loop-i-preserved
loop-i-preserved g c = rows_one {row = c.those.result} c.loop-i.invariant (omega arith) c.those.ensures

pub returns : goal.returns
returns g c = rows_done (omega arith) c.loop-i.invariant
