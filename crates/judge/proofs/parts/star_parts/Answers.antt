-- `parts::star_parts` meets its contract: from the last row down, the rows passed say what they are to say. Assumes nothing.
use mathlib.Core.Path.{refl}
use native.Mathlib.Omega.{arith}
use borrow.Author.Rules.{rules}
use Rattle.judge.proofs.Rows.{stars_none, stars_one, stars_done, row_by}
use Rattle.judge.proofs.parts.star_parts.Goals as goal

pub loop-i-init : goal.loop-i-init
loop-i-init c = stars_none refl

pub loop-i-preserved : goal.loop-i-preserved
loop-i-preserved c = stars_one (omega arith) (omega arith) c.loop-i.invariant (row_by c.those.ensures (λ e b l s. search rules))

pub returns : goal.returns
returns c = stars_done (omega arith) c.loop-i.invariant
