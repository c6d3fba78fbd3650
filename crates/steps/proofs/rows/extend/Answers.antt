-- `steps::rows::extend` meets its contract. By the three cases of the label.
-- Assumes nothing.
use mathlib.Core.Path.{refl}
use Rattle.steps.specs.inner.Puts.{nothing, longer, other}
use Rattle.steps.proofs.rows.extend.Goals as goal

pub returns-then-label-eq0 : goal.returns-then-label-eq0
returns-then-label-eq0 c = (refl, nothing c.if-label-eq0.true refl refl refl)

pub with-requires : goal.with-requires
with-requires c = c.requires.2

pub returns-then-label-before : goal.returns-then-label-before
returns-then-label-before c = (refl, longer c.if-label-before.true c.if-label-before.true c.with.ensures refl)

pub scatter-requires : goal.scatter-requires
scatter-requires c = (c.requires.0, c.requires.1)

pub with-requires-2 : goal.with-requires-2
with-requires-2 c = c.requires.2

pub shape_of-rows : goal.shape_of-rows
shape_of-rows c = c.scatter.ensures.size

pub returns : goal.returns
returns c = (c.scatter.ensures.size, other c.scatter.ensures refl c.with-2.ensures)
