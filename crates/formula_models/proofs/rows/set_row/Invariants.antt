-- `rows::set_row` makes one word after the other. Assumes nothing.
use Rattle.formula_models.specs.inner.Rows.{Made}
use Rattle.formula_models.proofs.rows.set_row.Given as goal

abbrev pub invariant-loop-x : goal.invariant-loop-x
invariant-loop-x g l = Made l.initial.grid l.grid l.base l.x (λ x w y. goal.F-post g l.word x w y)
