-- `rows::same` puts one word for each state. Assumes nothing.
use borrow.Author.Rules.{rules}
use Rattle.formula_models.proofs.Filling.{row_put}
use Rattle.formula_models.proofs.rows.same.Goals as goal

pub returns : goal.returns
returns c = row_put c.set_row.ensures (λ x y l s. search rules)
