-- `rows::join_rows` joins the words of each state. Assumes nothing.
use borrow.Author.Rules.{rules}
use Rattle.formula_models.specs.inner.Rows.{join_words_of}
use Rattle.formula_models.proofs.Filling.{row_joined}
use Rattle.formula_models.proofs.rows.join_rows.Goals as goal

pub returns : goal.returns
returns c = let e = c.split_at_mut-rows.ensures in
    row_joined (join_words_of c.args.j) e.front e.back c.requires c.set_row.ensures (λ x w y l s. search rules)
