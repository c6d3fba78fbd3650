-- `rules::formula_past` meets its contract: where a formula stands, reading it comes to its end. Assumes nothing.
use borrow.Author.Rules.{rules}
use Rattle.rules.proofs.PlacesOnce.{formula_read}
use Rattle.rules.proofs.ends.formula_past.Goals as goal

pub returns : goal.returns
returns c = λ f e d. let h = formula_read _ _ c.formula_end.result c.formula_end.ensures f e d in search rules
