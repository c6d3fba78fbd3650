-- `rules::rule_past` meets its contract: where a rule stands, reading it comes to its end. Assumes nothing.
use borrow.Author.Rules.{rules}
use Rattle.rules.proofs.PlacesOnce.{rule_read}
use Rattle.rules.proofs.ends.rule_past.Goals as goal

pub returns : goal.returns
returns c = λ f e d. let h = rule_read _ _ c.rule_end.result c.rule_end.ensures f e d in search rules
