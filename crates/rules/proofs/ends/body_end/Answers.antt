-- `rules::body_end` meets its contract. Assumes nothing.
use borrow.Author.Rules.{rules}
use Rattle.rules.specs.Reading.{body}
use Rattle.rules.proofs.Scan.{ended, bad_body}
use Rattle.rules.proofs.ends.body_end.Goals as goal

pub returns-then-rule-at : goal.returns-then-rule-at
returns-then-rule-at c = ended c.args.rule.now c.args.at body c.if-rule-at.true

pub returns-else-rule-at-le-LAST_PROPOSITION : goal.returns-else-rule-at-le-LAST_PROPOSITION
returns-else-rule-at-le-LAST_PROPOSITION c = bad_body _ _ (search rules) (search rules)
