-- `rule_in` finds the rule of an input. Assumes nothing.
use native.Mathlib.Omega.{arith}
use mathlib.Core.Path.{◌∙◌}
use Rattle.lines.proofs.Inputs.{rule_none, rule_part, rule_rest}
use Rattle.lines.proofs.rule_in.Goals as goal

pub returns-then-input-eq0 : goal.returns-then-input-eq0
returns-then-input-eq0 c = rule_none _ (omega arith)

pub returns-then-rest-long : goal.returns-then-rest-long
returns-then-rest-long c = rule_rest c.args.input.now _ _ (omega arith) c.past-rest.ensures c.long_of-long.ensures (omega arith)

pub returns : goal.returns
returns c = c.front.ensures
    ∙ rule_part c.args.input.now _ _ (omega arith) c.past-rest.ensures c.long_of-long.ensures
