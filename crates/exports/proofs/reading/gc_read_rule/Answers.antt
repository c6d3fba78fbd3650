-- `exports::reading::gc_read_rule` meets its contract: the library's answer is right, and its numbers are given. Assumes nothing.
use mathlib.Core.Path.{ap, ◌∙◌}
use Rattle.c_answers.specs.Numbers.{rule_numbers_of}
use Rattle.exports.proofs.reading.gc_read_rule.Goals as goal

pub returns : goal.returns
returns c = c.rule_numbers.ensures ∙ ap rule_numbers_of c.read_rule.ensures
