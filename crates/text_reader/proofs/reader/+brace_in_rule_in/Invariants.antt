-- The cycle of `rule_in` and `brace_in`: the measure is twice the characters left, and one more after "{". Assumes nothing.
use Prim.Native.Nat.{◌+◌, ◌-◌, ◌*◌}
use lib.ListN.{length}
use Rattle.text_reader.proofs.reader.+brace_in_rule_in.Given as goal

abbrev pub decreases-brace_in : goal.decreases-brace_in
decreases-brace_in l = 2 * (length l.text.now - l.at) + 1

abbrev pub decreases-rule_in : goal.decreases-rule_in
decreases-rule_in l = 2 * (length l.text.now - l.at)
