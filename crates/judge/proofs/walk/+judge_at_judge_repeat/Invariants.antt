-- `walk::judge_at` and `walk::judge_repeat` meet their contracts. The measure is twice the bytes left, and one more for a repetition: an operand begins
-- later than its rule, and a repetition is judged where its operand stands. Assumes nothing.
use Prim.Native.Nat.{◌+◌, ◌-◌, ◌*◌}
use lib.ListN.{length}
use Rattle.judge.proofs.walk.+judge_at_judge_repeat.Given as goal

abbrev pub decreases-judge_at : goal.decreases-judge_at
decreases-judge_at l = 2 * (length l.rule.now - l.at)

abbrev pub decreases-judge_repeat : goal.decreases-judge_repeat
decreases-judge_repeat l = 2 * (length l.rule.now - l.at) + 1
