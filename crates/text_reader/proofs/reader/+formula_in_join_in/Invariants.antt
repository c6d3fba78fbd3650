-- The cycle of `formula_in` and `join_in`: the measure is twice the characters left, and one more after "(". Assumes nothing.
use Prim.Native.Nat.{◌+◌, ◌-◌, ◌*◌}
use lib.ListN.{length}
use Rattle.text_reader.proofs.reader.+formula_in_join_in.Given as goal

abbrev pub decreases-formula_in : goal.decreases-formula_in
decreases-formula_in l = 2 * (length l.text.now - l.at)

abbrev pub decreases-join_in : goal.decreases-join_in
decreases-join_in l = 2 * (length l.text.now - l.at) + 1
