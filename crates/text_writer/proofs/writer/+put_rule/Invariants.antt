-- The cycle of `put_rule`: the measure is what is left of the bytes from `at` on. Assumes nothing.
use Prim.Native.Nat.{◌-◌}
use lib.ListN.{length}
use Rattle.text_writer.proofs.writer.+put_rule.Given as goal

abbrev pub decreases-put_rule : goal.decreases-put_rule
decreases-put_rule l = length l.rule.now - l.at
