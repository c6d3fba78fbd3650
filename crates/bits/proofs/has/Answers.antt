use Rattle.bits.proofs.Laws.{test_bit}
use Rattle.bits.proofs.has.Goals as goal

pub returns : goal.returns
returns c = test_bit c.args.w c.args.k
