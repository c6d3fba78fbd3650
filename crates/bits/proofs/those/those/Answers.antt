-- `bits::those` meets its contract. Assumes nothing.
use Rattle.bits.proofs.Chosen.{those_none, those_more, those_all}
use Rattle.bits.proofs.those.those.Goals as goal

pub loop-k-init : goal.loop-k-init
loop-k-init g c = those_none _

pub loop-k-preserved : goal.loop-k-preserved
loop-k-preserved g c = those_more c.loop-k.invariant c.with_if-set.ensures c.test.ensures

pub returns : goal.returns
returns g c = those_all c.loop-k.invariant c.loop-k.auto.k-end c.loop-k-test.false
