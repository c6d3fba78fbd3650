-- `bits::rising`: taking the lowest member leaves one member fewer. Assumes nothing.
use borrow.Author.Rules.{rules}
use Rattle.bits.proofs.Resting.{rest_all, turn_less}
use Rattle.bits.proofs.rising.RisingIterator.next.Goals as goal

pub returns-clause-goes : goal.returns-clause-goes
returns-clause-goes c = record {
  on = λ f. (tt, tt, turn_less (rest_all (search rules)) c.lowest-k.ensures c.without-self.ensures);
  keeps = tt;
  rests = λ f. tt;
}
