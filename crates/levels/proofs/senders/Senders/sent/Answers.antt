-- `sent` meets its contract. By the two cases of the test.
-- Assumes nothing.
use Rattle.bits.proofs.Sayings.{on, off}
use Rattle.bits.proofs.Truths.{true_T, T_true}
use Rattle.bits.proofs.Members.{members_zero}
use Rattle.levels.proofs.senders.Senders.sent.Goals as goal

pub bounds-self-s : goal.bounds-self-s
bounds-self-s c = (c.args.self.now.sending c.args.s c.requires.0).0

pub returns-then-has : goal.returns-then-has
returns-then-has c = record { holds = λ q t. record { steps = true_T (on c.has.ensures c.if-has.true); held = t }; has = λ q x. x.held }

pub returns : goal.returns
returns c = members_zero (λ q x. off c.has.ensures c.if-has.false (T_true _ x.steps))
