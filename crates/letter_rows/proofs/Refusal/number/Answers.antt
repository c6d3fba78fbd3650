-- `number` meets its contract: there is one refusal. Assumes nothing.
use Rattle.letter_rows.proofs.Refusing.{one_number}
use Rattle.letter_rows.proofs.Refusal.number.Goals as goal

pub returns : goal.returns
returns c = one_number c.args.self
