-- `place` meets its contract: there is one refusal. Assumes nothing.
use Rattle.letter_rows.proofs.Refusing.{one_place}
use Rattle.letter_rows.proofs.Refusal.place.Goals as goal

pub returns : goal.returns
returns c = one_place c.args.self
