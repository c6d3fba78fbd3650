-- `squares::turn_over` meets its contract: a square of zeros is its own. Assumes nothing.
use Rattle.squares.proofs.Turning.{empty_over}
use Rattle.squares.proofs.turn_over.Goals as goal

pub returns-then-empty : goal.returns-then-empty
returns-then-empty c = empty_over (c.empty.ensures.yes_holds c.if-empty.true)
