-- `step_on` meets its contract: a letter that fits is a step that moves. Assumes nothing.
use Rattle.walkers.proofs.Answers.{step_moved}
use Rattle.walkers.proofs.step_on.Goals as goal

pub returns : goal.returns
returns g c = let ok = c.in_default.ensures.ok in step_moved _ _ _ _ _ ok.0 ok.1 ok.2 c.advance-set.ensures c.led_to.ensures
