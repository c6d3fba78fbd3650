-- `led_to` meets its contract: its letter is the first that matches, or the first match stays. Assumes nothing.
use native.Mathlib.Omega.{arith}
use Rattle.std.proofs.lemmas.Grind.{common_steps}
use Rattle.walkers.proofs.Answers.{led_first, led_on}
use Rattle.walkers.proofs.Walker.led_to.Goals.{then-is_first, else-is_first}
use Rattle.walkers.proofs.Walker.led_to.Goals as goal

pub returns : goal.returns
returns c =
    elim c.if-is_first.branch [
      | then-is_first h ↦ led_first c.args.self _ (omega arith) _ (grind (arith, common_steps)) (grind (arith, common_steps)) h.result-is
      | else-is_first h ↦ led_on c.args.self _ (omega arith) _ (grind (arith, common_steps)) h.result-is
    ]
