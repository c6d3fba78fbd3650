-- `flip` by the cases of `flipped`. Assumes nothing.
use mathlib.Core.Path.{sym, ap}
use mathlib.Core.Bool.{Bool}
use Rattle.formulas.specs.Labels.{flipped}
use Rattle.formulas.proofs.flip.Goals as goal

pub returns-then-odd : goal.returns-then-odd
returns-then-odd c = sym (ap (λ (b : Bool). flipped b c.args.label) c.if-odd.true)

pub returns-else-odd : goal.returns-else-odd
returns-else-odd c = sym (ap (λ (b : Bool). flipped b c.args.label) c.if-odd.false)
