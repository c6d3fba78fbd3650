-- `step::in_label` reads the label from p to q. Assumes nothing.
use Prim.Native.Nat.{ℕ}
use mathlib.Core.Path.{ap, ◌∙◌}
use Rattle.bits.specs.Word.{bit}
use Rattle.automata.proofs.step.in_label.Goals as goal

pub returns : goal.returns
returns c = c.has.ensures ∙ ap (λ (v : ℕ). bit v c.args.x) c.get.ensures
