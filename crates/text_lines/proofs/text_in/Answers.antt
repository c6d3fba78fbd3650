-- `text_in` leaves a closing newline away. Assumes nothing.
use native.Mathlib.Omega.{arith}
use mathlib.Core.Path.{◌∙◌}
use Rattle.text_lines.proofs.Inputs.{text_none, text_closed, text_open}
use Rattle.text_lines.proofs.text_in.Goals as goal

pub returns-then-long-eq0 : goal.returns-then-long-eq0
returns-then-long-eq0 c = text_none _ (omega arith)

pub returns-then-input-last-eq-NEWLINE : goal.returns-then-input-last-eq-NEWLINE
returns-then-input-last-eq-NEWLINE c = c.front.ensures ∙ text_closed c.args.input.now c.if-input-last-eq-NEWLINE.true

pub returns : goal.returns
returns c = text_open c.args.input.now c.if-input-last-eq-NEWLINE.false
