-- `model_in` finds the model of an input. Assumes nothing.
use native.Mathlib.Omega.{arith}
use mathlib.Core.Path.{◌∙◌}
use Rattle.lines.proofs.Inputs.{model_none, model_part, model_rest}
use Rattle.lines.proofs.model_in.Goals as goal

pub returns-then-input-eq0 : goal.returns-then-input-eq0
returns-then-input-eq0 c = model_none _ (omega arith)

pub returns-then-rest-long : goal.returns-then-rest-long
returns-then-rest-long c = c.past.ensures
    ∙ model_rest c.args.input.now _ _ (omega arith) c.past-rest.ensures c.long_of-long.ensures (omega arith)

pub returns : goal.returns
returns c = c.past-2.ensures
    ∙ model_part c.args.input.now _ _ (omega arith) c.past-rest.ensures c.long_of-long.ensures
