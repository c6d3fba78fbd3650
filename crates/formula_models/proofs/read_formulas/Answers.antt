-- `formula_models::read_formulas` meets its contract. Assumes nothing.
use native.Mathlib.Omega.{arith}
use Rattle.std.proofs.lemmas.Result.{err_from_is_err_and}
use Rattle.formula_models.proofs.Finish.{told_refused, told_short, system_stands, told_written}
use Rattle.formula_models.proofs.read_formulas.Goals as goal

pub returns-in_err-step : goal.returns-in_err-step
returns-in_err-step c = let p = err_from_is_err_and c.from_residual.result c.from_residual.ensures.1 in
    rw (p.1, p.2) (told_refused c.args.formulas.now c.args.model.now _ c.in_err-step.ensures)

pub returns-then-model-lt-MODEL_BYTES : goal.returns-then-model-lt-MODEL_BYTES
returns-then-model-lt-MODEL_BYTES c = told_short _ _ c.in_ok-step.step c.in_ok-step.ensures (omega arith)

pub write_model-requires : goal.write_model-requires
write_model-requires c = (system_stands _ c.args.model.now c.in_ok-step.step c.in_ok-step.ensures, c.if-model-lt-MODEL_BYTES.false)

pub returns : goal.returns
returns c = told_written _ _ c.in_ok-step.step c.in_ok-step.ensures c.if-model-lt-MODEL_BYTES.false c.write_model.ensures
