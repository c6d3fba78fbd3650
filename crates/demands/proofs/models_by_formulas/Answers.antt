-- `demands::models_by_formulas` meets its contract. Assumes nothing.
use Rattle.demands.proofs.FormulaModels.{formula_answer}
use Rattle.demands.proofs.models_by_formulas.Goals as goal

pub returns : goal.returns
returns c = formula_answer
