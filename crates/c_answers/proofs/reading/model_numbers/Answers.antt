-- `c_answers::reading::model_numbers` meets its contract: what is given are the numbers of the case that the answer is. Assumes nothing.
use mathlib.Core.Path.{refl}
use Prim.Native.Nat.{ℕ}
use Rattle.models.specs.Answer as models
use Rattle.c_answers.specs.Numbers.{state_numbers}
use Rattle.c_answers.proofs.Given.{by_case, by_numbers, model_of}
use Rattle.c_answers.proofs.reading.model_numbers.Goals as goal

pub returns-in-Ok : goal.returns-in-Ok
returns-in-Ok c = by_case (model_of c.args.read.model) c.in-Ok.is refl

pub returns-in-Err : goal.returns-in-Err
returns-in-Err c = by_case (model_of c.args.read.model) c.in-Err.is (by_numbers (λ (n p : ℕ). state_numbers 0 (models.refused n p)) refl c.number.ensures c.place.ensures)
