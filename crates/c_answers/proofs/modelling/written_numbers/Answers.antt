-- `c_answers::modelling::written_numbers` meets its contract: what is given are the numbers of the case that the answer is. Assumes nothing.
use mathlib.Core.Path.{refl}
use Prim.Native.Nat.{ℕ}
use Rattle.formula_models.specs.Answer as formula_answer
use Rattle.c_answers.specs.Numbers.{written_numbers_of}
use Rattle.c_answers.proofs.Given.{by_case, by_numbers, written_of}
use Rattle.c_answers.proofs.modelling.written_numbers.Goals as goal

pub returns-in-Ok : goal.returns-in-Ok
returns-in-Ok c = by_case written_of c.in-Ok.is refl

pub returns-in-Err : goal.returns-in-Err
returns-in-Err c = by_case written_of c.in-Err.is (by_numbers (λ (n p : ℕ). written_numbers_of (formula_answer.refused n p)) refl c.number.ensures c.place.ensures)
