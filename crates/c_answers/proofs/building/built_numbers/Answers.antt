-- `c_answers::building::built_numbers` meets its contract: what is given are the numbers of the case that the answer is. Assumes nothing.
use mathlib.Core.Path.{refl}
use Prim.Native.Nat.{ℕ}
use Rattle.tables.specs.Answer as tables
use Rattle.c_answers.specs.Numbers.{built_numbers_of}
use Rattle.c_answers.proofs.Given.{by_case, by_numbers, built_of}
use Rattle.c_answers.proofs.building.built_numbers.Goals as goal

pub returns-in-Ok : goal.returns-in-Ok
returns-in-Ok c = by_case built_of c.in-Ok.is refl

pub returns-in-Err : goal.returns-in-Err
returns-in-Err c = by_case built_of c.in-Err.is (by_numbers (λ (n p : ℕ). built_numbers_of (tables.refused n p)) refl c.number.ensures c.place.ensures)
