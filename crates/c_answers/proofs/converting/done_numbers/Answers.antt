-- `c_answers::converting::done_numbers` meets its contract: what is given are the numbers of the case that the answer is. Assumes nothing.
use mathlib.Core.Path.{refl}
use Prim.Native.Nat.{ℕ}
use Rattle.letter_rows.specs.Answer as rows
use Rattle.c_answers.specs.Numbers.{done_numbers_of}
use Rattle.c_answers.proofs.Given.{by_case, by_numbers, done_of}
use Rattle.c_answers.proofs.converting.done_numbers.Goals as goal

pub returns-in-Ok : goal.returns-in-Ok
returns-in-Ok c = by_case done_of c.in-Ok.is refl

pub returns-in-Err : goal.returns-in-Err
returns-in-Err c = by_case done_of c.in-Err.is (by_numbers (λ (n p : ℕ). done_numbers_of (rows.refused n p)) refl c.number.ensures c.place.ensures)
