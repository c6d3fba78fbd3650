-- `c_answers::trimming::trimmed_numbers` meets its contract: what is given are the numbers of the case that the answer is. Assumes nothing.
use mathlib.Core.Path.{refl}
use Prim.Native.Nat.{ℕ}
use Rattle.trims.specs.Answer as trims
use Rattle.c_answers.specs.Numbers.{trimmed_numbers_of}
use Rattle.c_answers.proofs.Given.{by_case, by_numbers, trimmed_of}
use Rattle.c_answers.proofs.trimming.trimmed_numbers.Goals as goal

pub returns-in-Ok : goal.returns-in-Ok
returns-in-Ok c = by_case trimmed_of c.in-Ok.is refl

pub returns-in-Err : goal.returns-in-Err
returns-in-Err c = by_case trimmed_of c.in-Err.is (by_numbers (λ (n p : ℕ). trimmed_numbers_of (trims.refused n p)) refl c.number.ensures c.place.ensures)
