-- `c_answers::searching::searched_numbers` meets its contract: what is given are the numbers of the case that the answer is. Assumes nothing.
use mathlib.Core.Path.{refl}
use Prim.Native.Nat.{ℕ}
use Rattle.search.specs.Answer as search
use Rattle.c_answers.specs.Numbers.{searched_numbers_of}
use Rattle.c_answers.proofs.Given.{by_case, by_numbers, searched_of, answered_as}
use Rattle.c_answers.proofs.searching.searched_numbers.Goals as goal

pub returns-in-Some : goal.returns-in-Some
returns-in-Some c = λ run. by_case (searched_of run) (answered_as c.in-Ok.is c.in-Some.is) refl

pub returns-in-None : goal.returns-in-None
returns-in-None c = λ run. by_case (searched_of run) (answered_as c.in-Ok.is c.in-None.is) refl

pub returns-in-Err : goal.returns-in-Err
returns-in-Err c = λ run. by_case (searched_of run) c.in-Err.is (by_numbers (λ (n p : ℕ). searched_numbers_of (search.refused n p)) refl c.number.ensures c.place.ensures)
