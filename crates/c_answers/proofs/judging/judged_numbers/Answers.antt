-- `c_answers::judging::judged_numbers` meets its contract: what is given are the numbers of the case that the answer is. Assumes nothing.
use mathlib.Core.Path.{refl}
use Prim.Native.Nat.{ℕ}
use Rattle.judge.specs.Verdict as judge
use Rattle.c_answers.specs.Numbers.{judged_numbers_of}
use Rattle.c_answers.proofs.Given.{by_case, by_numbers, judged_of}
use Rattle.c_answers.proofs.judging.judged_numbers.Goals as goal

pub returns-in-Ok : goal.returns-in-Ok
returns-in-Ok c = by_case judged_of c.in-Ok.is refl

pub returns-in-Err : goal.returns-in-Err
returns-in-Err c = by_case judged_of c.in-Err.is (by_numbers (λ (n p : ℕ). judged_numbers_of (judge.refused n p)) refl c.number.ensures c.place.ensures)
