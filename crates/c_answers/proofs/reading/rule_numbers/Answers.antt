-- `c_answers::reading::rule_numbers` meets its contract: what is given are the numbers of the case that the answer is. Assumes nothing.
use mathlib.Core.Path.{refl}
use Prim.Native.Nat.{ℕ}
use Rattle.rules.specs.Answer as rules
use Rattle.c_answers.specs.Numbers.{rule_numbers_of}
use Rattle.c_answers.proofs.Given.{by_case, by_numbers, rule_of}
use Rattle.c_answers.proofs.reading.rule_numbers.Goals as goal

pub returns-in-Ok : goal.returns-in-Ok
returns-in-Ok c = by_case rule_of c.in-Ok.is refl

pub returns-in-Err : goal.returns-in-Err
returns-in-Err c = by_case rule_of c.in-Err.is (by_numbers (λ (n p : ℕ). rule_numbers_of (rules.refused n p)) refl c.number.ensures c.place.ensures)
