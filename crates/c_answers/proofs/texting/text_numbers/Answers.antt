-- `c_answers::texting::text_numbers` meets its contract: what is given are the numbers of the case that the answer is. Assumes nothing.
use Prim.Native.Nat.{ℕ}
use mathlib.Core.Path.{refl}
use Rattle.texts.specs.Answer as texts
use Rattle.c_answers.specs.Numbers.{text_numbers_of}
use Rattle.c_answers.proofs.Given.{by_case, by_numbers, texts_of}
use Rattle.c_answers.proofs.texting.text_numbers.Goals as goal

pub returns-in-Ok : goal.returns-in-Ok
returns-in-Ok c = by_case texts_of c.in-Ok.is refl

pub returns-in-Err : goal.returns-in-Err
returns-in-Err c = by_case texts_of c.in-Err.is (by_numbers (λ (n p : ℕ). text_numbers_of (texts.refused n p)) refl c.number.ensures c.place.ensures)
