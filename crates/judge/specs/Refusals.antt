-- The number and the place of each refusal of the plain judge. Assumes nothing: these are definitions.
use Rattle.std.specs.Prelude.{ℕ}
use Rattle.definitions.specs.Refusals as rules
use Rattle.definitions.specs.Numbers.{bad_letter_number, too_many_letters_number}
use Rattle.judge.specs.declared.Refusal.{Refusal}
use Rattle.judge.specs.declared.Refusal.TheVariants.{OfRule, TooManyLetters, BadLetter}

abbrev pub number : Refusal → ℕ
number (OfRule x) = rules.number x
number TooManyLetters = too_many_letters_number
number (BadLetter i) = bad_letter_number

abbrev pub place : Refusal → ℕ
place (OfRule x) = rules.place x
place TooManyLetters = 0
place (BadLetter i) = i
