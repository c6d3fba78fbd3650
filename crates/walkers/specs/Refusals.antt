-- The number and the place of each refusal of a walker. Assumes nothing: these are definitions.
use Rattle.std.specs.Prelude.{ℕ}
use Rattle.definitions.specs.Numbers.{short_slice_number, bad_letter_number, full_count_number}
use Rattle.walkers.specs.declared.Refusal.{Refusal}
use Rattle.walkers.specs.declared.Refusal.TheVariants.{ShortTable, BadLetter, FullCount}

abbrev pub number : Refusal → ℕ
number ShortTable = short_slice_number
number (BadLetter i) = bad_letter_number
number FullCount = full_count_number

abbrev pub place : Refusal → ℕ
place ShortTable = 0
place (BadLetter i) = i
place FullCount = 0
