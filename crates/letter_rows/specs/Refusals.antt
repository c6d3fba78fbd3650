-- The number and the place of the refusal of a conversion. Assumes nothing: these are definitions.
use Rattle.std.specs.Prelude.{ℕ}
use Rattle.definitions.specs.Numbers.{short_slice_number}
use Rattle.letter_rows.specs.declared.Refusal.{Refusal}
use Rattle.letter_rows.specs.declared.Refusal.TheVariants.{ShortSlice}

abbrev pub number : Refusal → ℕ
number ShortSlice = short_slice_number

abbrev pub place : Refusal → ℕ
place ShortSlice = 0
