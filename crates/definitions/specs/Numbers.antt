-- The numbers of the refusals that are neither a rule's nor a model's: several calls share them. Assumes nothing: these are definitions.
use Rattle.std.specs.Prelude.{ℕ}

-- a lent slice is too short
abbrev pub short_slice_number : ℕ
short_slice_number = 21

-- what stands in a letter's place is none
abbrev pub bad_letter_number : ℕ
bad_letter_number = 22

-- there are more letters than the plain judge takes
abbrev pub too_many_letters_number : ℕ
too_many_letters_number = 23

-- what is lent as a table is none: its weight is 0 or above 64, or a final or a label lies outside it
abbrev pub no_table_number : ℕ
no_table_number = 24

-- a walker's count of letters is at its largest
abbrev pub full_count_number : ℕ
full_count_number = 25
