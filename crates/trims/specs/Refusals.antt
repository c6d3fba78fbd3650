-- The number and the place of each refusal of a trimming. Assumes nothing: these are definitions.
use Rattle.std.specs.Prelude.{ℕ}
use Rattle.definitions.specs.Numbers.{short_slice_number, no_table_number}
use Rattle.trims.specs.declared.Refusal.{Refusal}
use Rattle.trims.specs.declared.Refusal.TheVariants.{ShortTable, NoTable}

abbrev pub number : Refusal → ℕ
number ShortTable = short_slice_number
number NoTable = no_table_number

abbrev pub place : Refusal → ℕ
place ShortTable = 0
place NoTable = 0
