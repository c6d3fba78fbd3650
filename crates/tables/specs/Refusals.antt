-- The number and the place of each refusal of a table. Assumes nothing: these are definitions.
use Rattle.std.specs.Prelude.{ℕ}
use Rattle.definitions.specs.Refusals as rules
use Rattle.definitions.specs.Numbers.{short_slice_number}
use Rattle.tables.specs.declared.Refusal.{Refusal}
use Rattle.tables.specs.declared.Refusal.TheVariants.{OfRule, ShortTable}

abbrev pub number : Refusal → ℕ
number (OfRule x) = rules.number x
number ShortTable = short_slice_number

abbrev pub place : Refusal → ℕ
place (OfRule x) = rules.place x
place ShortTable = 0
