-- The number and the place of each refusal of a search. Assumes nothing: these are definitions.
use Rattle.std.specs.Prelude.{ℕ}
use Rattle.definitions.specs.Refusals as rules
use Rattle.definitions.specs.Numbers.{short_slice_number}
use Rattle.models.specs.Answer as models
use Rattle.search.specs.declared.Refusal.{Refusal}
use Rattle.search.specs.declared.Refusal.TheVariants.{OfRule, OfModel, ShortSlice}

abbrev pub number : Refusal → ℕ
number (OfRule x) = rules.number x
number (OfModel x) = models.number x
number ShortSlice = short_slice_number

abbrev pub place : Refusal → ℕ
place (OfRule x) = rules.place x
place (OfModel x) = models.place x
place ShortSlice = 0
