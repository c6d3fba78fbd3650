-- The number and the place of each refusal. Assumes nothing: these are definitions.
use Rattle.std.specs.Prelude.{ℕ}
use Rattle.definitions.specs.Numbers.{short_slice_number}
use Rattle.systems.specs.Refusals as systems
use Rattle.formula_models.specs.declared.Refusal.{Refusal}
use Rattle.formula_models.specs.declared.Refusal.TheVariants.{OfSystem, ShortModel}

abbrev pub number : Refusal → ℕ
number (OfSystem x) = systems.number x
number ShortModel = short_slice_number

abbrev pub place : Refusal → ℕ
place (OfSystem x) = systems.place x
place ShortModel = 0
