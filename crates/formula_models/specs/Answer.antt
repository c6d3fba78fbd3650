-- What reading two formulas comes to, for every string of bytes and every slice. Assumes nothing: these are definitions.
use Rattle.std.specs.Prelude.{ℕ, ◌<◌, ◌≤◌, ◌≡◌, List, ◌++◌, length, drop, ⊤, Ok, Err}
use Rattle.std.specs.Prelude as std
use Rattle.definitions.specs.Numbers.{short_slice_number}
use Rattle.definitions.specs.Definition1.{Formula}
use Rattle.systems.specs.Answer as systems
use Rattle.systems.specs.Answer.{AcceptedAs}
use Rattle.formula_models.specs.declared.Refusal.{Refusal}
use Rattle.formula_models.specs.Refusals.{number, place}
use Rattle.formula_models.specs.Bytes.{model_length, model_bytes}

-- the model is written; or refused, with number and place
pub data Result : Type 0 where
  written : Result
  refused : ℕ → ℕ → Result

-- the paper's number and values for each case of the answer
abbrev pub told : std.Result ⊤ Refusal → Result
told (Ok u) = written
told (Err x) = refused (number x) (place x)

-- the right result for the bytes s and the slice `before`, which is `after` after the call: the formulas' refusals, then 21, and the slice as it was; else
-- the slice begins with the model of the two formulas, and is as it was past it
pub data FormulasRight (s before after : List ℕ) : Result → Type 0 where
  no_system : {n p : ℕ} → systems.answer s ≡ systems.refused n p → after ≡ before → FormulasRight s before after (refused n p)
  short_model : {f g : Formula} → AcceptedAs s f g → length before < model_length → after ≡ before → FormulasRight s before after (refused short_slice_number 0)
  the_model : {f g : Formula} → AcceptedAs s f g → model_length ≤ length before → after ≡ model_bytes f g ++ drop model_length before → FormulasRight s before after written
