-- Which states of a model an endless run leaves, for every sequence of bytes: the model's refusals, or their set. Assumes nothing: these are definitions.
use Rattle.std.specs.Prelude.{ℕ, ◌≡◌, List, Ok, Err}
use Rattle.std.specs.Prelude as std
use Rattle.models.specs.Stored.{model_of}
use Rattle.models.specs.Answer as models
use Rattle.models.specs.declared.Refusal.{Refusal}
use Rattle.lasting.specs.declared.LastingStates.{LastingStates}
use Rattle.lasting.specs.Endless.{LastingSet}

-- the number of states and the set of those that last; or refused with number and place
pub data Result : Type 0 where
  lasts : ℕ → ℕ → Result
  refused : ℕ → ℕ → Result

-- the paper's number and values for each case
abbrev pub told : std.Result LastingStates Refusal → Result
told (Ok l) = lasts l.states l.set
told (Err x) = refused (models.number x) (models.place x)

-- the right result: the model's own refusal, or exactly the states from which an endless run leaves
pub data LastingRight (model : List ℕ) : Result → Type 0 where
  model_refused : {n p : ℕ} → (models.answer model).verdict ≡ models.refused n p → LastingRight model (refused n p)
  lasting : {n w : ℕ} → (models.answer model).verdict ≡ models.accepted → n ≡ (models.answer model).model.states
      → LastingSet (model_of (models.answer model).model) w → LastingRight model (lasts n w)
