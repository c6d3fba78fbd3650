-- A model as it is held in memory, and the model that it stands for. Assumes nothing: these are definitions.
use Rattle.std.specs.Prelude.{ℕ, zero, suc, ◌≤◌, ◌<◌, ◌≡◌, Bool, true, false, List, [], ◌∷◌, eqb, ltb, length, get_or, replicate}
use Rattle.bits.specs.Word.{bit, word}
use Rattle.models.specs.declared.ModelData.{ModelData}
use Rattle.models.specs.Model.{model_states, Model}
use Rattle.models.specs.Reading.{letter, flag, successors}

-- v 0 to v (m - 1)
unfoldable pub entries : ℕ → (ℕ → ℕ) → List ℕ
entries zero v = []
entries (suc m) v = v 0 ∷ entries m (λ k. v (suc k))

abbrev pub or_zero : Bool → ℕ → ℕ
or_zero true x = x
or_zero false x = 0

-- 64 entries: v k for each of the n states k, and 0 past them
unfoldable pub column : ℕ → (ℕ → ℕ) → List ℕ
column n v = entries model_states (λ k. or_zero (ltb k n) (v k))

-- the n states that the bytes spell
abbrev pub stored : List ℕ → ℕ → ModelData
stored s n = record {
  states = n;
  letters = column n (letter s);
  initial = word n (λ k. eqb (flag s k) 1);
  successors = column n (successors s);
}

-- no states: all zeros
abbrev pub no_states : ModelData
no_states = record { states = 0; letters = replicate model_states 0; initial = 0; successors = replicate model_states 0 }

-- the model that letters, initial states and successors by state stand for
abbrev pub model_with : ℕ → List ℕ → ℕ → List ℕ → Model
model_with states letters initial successors = record {
  states = states;
  letter = λ s. get_or letters s 0;
  initial = λ s. bit initial s;
  next = λ s t. bit (get_or successors s 0) t;
}

abbrev pub model_of : ModelData → Model
model_of m = model_with m.states m.letters m.initial m.successors

-- at most 64 states, letters that there are, and initial states and successors among the states
pub record Sound (M : Model) : Type 0 where
  pub few : M.states ≤ model_states
  pub letter_small : (s : ℕ) → M.letter s < 64
  pub initial_exists : (s : ℕ) → M.initial s ≡ true → s < M.states
  pub next_from : (s t : ℕ) → M.next s t ≡ true → s < M.states
  pub next_exists : (s t : ℕ) → M.next s t ≡ true → t < M.states

-- what holds of every model that the reader gives back
pub record Held (m : ModelData) : Type 0 where
  pub letters_long : length m.letters ≡ model_states
  pub successors_long : length m.successors ≡ model_states
  pub sound : Sound (model_of m)
