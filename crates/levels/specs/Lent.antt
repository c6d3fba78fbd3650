-- What a search is lent, and how it leaves it. Assumes nothing: these are definitions.
use Rattle.std.specs.Prelude.{ℕ, ◌≤◌, ◌<◌, ◌≡◌, List, T, length, get_or}
use Rattle.definitions.specs.Definition2.{letter_count}
use Rattle.automata.specs.Table.{Table, table_states, table_entries, table_of}
use Rattle.tables.specs.Beyond.{Beyond}
use Rattle.models.specs.Model.{Model, model_states}
use Rattle.models.specs.Stored.{model_with}
use Rattle.levels.specs.declared.shape.Sizes.{Sizes}

-- as many pairs as there can be: a row of table states for each model state
abbrev pub pair_count : ℕ
pair_count = 4096

-- the model and the table that are searched
abbrev pub model_in_of : Sizes → List ℕ → List ℕ → Model
model_in_of sizes letters successors = model_with sizes.states letters sizes.initial successors

abbrev pub table_in : Sizes → List ℕ → Table
table_in sizes table = table_of table sizes.weight sizes.finals

-- the table: as many labels as it takes, 1 to 64 states, and nothing enters state 0
pub record LentTable (table : List ℕ) (weight : ℕ) : Type 0 where
  pub long : table_entries ≤ length table
  pub some : 1 ≤ weight
  pub small : weight ≤ table_states
  pub unentered : (p x : ℕ) → T ((table_of table weight 0).edge p x 0) → ⊥

-- the model's letters: one for each of at most 64 states
pub record LentLetters (letters : List ℕ) (states : ℕ) : Type 0 where
  pub few : states ≤ model_states
  pub long : states ≤ length letters
  pub small : (t : ℕ) → t < states → get_or letters t 0 < letter_count

-- the first n entries are 0, the later ones as they were
pub record Cleared (n : ℕ) (a b : List ℕ) : Type 0 where
  pub zeros : (i : ℕ) → i < n → get_or b i 0 ≡ 0
  pub beyond : Beyond n a b
