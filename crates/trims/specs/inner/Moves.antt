-- Where the labels and the finals of the new states come from. Assumes nothing: these are definitions.
use Rattle.std.specs.Prelude.{ℕ, ◌<◌, ◌≤◌, Bool, ◌&&◌, cond, List, length, ltb, get_or}
use Rattle.bits.specs.Word.{bit, word}
use Rattle.automata.specs.Table.{table_states, cell}

-- the new state i was state `from` i: at or above it, so that what is still needed is never overwritten
pub record Rising (from : List ℕ) : Type 0 where
  pub inside : (i : ℕ) → i < length from → get_or from i 0 < table_states
  pub rises : (i : ℕ) → i < length from → i ≤ get_or from i 0

-- the label from i to j, none outside the new states
unfoldable pub moved_label_of : List ℕ → List ℕ → ℕ → ℕ → ℕ
moved_label_of t from i j = cond (ltb i (length from) && ltb j (length from)) (cell t (get_or from i 0) (get_or from j 0)) 0

-- whether state i is final
unfoldable pub moved_final : List ℕ → ℕ → ℕ → Bool
moved_final from f i = bit f (get_or from i 0)

-- the finals of the new states
unfoldable pub moved_finals_of : List ℕ → ℕ → ℕ
moved_finals_of from f = word (length from) (moved_final from f)
