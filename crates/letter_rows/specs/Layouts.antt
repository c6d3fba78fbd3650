-- A table in its two layouts: labels by pairs of states, and rows of next states by letter and state. Assumes nothing: these are definitions.
use Rattle.std.specs.Prelude.{ℕ, zero, suc, ◌+◌, ◌*◌, ◌/◌, ◌%◌, ◌≤◌, ◌<◌, ◌≡◌, List, [], ◌∷◌, length, get_or}
use Rattle.bits.specs.Word.{bit, word}
use Rattle.definitions.specs.Definition2.{letter_count}
use Rattle.automata.specs.Table.{table_states, table_entries, cell}
use Rattle.steps.specs.Moves.{row_of}

-- the row for letter x and state p stands at 64x+p
abbrev pub row_at : List ℕ → ℕ → ℕ → ℕ
row_at rows x p = get_or rows (64 * x + p) 0

-- these are the table's rows: a row has state q exactly if the label from its state to q has its letter
pub record RowsOf (table rows : List ℕ) : Type 0 where
  pub table_long : table_entries ≤ length table
  pub rows_long : table_entries ≤ length rows
  pub same_bit : (x p q : ℕ) → x < letter_count → p < table_states → q < table_states → bit (row_at rows x p) q ≡ bit (cell table p q) x

-- the label from p to q that the rows store: the letters whose row for p has q (and `row_of` is the row for p and x that a table stores)
unfoldable pub label_of : List ℕ → ℕ → ℕ → ℕ
label_of rows p q = word letter_count (λ x. bit (row_at rows x p) q)

-- the list of f 0, f 1 and so on, n of them
unfoldable pub list_of : ℕ → (ℕ → ℕ) → List ℕ
list_of zero f = []
list_of (suc n) f = f 0 ∷ list_of n (λ i. f (suc i))

-- the table whose rows these are, and the rows of this table; as long as what is given
unfoldable pub table_by : List ℕ → List ℕ
table_by rows = list_of (length rows) (λ i. label_of rows (i / table_states) (i % table_states))

unfoldable pub rows_by : List ℕ → List ℕ
rows_by table = list_of (length table) (λ i. row_of table (i % table_states) (i / table_states))
