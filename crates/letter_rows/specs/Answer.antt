-- What a conversion comes to, for any two slices. Assumes nothing: these are definitions.
use Rattle.std.specs.Prelude as std
use Rattle.std.specs.Prelude.{ℕ, ◌+◌, ◌*◌, ◌<◌, ◌≤◌, ◌≡◌, ◌⊎◌, List, length, get_or, Ok, Err}
use Rattle.definitions.specs.Numbers.{short_slice_number}
use Rattle.automata.specs.Table.{table_states, table_entries}
use Rattle.tables.specs.Beyond.{Beyond}
use Rattle.steps.specs.Moves.{row_of}
use Rattle.letter_rows.specs.declared.Refusal.{Refusal}
use Rattle.letter_rows.specs.Refusals.{number, place}
use Rattle.letter_rows.specs.Layouts.{label_of}

-- the slice begins with the other layout; or refused, with number and place
pub data Result : Type 0 where
  converted : Result
  refused : ℕ → ℕ → Result

-- the paper's number and values for each case of the answer
abbrev pub told : std.Result (Unit {0}) Refusal → Result
told (Ok x) = converted
told (Err x) = refused (number x) (place x)

-- from `given`, the slice `before` becomes `after`: 21 if either is short, and then nothing changes; else each of the first 4,096 words is the one
-- that stands there in the other layout, whatever stood there, and later ones are as they were
pub data ConvertRight (given before after : List ℕ) (entry : ℕ → ℕ → ℕ) : Result → Type 0 where
  short_slice : (length given < table_entries) ⊎ (length before < table_entries) → after ≡ before → ConvertRight given before after entry (refused short_slice_number 0)
  whole : table_entries ≤ length given → table_entries ≤ length before → ((i j : ℕ) → i < table_states → j < table_states → get_or after (64 * i + j) 0 ≡ entry i j)
      → Beyond table_entries before after → ConvertRight given before after entry converted

-- a table's rows: for letter x and state p, at 64x+p, the states that p reaches under x
abbrev pub RowsRight : (table before after : List ℕ) → Result → Type 0
RowsRight table before after = ConvertRight table before after (λ x p. row_of table p x)

-- the table of rows: from p to q, at 64p+q, the letters whose row for p has q
abbrev pub TableRight : (rows before after : List ℕ) → Result → Type 0
TableRight rows before after = ConvertRight rows before after (label_of rows)
