-- What a conversion comes to, of either layout. Assumes nothing: these are definitions.
use Rattle.std.specs.Prelude.{ℕ, ◌<◌, ◌≤◌, ◌≡◌, ◌⊎◌, List, length}
use Rattle.definitions.specs.Numbers.{short_slice_number}
use Rattle.automata.specs.Table.{table_states, table_entries}
use Rattle.letter_rows.specs.Answer.{Result, converted, refused}
use Rattle.letter_rows.specs.inner.Blocks.{CarriedTo}

-- 21 if either slice is short, and then nothing changes; else the words of every state are carried over
pub data Converts (given before after : List ℕ) (far near : ℕ) : Result → Type 0 where
  short : (length given < table_entries) ⊎ (length before < table_entries) → after ≡ before → Converts given before after far near (refused short_slice_number 0)
  carried : table_entries ≤ length given → table_entries ≤ length before → CarriedTo given before after far near table_states → Converts given before after far near converted
