-- The line for every input, and what is left in the slice that it is written to. Assumes nothing: these are definitions.
use Rattle.std.specs.Prelude.{ℕ, ◌<◌, ◌≤◌, ◌≡◌, List, length, replicate}
use Rattle.automata.specs.Table.{table_entries}
use Rattle.levels.specs.Lent.{pair_count}
use Rattle.automata.specs.IsTable.{Words}
use Rattle.search.specs.Answer.{SearchAnswer}
use Rattle.search.specs.Answer.{Slices, slices, told, SearchRight}
use Rattle.lines.specs.Text.{text_of}
use Rattle.lines.specs.Input.{rule_in_of, model_in_of}
use Rattle.writing.specs.Wrote.{Wrote}
use Rattle.lines.specs.Room.{line_room}

-- the slices that the search is lent: 4,096 zeros each
unfoldable pub fresh : Slices
fresh = slices (replicate table_entries 0) (replicate pair_count 0) (replicate pair_count 0) (replicate pair_count 0)

-- the line says what the search for the input's rule comes to in the input's model
pub record LineOf (input line : List ℕ) : Type 0 where
  pub after : Slices
  pub words : Words after.table
  pub answer : SearchAnswer
  pub right : SearchRight (rule_in_of input) (model_in_of input) fresh after (told answer after.run)
  pub says : line ≡ text_of (told answer after.run)

-- the slice begins with the line, whose length is answered, and is as it was past it; a slice that is too short is as it was, and 0 is answered
pub data LineRight (input before after : List ℕ) (long : ℕ) : Type 0 where
  short_output : length before < line_room → after ≡ before → long ≡ 0 → LineRight input before after long
  written : (line : List ℕ) → line_room ≤ length before → LineOf input line → Wrote line before 0 after long → LineRight input before after long
