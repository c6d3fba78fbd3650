-- The room that a line takes. Assumes nothing: these are definitions.
use Rattle.std.specs.Prelude.{ℕ, ◌+◌, ◌*◌, ◌≤◌, List, Ok, Err, length, take}
use Rattle.rules.specs.Named.{proposition_count}
use Rattle.search.specs.Answer.{SearchAnswer, given_length}
use Rattle.levels.specs.Lent.{pair_count}
use Rattle.lines.specs.Text.{states_text}

-- no line is longer than this many bytes
abbrev pub line_room : ℕ
line_room = 16384

-- how many states of the run an answer shows
abbrev pub shown_length : SearchAnswer → ℕ
shown_length (Ok a) = given_length a.searched
shown_length (Err x) = 0

-- what the rule names takes no more than this: a word, and a blank and a digit for each proposition
abbrev pub uses_room : ℕ
uses_room = 5 + 2 * proposition_count

-- the output is long enough, the run that is shown is there, and a state of it takes no more than a blank and two digits
pub record LineFits (shown : ℕ) (run out : List ℕ) : Type 0 where
  pub room : line_room ≤ length out
  pub run_there : shown ≤ length run
  pub run_short : length (states_text (take shown run)) ≤ 3 * pair_count
