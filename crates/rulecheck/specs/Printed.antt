-- What rulecheck prints for an input. Assumes nothing: these are definitions.
use Rattle.std.specs.Prelude.{ℕ, ◌≤◌, ◌<◌, ◌≡◌, List, [], ◌∷◌, ◌++◌, length, take}
use Rattle.lines.specs.Room.{line_room}
use Rattle.lines.specs.Line.{LineOf}

-- how much of an input is kept: its length byte, 255 bytes of a rule and 705 of a model
abbrev pub input_room : ℕ
input_room = 961

abbrev pub newline : ℕ
newline = 10

-- the first `long` bytes of `space` were read, and `out` has room for a line and its newline
pub record Lent (space : List ℕ) (long : ℕ) (out : List ℕ) : Type 0 where
  pub room : length space ≡ input_room
  pub kept : long ≤ input_room
  pub output : line_room < length out

-- `out` begins with the input's line and a newline, which are so many bytes
pub record Printed (input out : List ℕ) (long : ℕ) : Type 0 where
  pub line : List ℕ
  pub is_line : LineOf input line
  pub stands : take long out ≡ line ++ (newline ∷ [])
  pub whole : long ≡ length (line ++ (newline ∷ []))

-- so it does for every input of which `kept` is what was kept
pub record PrintedFor (kept out : List ℕ) (long : ℕ) : Type 0 where
  pub for_each : (input : List ℕ) → take input_room input ≡ kept → Printed input out long
  pub inside : long ≤ length out
