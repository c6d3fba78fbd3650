-- What ruletext prints for an input. Assumes nothing: these are definitions.
use Rattle.std.specs.Prelude.{ℕ, ◌≤◌, ◌≡◌, List, length, take}
use Rattle.text_lines.specs.Line.{line_room, LineRight}

-- how much of an input is kept: the longest text, one character more and a newline
abbrev pub input_room : ℕ
input_room = 1282

-- the first `long` bytes of `space` were read, and `out` has room for every line
pub record Lent (space : List ℕ) (long : ℕ) (out : List ℕ) : Type 0 where
  pub room : length space ≡ input_room
  pub kept : long ≤ input_room
  pub output : line_room ≤ length out

-- `after` begins with the line, of so many bytes, of every input of which `kept` is what was kept
pub record PrintedFor (kept before after : List ℕ) (long : ℕ) : Type 0 where
  pub for_each : (input : List ℕ) → take input_room input ≡ kept → LineRight input before after long
  pub inside : long ≤ length after
