-- The line for every input, and what is left in the slice that it is written to. Assumes nothing: these are definitions.
use Rattle.std.specs.Prelude.{ℕ, ◌<◌, ◌≤◌, ◌≡◌, List, [], ◌∷◌, ◌++◌, length, take, replicate}
use Rattle.texts.specs.Answer.{TextAnswer, Result, given, refused, told, ReadRight}
use Rattle.writing.specs.Wrote.{Wrote}
use Rattle.writing.specs.Refused.{refused_text}
use Rattle.text_lines.specs.Hexadecimal.{bytes_text}
use Rattle.text_lines.specs.Input.{text_in_of}

-- no line is longer than this many bytes
abbrev pub line_room : ℕ
line_room = 1024

-- the bytes that were written to the beginning of `out`, or the refusal
abbrev pub answer_text : Result → List ℕ → List ℕ
answer_text (given n k) out = bytes_text (take n out)
answer_text (refused n p) out = refused_text n p

-- how many bytes were written
abbrev pub shown_length : Result → ℕ
shown_length (given n k) = n
shown_length (refused n p) = 0

-- the bytes are there, and the output has room for what is said of them
pub record TextFits (x : Result) (bytes out : List ℕ) : Type 0 where
  pub room : line_room ≤ length out
  pub there : shown_length x ≤ length bytes
  pub few : length bytes ≤ 255

-- what is said is written to the beginning of the output, and leaves room for a newline
pub record Put (x : Result) (bytes before after : List ℕ) (end : ℕ) : Type 0 where
  pub wrote : Wrote (answer_text x bytes) before 0 after end
  pub short : end < line_room

-- the line says what reading the input's text into 255 bytes comes to, and a newline closes it
pub record LineOf (input line : List ℕ) : Type 0 where
  pub after : List ℕ
  pub answer : TextAnswer
  pub right : ReadRight (text_in_of input) (replicate 255 0) after (told answer)
  pub says : line ≡ answer_text (told answer) after ++ (10 ∷ [])

-- the slice begins with the line, whose length is answered, and is as it was past it; a slice that is too short is as it was, and 0 is answered
pub data LineRight (input before after : List ℕ) (long : ℕ) : Type 0 where
  short_output : length before < line_room → after ≡ before → long ≡ 0 → LineRight input before after long
  written : (line : List ℕ) → line_room ≤ length before → LineOf input line → Wrote line before 0 after long → LineRight input before after long
