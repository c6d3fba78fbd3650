-- The line of an input is that of its first 1,282 bytes: what comes after is past the longest text and the newline that may close it. Assumes nothing.
use Prim.Native.Nat.{ℕ, ◌<◌}
use native.Mathlib.Omega.{arith}
use native.Mathlib.Decide.{dec_lt}
use mathlib.Core.Path.{subst}
use mathlib.Core.List.{List}
use lib.ListN.{length, take, replicate, length-take}
use lib.Seq.{take_all}
use Rattle.texts.specs.Answer.{Result, told, ReadRight, too_long, no_text, many_bytes, heavy, read}
use Rattle.text_lines.specs.Input.{text_in_of}
use Rattle.text_lines.specs.Line.{LineOf, LineRight, short_output, written}
use Rattle.text_lines.proofs.Inputs.{text_long}

-- two texts that are too long are answered alike
both_too_long : (s t before after : List ℕ) (x : Result) → 1280 < length s → 1280 < length t → ReadRight s before after x → ReadRight t before after x
both_too_long s t before after x h k (too_long l p e) = too_long k p e
both_too_long s t before after x h k (no_text l f z g p e) = absurd (omega arith)
both_too_long s t before after x h k (many_bytes l r i m p e) = absurd (omega arith)
both_too_long s t before after x h k (heavy l r i m w p e) = absurd (omega arith)
both_too_long s t before after x h k (read l r i m w g) = absurd (omega arith)

pub beginning : (input line : List ℕ) → LineOf (take 1282 input) line → LineOf input line
beginning input line x = go (dec_lt 1282 (length input))
  where
    go : Dec (1282 < length input) → LineOf input line
    go (no h) = subst (λ (s : List ℕ). LineOf s line) (take_all 1282 input (omega arith)) x
    go (yes h) = record {
      after = x.after;
      answer = x.answer;
      right =
          both_too_long (text_in_of (take 1282 input)) (text_in_of input) (replicate 255 0) x.after (told x.answer)
          (let a = text_long (take 1282 input) in let b = length-take 1282 input in omega arith)
          (let a = text_long input in omega arith)
          x.right;
      says = x.says;
    }

-- so is what is left in the slice
pub line_beginning : (input before after : List ℕ) (long : ℕ) → LineRight (take 1282 input) before after long → LineRight input before after long
line_beginning input before after long (short_output l e z) = short_output l e z
line_beginning input before after long (written line l o w) = written line l (beginning input line o) w
