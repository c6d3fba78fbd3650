-- The line and a newline after it are what is printed for every input that begins with what was kept. Assumes nothing.
use Prim.Native.Nat.{ℕ, zero, suc, ◌+◌, ◌≤◌, ◌<◌}
use native.Mathlib.Omega.{arith}
use mathlib.Core.Path.{◌≡◌, sym, ap, subst, ◌∙◌}
use mathlib.Core.List.{List, [], ◌∷◌, ◌++◌}
use lib.ListN.{length, get_or, take, drop, set, length-append, length-take, length-drop, length-set}
use lib.Seq.{get_or-take}
use Rattle.lines.specs.Room.{line_room}
use Rattle.writing.specs.Wrote.{Wrote}
use Rattle.lines.specs.Line.{LineOf, LineRight, short_output, written}
use Rattle.writing.proofs.Wrotes.{wrote_byte, wrote_more, wrote_inside, wrote_front, wrote_on}
use Rattle.lines.proofs.Beginning.{beginning}
use Rattle.rulecheck.specs.Printed.{input_room, newline, Printed, PrintedFor}

-- the first byte of what was kept is a byte
pub first_byte : (n : ℕ) (s : List ℕ) → get_or s 0 0 < 256 → get_or (take n s) 0 0 < 256
first_byte zero s h = omega arith
first_byte (suc n) [] h = h
first_byte (suc n) (x ∷ s) h = h

-- the line is written to the first `line_room` bytes, of more
before_long : (out : List ℕ) → line_room < length out → length (take line_room out) ≡ line_room
before_long out room = let l = length-take line_room out in omega arith

module _ (kept out after : List ℕ) (end : ℕ) (room : line_room < length out) where
  pub line_inside : LineRight kept (take line_room out) after end → end ≤ line_room
  line_inside (short_output l s e) = let k = before_long out room in absurd (omega arith)
  line_inside (written line l o w) = let h = wrote_inside w in let k = before_long out room in omega arith

  whole_long : LineRight kept (take line_room out) after end → length (after ++ drop line_room out) ≡ length out
  whole_long x = let n = length-append after (drop line_room out) in let l = length-drop line_room out in let k = same x in let b = before_long out room in omega arith
    where
      same : LineRight kept (take line_room out) after end → length after ≡ length (take line_room out)
      same (short_output l s e) = ap length s
      same (written line l o w) = w.size

  pub there : LineRight kept (take line_room out) after end → end < length (after ++ drop line_room out)
  there x = let h = line_inside x in let k = whole_long x in omega arith

  module _ (byte : get_or kept 0 0 < 256) where
    printed : LineRight kept (take line_room out) after end → (input : List ℕ) → take input_room input ≡ kept
        → Printed input (set (after ++ drop line_room out) end newline) (end + 1)
    printed (short_output l s e) input same = let k = before_long out room in absurd (omega arith)
    printed (written line l o w) input same = record {
      line = line;
      is_line = beginning input line first (subst (λ (s : List ℕ). LineOf s line) (sym same) o);
      stands = wrote_front closed;
      whole = let k = closed.ends in omega arith;
    }
      where
        first : get_or input 0 0 < 256
        first = let h : get_or kept 0 0 ≡ get_or input 0 0 = ap (λ (s : List ℕ). get_or s 0 0) (sym same) ∙ get_or-take input_room input 0 0 (omega arith) in omega arith

        closed : Wrote (line ++ (newline ∷ [])) (take line_room out ++ drop line_room out) 0 (set (after ++ drop line_room out) end newline) (end + 1)
        closed = wrote_more (omega arith) (wrote_on (drop line_room out) w) (wrote_byte (after ++ drop line_room out) end newline (there (written line l o w)))

    pub printed_for : LineRight kept (take line_room out) after end → PrintedFor kept (set (after ++ drop line_room out) end newline) (end + 1)
    printed_for x = record {
      for_each = printed x;
      inside = let h = there x in let z = length-set (after ++ drop line_room out) end newline in omega arith;
    }
