-- What reading came to, by its cases: that its text has room, and that it is the text. Assumes nothing.
use Prim.Native.Nat.{ℕ, ◌*◌, ◌^◌, ◌≤◌, ◌<◌}
use native.Mathlib.Omega.{arith}
use mathlib.Core.Path.{◌≡◌, refl, sym, ap, ap₂, subst, ◌∙◌}
use mathlib.Core.List.{List, [], ◌∷◌, ◌++◌}
use lib.ListN.{length, take, replicate, length-replicate, length-take}
use Rattle.rules.specs.declared.Known.{Known}
use Rattle.definitions.specs.Encoding.{spell}
use Rattle.rules.specs.Answer.{known_of}
use Rattle.texts.specs.declared.TextRefusal.{TextRefusal}
use Rattle.std.specs.Prelude.{Ok, Err}
use Rattle.texts.specs.declared.Given.{Given}
use Rattle.texts.specs.Refusals as refusals
use Rattle.texts.specs.Answer as texts
use Rattle.texts.specs.Answer.{TextAnswer, Result, refused, told, Gives, ReadRight}
use Rattle.writing.specs.Wrote.{Wrote}
use Rattle.writing.specs.Refused.{refused_text}
use Rattle.writing.proofs.Wrotes.{wrote_more}
use Rattle.writing.proofs.Shortness.{refused_short}
use Rattle.text_lines.specs.Hexadecimal.{bytes_text}
use Rattle.text_lines.specs.Input.{text_in_of}
use Rattle.text_lines.specs.Line.{line_room, shown_length, TextFits, Put, answer_text, LineRight, written}
use Rattle.text_lines.proofs.Hexes.{bytes_short}

-- the case of the answer
module _ (answer : TextAnswer) (bytes : List ℕ) {before after : List ℕ} {end : ℕ} where
  says : {t : List ℕ} → t ≡ answer_text (told answer) bytes → length t < line_room → Wrote t before 0 after end → Put (told answer) bytes before after end
  says e l w = record { wrote = subst (λ (t : List ℕ). Wrote t before 0 after end) e w; short = let k = w.ends in omega arith }

  pub refused_says : (x : TextRefusal) {n p : ℕ} → answer ≡ Err x → n ≡ refusals.number x → p ≡ refusals.place x → n < 2 ^ 64 → p < 2 ^ 64 → Wrote (refused_text n p) before 0 after end
      → Put (told answer) bytes before after end
  refused_says x {n} {p} e a b h l w = says (ap₂ refused_text a b ∙ sym (ap (λ (z : TextAnswer). answer_text (told z) bytes) e)) (let k = refused_short n p h l in omega arith) w

module _ (answer : TextAnswer) (bytes out : List ℕ) (fits : TextFits (told answer) bytes out) where
  pub given_there : (g : Given) → answer ≡ Ok g → g.long ≤ length bytes
  given_there g e = (subst (λ (a : TextAnswer). TextFits (told a) bytes out) e fits).there

  part_short : (long : ℕ) {part : List ℕ} → part ≡ take long bytes → length part ≤ 255
  part_short long q = let f = fits.few in let l = ap length q ∙ length-take long bytes in omega arith

  pub given_room : (long : ℕ) {part : List ℕ} → part ≡ take long bytes → 3 * length part ≤ length out
  given_room long q = let l = part_short long q in let r = fits.room in omega arith

  pub given_says : (g : Given) {part after : List ℕ} {end : ℕ} → answer ≡ Ok g → part ≡ take g.long bytes → Wrote (bytes_text part) out 0 after end
      → Put (told answer) bytes out after end
  given_says g {part} e q w =
      says answer bytes (ap bytes_text q ∙ sym (ap (λ (a : TextAnswer). answer_text (told a) bytes) e)) (let l = bytes_short part in let h = part_short g.long q in omega arith) w

  pub refused_room : (number place : ℕ) → number < 2 ^ 64 → place < 2 ^ 64 → length (refused_text number place) ≤ length out
  refused_room number place h l = let r = refused_short number place h l in let t = fits.room in omega arith

-- ---- from the reading to the line

-- a refusal shows nothing
none_shown : (before : List ℕ) {n p : ℕ} {x : Result} → x ≡ refused n p → shown_length x ≤ length before
none_shown before e = subst (λ (y : Result). shown_length y ≤ length before) (sym e) (omega arith)

-- what is written fits the output that it is written to
given_long : (part before after : List ℕ) (k : Known) (x : Result) → Gives part k before after x → shown_length x ≤ length before
given_long part before after k x (texts.short_output l p e) = none_shown before e
given_long part before after k x (texts.written l w e) = subst (λ (y : Result). shown_length y ≤ length before) (sym e) l

read_long : (s before after : List ℕ) (x : Result) → ReadRight s before after x → shown_length x ≤ length before
read_long s before after x (texts.too_long l p e) = none_shown before e
read_long s before after x (texts.no_text l f i h p e) = none_shown before e
read_long s before after x (texts.many_bytes l r i m p e) = none_shown before e
read_long s before after x (texts.heavy l r i m w p e) = none_shown before e
read_long s before after x (texts.read l r i m w g) = given_long (spell r) before after (known_of r) x g

fresh_long : (bytes : List ℕ) → bytes ≡ replicate 255 0 → length bytes ≡ 255
fresh_long bytes new = ap length new ∙ length-replicate {A = ℕ} 255 0

module _ (s out bytes after : List ℕ) (answer : TextAnswer) (new : bytes ≡ replicate 255 0) (room : line_room ≤ length out) (right : ReadRight s bytes after (told answer)) where
  pub line_fits : length after ≡ length bytes → TextFits (told answer) after out
  line_fits same = record {
    room = room;
    there = let l = read_long s bytes after (told answer) right in omega arith;
    few = let l = fresh_long bytes new in omega arith;
  }

  pub line_written : {input out' out'' : List ℕ} {end end' : ℕ} → s ≡ text_in_of input → Put (told answer) after out out' end → Wrote (10 ∷ []) out' end out'' end' → LineRight input out out'' end'
  line_written {input} p w y =
      written (answer_text (told answer) after ++ (10 ∷ [])) room
      (record {
        after = after;
        answer = answer;
        right = subst (λ (b : List ℕ). ReadRight (text_in_of input) b after (told answer)) new (subst (λ (t : List ℕ). ReadRight t bytes after (told answer)) p right);
        says = refl;
      })
      (wrote_more (omega arith) w.wrote y)

-- a newline has room after what is said
pub newline_room : {x : Result} {bytes before after : List ℕ} {end : ℕ} → Put x bytes before after end → line_room ≤ length before → end < length after
newline_room p h = let l = p.short in let z = p.wrote.size in omega arith
