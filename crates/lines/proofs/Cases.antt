-- What a search came to, by its cases: that its text has room, and that it is the text. Assumes nothing.
use Prim.Native.Nat.{ℕ, ◌+◌, ◌^◌, ◌≤◌, ◌<◌}
use native.Mathlib.Omega.{arith}
use mathlib.Core.Path.{◌≡◌, sym, ap, ap₂, subst, ◌∙◌}
use mathlib.Core.List.{List}
use lib.ListN.{length, take}
use lib.Seq.{length-take-le}
use Rattle.rules.specs.declared.Known.{Known}
use Rattle.passes.specs.declared.inner.Searched.{Searched}
use Rattle.std.specs.Prelude.{Option, Some, None, Ok, Err}
use Rattle.search.specs.declared.Answered.{Answered}
use Rattle.search.specs.declared.Refusal.{Refusal}
use Rattle.search.specs.Refusals.{number, place}
use Rattle.search.specs.Answer.{SearchAnswer, given_for, given_length, told}
use Rattle.passes.specs.Told.{answer_for, answer_of}
use Rattle.lines.specs.Text.{found_text, none_text, searched_text, uses_text, text_of}
use Rattle.writing.specs.Refused.{refused_text}
use Rattle.writing.specs.Wrote.{Wrote}
use Rattle.lines.specs.Room.{line_room, uses_room, shown_length, LineFits}
use Rattle.writing.proofs.Wrotes.{wrote_more}
use Rattle.lines.proofs.Fitting.{found_room, none_room, refused_room}

-- what was found
module _ (x : Searched) (run out : List ℕ) (fits : LineFits (given_length x) run out) where
  pub found_fits : (long : ℕ) → x.found ≡ Some long → long < 2 ^ 64 → x.pairs < 2 ^ 64 → length (found_text (length (take long run)) (take long run) x.pairs) ≤ length out
  found_fits long q h l =
      let f : LineFits long run out = subst (λ (y : Option ℕ). LineFits (given_for y) run out) q fits in
      let r = found_room long x.pairs (take long run) h l f.run_short in
      let t = f.room in
      rw (length-take-le long run f.run_there) (omega arith)

  pub none_fits : (pairs : ℕ) → pairs < 2 ^ 64 → length (none_text pairs) ≤ length out
  none_fits pairs h = let r = none_room pairs h in let t = fits.room in omega arith

  module _ {after : List ℕ} {end : ℕ} where
    pub found_says : (long : ℕ) → x.found ≡ Some long → long < 2 ^ 64 → x.pairs < 2 ^ 64 → Wrote (found_text (length (take long run)) (take long run) x.pairs) out 0 after end
        → Wrote (searched_text (given_length x) (answer_of x run)) out 0 after end × (end + uses_room ≤ line_room)
    found_says long q h l u =
        let f : LineFits long run out = subst (λ (y : Option ℕ). LineFits (given_for y) run out) q fits in
        let r = found_room long x.pairs (take long run) h l f.run_short in
        let w = rw (length-take-le long run f.run_there) at u in
        let e = w.ends in
        (subst (λ (y : Option ℕ). Wrote (searched_text (given_for y) (answer_for y x.pairs run)) out 0 after end) (sym q) w, omega arith)

    pub none_says : x.found ≡ None → x.pairs < 2 ^ 64 → Wrote (none_text x.pairs) out 0 after end
        → Wrote (searched_text (given_length x) (answer_of x run)) out 0 after end × (end + uses_room ≤ line_room)
    none_says q h w =
        let r = none_room x.pairs h in
        let e = w.ends in
        (subst (λ (y : Option ℕ). Wrote (searched_text (given_for y) (answer_for y x.pairs run)) out 0 after end) (sym q) w, omega arith)

-- the whole
module _ (answer : SearchAnswer) (run out : List ℕ) (fits : LineFits (shown_length answer) run out) where
  pub searched_fits : {x : Answered} → answer ≡ Ok x → LineFits (given_length x.searched) run out
  searched_fits e = subst (λ (a : SearchAnswer). LineFits (shown_length a) run out) e fits

  pub uses_fits : {part after : List ℕ} {end : ℕ} → Wrote part out 0 after end × (end + uses_room ≤ line_room) → end + uses_room ≤ length after
  uses_fits w = let z = w.0.size in let t = fits.room in let u = w.1 in omega arith

  pub refused_fits : (number place : ℕ) → number < 2 ^ 64 → place < 2 ^ 64 → length (refused_text number place) ≤ length out
  refused_fits number place h l = let r = refused_room number place h l in let t = fits.room in omega arith

  module _ {after : List ℕ} {end : ℕ} where
    pub answered_says : {x : Answered} {mid : List ℕ} {past : ℕ} → answer ≡ Ok x → Wrote (searched_text (given_length x.searched) (answer_of x.searched run)) out 0 mid past → Wrote (uses_text x.rule.uses) mid past after end
        → Wrote (text_of (told answer run)) out 0 after end
    answered_says e v w = subst (λ (a : SearchAnswer). Wrote (text_of (told a run)) out 0 after end) (sym e) (wrote_more (omega arith) v w)

    pub refused_says : (x : Refusal) {n p : ℕ} → answer ≡ Err x → n ≡ number x → p ≡ place x → Wrote (refused_text n p) out 0 after end → Wrote (text_of (told answer run)) out 0 after end
    refused_says x e a b w = subst (λ (t : List ℕ). Wrote t out 0 after end) (ap₂ refused_text a b ∙ sym (ap (λ (z : SearchAnswer). text_of (told z run)) e)) w
