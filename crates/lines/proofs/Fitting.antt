-- The text of an answer has room: how long it can get. Assumes nothing.
use Prim.Native.Nat.{ℕ, ◌+◌, ◌*◌, ◌^◌, ◌≤◌, ◌<◌}
use native.Mathlib.Omega.{arith}
use mathlib.Core.Path.{◌≡◌, refl, subst}
use mathlib.Core.List.{List, ◌++◌}
use lib.ListN.{length, get_or, take, length-append, length-take}
use Rattle.levels.specs.Lent.{pair_count}
use Rattle.rules.specs.declared.Known.{Known}
use Rattle.rules.specs.Weight.{weight_of}
use Rattle.automata.specs.Table.{table_of}
use Rattle.models.specs.Model.{Model}
use Rattle.models.specs.Stored.{model_of}
use Rattle.models.specs.Answer as models
use Rattle.models.proofs.Soundness.{answer_held}
use Rattle.lasting.specs.Endless.{LastingRun}
use Rattle.std.specs.Prelude.{Option, Some, None, Ok, Err}
use Rattle.passes.specs.Told.{answer_for}
use Rattle.levels.specs.Right.{Answer, found, Right}
use Rattle.search.specs.Answer.{SearchAnswer, Slices, given_for, Result, answered, SearchRight, refusal, searched, told}
use Rattle.writing.specs.Decimal.{named}
use Rattle.writing.specs.Refused.{refused_text}
use Rattle.lines.specs.Text.{found_word, pairs_word, colon, none_word, states_text, found_text, none_text}
use Rattle.lines.specs.Room.{line_room, uses_room, shown_length, LineFits}
use Rattle.writing.proofs.Shortness.{named_short, refused_short}
use Rattle.lines.proofs.States.{states_short}

pub found_room : (long pairs : ℕ) (run : List ℕ) → long < 2 ^ 64 → pairs < 2 ^ 64 → length (states_text run) ≤ 3 * pair_count → length (found_text long run pairs) + uses_room ≤ line_room
unfolding found_text
found_room long pairs run h k l =
    let a = named_short found_word long h in
    let b = named_short pairs_word pairs k in
    let c = length-append (named found_word long) (named pairs_word pairs) in
    let d = length-append (named found_word long ++ named pairs_word pairs) (colon ++ states_text run) in
    let e = length-append colon (states_text run) in
    omega arith

pub none_room : (pairs : ℕ) → pairs < 2 ^ 64 → length (none_text pairs) + uses_room ≤ line_room
unfolding none_text
none_room pairs h = let a = named_short none_word pairs h in omega arith

pub refused_room : (number place : ℕ) → number < 2 ^ 64 → place < 2 ^ 64 → length (refused_text number place) ≤ line_room
refused_room number place h k = let a = refused_short number place h k in omega arith

-- a find's length is the run's, and none of the run's states is above 63
module _ (rule model : List ℕ) (before after : Slices) (bytes : (i : ℕ) → get_or model i 0 < 256) (k : Known) (long c : ℕ) (run : List ℕ) where
  found_short : {x : Result} → SearchRight rule model before after x → x ≡ answered k long (found run c) → (long ≡ length run) × (length (states_text run) ≤ 3 * length run)
  found_short (refusal q e) w = let z : ◌≡◌ {A = ℕ} 0 1 = cc in absurd (omega arith)
  found_short (searched {f} {n} {r} e v l z) w =
      let g : r ≡ found run c = cc in
      let M : Model = model_of (models.answer model).model in
      let right : Right LastingRun M (table_of after.table (weight_of f) z.finals) f (found run c) = subst (λ (y : Answer). Right LastingRun M (table_of after.table (weight_of f) z.finals) f y) g z.done.right in
      (cc, states_short M (answer_held model bytes).sound.few M.initial run right.0.matches.0.0.1)

-- so the text of every answer has room
pub search_fits : (rule model : List ℕ) (before after : Slices) → ((i : ℕ) → get_or model i 0 < 256) → (answer : SearchAnswer) (out : List ℕ) → line_room ≤ length out → length after.run ≡ pair_count
    → SearchRight rule model before after (told answer after.run) → LineFits (shown_length answer) after.run out
unfolding states_text
search_fits rule model before after bytes (Ok a) out l e x = go a.searched.found a.searched.pairs x
  where
    go : (f : Option ℕ) (pairs : ℕ) → SearchRight rule model before after (answered a.rule (given_for f) (answer_for f pairs after.run)) → LineFits (given_for f) after.run out
    go (Some long) pairs y =
        let f = found_short rule model before after bytes a.rule long pairs (take long after.run) y refl in
        let t = length-take long after.run in
        record { room = l; run_there = omega (arith, f.0); run_short = omega (arith, f.0, f.1) }
    go None pairs y = record { room = l; run_there = omega arith; run_short = omega arith }
search_fits rule model before after bytes (Err x) out l e r = record { room = l; run_there = omega arith; run_short = omega arith }
