-- From the search for an input to its line. Assumes nothing.
use Prim.Native.Nat.{ℕ, ◌≤◌, ◌<◌}
use mathlib.Core.Path.{◌≡◌, refl, ap, subst, subst⁻¹, ◌∙◌}
use mathlib.Core.List.{List}
use lib.ListN.{length, get_or, length-replicate}
use Rattle.levels.specs.Lent.{pair_count}
use Rattle.automata.specs.IsTable.{Words}
use Rattle.search.specs.Answer.{SearchAnswer}
use Rattle.search.specs.Answer.{Slices, told, SearchRight}
use Rattle.lines.specs.Text.{text_of}
use Rattle.lines.specs.Input.{rule_in_of, model_in_of}
use Rattle.writing.specs.Wrote.{Wrote}
use Rattle.lines.specs.Room.{line_room, shown_length, LineFits}
use Rattle.lines.specs.Line.{fresh, LineRight, written}
use Rattle.lines.proofs.Inputs.{model_bytes_lem}
use Rattle.lines.proofs.Fitting.{search_fits}

fresh_long : length fresh.run ≡ pair_count
unfolding fresh
fresh_long = length-replicate {A = ℕ} pair_count 0

module _ {rule model out : List ℕ} {before after : Slices} (answer : SearchAnswer) (new : before ≡ fresh) (room : line_room ≤ length out) (right : SearchRight rule model before after (told answer after.run)) where
  pub line_fits : (input : List ℕ) → ((i : ℕ) → get_or input i 0 < 256) → model ≡ model_in_of input → length after.run ≡ length before.run → LineFits (shown_length answer) after.run out
  line_fits input bytes q e =
      search_fits rule model before after (λ i. subst⁻¹ (λ (s : List ℕ). get_or s i 0 < 256) q (model_bytes_lem input bytes i)) answer out room (e ∙ ap (λ (s : Slices). length s.run) new ∙ fresh_long) right

  pub line_written : {input out' : List ℕ} {long : ℕ} → rule ≡ rule_in_of input → model ≡ model_in_of input → Words after.table → Wrote (text_of (told answer after.run)) out 0 out' long
      → LineRight input out out' long
  line_written {input} p q words w =
      written (text_of (told answer after.run)) room
      (record {
        after = after;
        words = words;
        answer = answer;
        right =
            subst (λ (s : Slices). SearchRight (rule_in_of input) (model_in_of input) s after (told answer after.run)) new
            (subst (λ (s : List ℕ). SearchRight s (model_in_of input) before after (told answer after.run)) p
            (subst (λ (s : List ℕ). SearchRight rule s before after (told answer after.run)) q right));
        says = refl;
      })
      w
