-- No second line fits an input, and no second answer and content of the output fit the promise of `line`. Assumes nothing.
use Prim.Native.Nat.{ℕ}
use native.Mathlib.Omega.{arith}
use mathlib.Core.Path.{◌≡◌, sym, ap₂, ◌∙◌}
use mathlib.Core.List.{List}
use Rattle.search.specs.Answer.{SearchAnswer}
use Rattle.search.specs.Answer.{Slices, told}
use Rattle.search.proofs.Once.{one_search_answer}
use Rattle.lines.specs.Text.{text_of}
use Rattle.lines.specs.Input.{rule_in_of, model_in_of}
use Rattle.writing.proofs.Wrotes.{wrote_same}
use Rattle.lines.specs.Line.{fresh, LineOf, LineRight, short_output, written}

pub one_line : (input l l' : List ℕ) → LineOf input l → LineOf input l' → l ≡ l'
one_line input l l' x y =
    let o = one_search_answer (rule_in_of input) (model_in_of input) fresh x.after y.after x.answer y.answer x.words y.words x.right y.right in
    x.says ∙ ap₂ (λ (a : SearchAnswer) (s : Slices). text_of (told a s.run)) o.0 o.1 ∙ sym y.says

pub one_answer : (input b a a' : List ℕ) (n n' : ℕ) → LineRight input b a n → LineRight input b a' n' → (n ≡ n') × (a ≡ a')
one_answer input b a a' n n' (short_output s e z) (short_output s' e' z') = (z ∙ sym z', e ∙ sym e')
one_answer input b a a' n n' (short_output s e z) (written l r x w) = absurd (omega arith)
one_answer input b a a' n n' (written l r x w) (short_output s e z) = absurd (omega arith)
one_answer input b a a' n n' (written l r x w) (written l' r' x' w') = wrote_same (one_line input l l' x x') w w'
