-- No second line fits an input, and no second answer and content of the output fit the promise of `line`. Assumes nothing.
use Prim.Native.Nat.{ℕ}
use native.Mathlib.Omega.{arith}
use mathlib.Core.Path.{◌≡◌, sym, ap₂, ◌∙◌}
use mathlib.Core.List.{List, [], ◌∷◌, ◌++◌}
use lib.ListN.{replicate}
use Rattle.texts.specs.Answer.{Result, told}
use Rattle.texts.proofs.Once as texts-once
use Rattle.writing.proofs.Wrotes.{wrote_same}
use Rattle.text_lines.specs.Input.{text_in_of}
use Rattle.text_lines.specs.Line.{answer_text, LineOf, LineRight, short_output, written}

pub one_line : (input l l' : List ℕ) → LineOf input l → LineOf input l' → l ≡ l'
one_line input l l' x y =
    let o = texts-once.one_read (text_in_of input) (replicate 255 0) x.after y.after (told x.answer) (told y.answer) x.right y.right in
    x.says ∙ ap₂ (λ (a : Result) (s : List ℕ). answer_text a s ++ (10 ∷ [])) o.0 o.1 ∙ sym y.says

pub one_answer : (input b a a' : List ℕ) (n n' : ℕ) → LineRight input b a n → LineRight input b a' n' → (n ≡ n') × (a ≡ a')
one_answer input b a a' n n' (short_output s e z) (short_output s' e' z') = (z ∙ sym z', e ∙ sym e')
one_answer input b a a' n n' (short_output s e z) (written l r x w) = absurd (omega arith)
one_answer input b a a' n n' (written l r x w) (short_output s e z) = absurd (omega arith)
one_answer input b a a' n n' (written l r x w) (written l' r' x' w') = wrote_same (one_line input l l' x x') w w'
