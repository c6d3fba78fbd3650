-- No second answer fits the reader's promise. Assumes nothing.
use Prim.Native.Nat.{ℕ}
use mathlib.Core.Path.{◌≡◌, refl, sym, ap, ◌∙◌}
use mathlib.Core.Bool.{cond}
use mathlib.Core.List.{List}
use lib.Dec.{eqb}
use Rattle.std.specs.Prelude.{⊤, Ok, Err}
use Rattle.std.specs.Prelude as std
use Rattle.models.specs.declared.Refusal.{Refusal}
use Rattle.models.specs.declared.Refusal.TheVariants.{TooMany, WrongKind, CutShort, LetterTooLarge, WrongFlag, NoSuchState}
use Rattle.models.specs.declared.ModelRead.{ModelRead}
use Rattle.models.specs.Answer.{number, place, Verdict, accepted, refused, Result, verdict_of, told, answer}

-- the refusal that has this number and place
abbrev pub named : ℕ → ℕ → Refusal
named n p =
    cond (eqb n 11) TooMany
    (cond (eqb n 12) (WrongKind p)
    (cond (eqb n 13) (CutShort p)
    (cond (eqb n 14) (LetterTooLarge p) (cond (eqb n 15) (WrongFlag p) (NoSuchState p)))))

abbrev answer_of : Verdict → std.Result ⊤ Refusal
answer_of accepted = Ok tt
answer_of (refused n p) = Err (named n p)

abbrev untold : Result → ModelRead
untold r = record { answer = answer_of r.verdict; model = r.model }

named_told : (x : Refusal) → named (number x) (place x) ≡ x
named_told TooMany = refl
named_told (WrongKind p) = refl
named_told (CutShort p) = refl
named_told (LetterTooLarge p) = refl
named_told (WrongFlag p) = refl
named_told (NoSuchState p) = refl

answer_back : (a : std.Result ⊤ Refusal) → answer_of (verdict_of a) ≡ a
answer_back (Ok x) = refl
answer_back (Err x) = ap Err (named_told x)

-- `told` has a left inverse
told_back : (r : ModelRead) → untold (told r) ≡ r
told_back r = ap (λ (a : std.Result ⊤ Refusal). record { answer = a; model = r.model }) (answer_back r.answer)

pub one_answer : (s : List ℕ) (r r' : ModelRead) → told r ≡ answer s → told r' ≡ answer s → r ≡ r'
one_answer s r r' e e' = sym (told_back r) ∙ ap untold (e ∙ sym e') ∙ told_back r'
