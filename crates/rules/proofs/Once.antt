-- No second answer fits the promise of `read_rule`: `told` loses nothing. The calls above, which hand a rule's refusal on, use the same.
-- Assumes nothing.
use Prim.Native.Nat.{ℕ}
use mathlib.Core.Path.{◌≡◌, refl, sym, ap, ap₂, ◌∙◌}
use mathlib.Core.Bool.{true, cond}
use mathlib.Core.List.{List}
use lib.Dec.{eqb, ltb}
use Rattle.definitions.specs.declared.Refusal.{Refusal}
use Rattle.definitions.specs.declared.Refusal.TheVariants.{TooLong, Ended, UnknownKind, WrongSort, NoProposition, Leftover, TooHeavy, BadCounts}
use Rattle.std.specs.Prelude.{Ok, Err}
use Rattle.definitions.specs.Refusals.{number, place}
use Rattle.rules.specs.Answer.{Result, RuleAnswer, accepted, refused, answer, told}

-- what is told determines what it was told of, where it can be taken back: the one law by which no second answer fits
pub told_once : {A B : Type 0} (tell : A → B) (back : B → A) → ((a : A) → back (tell a) ≡ a) → (a b : A) → tell a ≡ tell b → a ≡ b
told_once tell back inverse a b e = sym (inverse a) ∙ ap back e ∙ inverse b

-- the rule's refusal of a number and a place
abbrev named : ℕ → ℕ → Refusal
named n p =
    cond (eqb n 1) TooLong
    (cond (eqb n 2) (Ended p)
    (cond (eqb n 3) (UnknownKind p)
    (cond (eqb n 4) (WrongSort p) (cond (eqb n 5) (NoProposition p) (cond (eqb n 6) (Leftover p) (cond (eqb n 7) TooHeavy (BadCounts p)))))))

abbrev meant : Result → RuleAnswer
meant (accepted k) = Ok k
meant (refused n p) = Err (named n p)

named_told : (x : Refusal) → named (number x) (place x) ≡ x
named_told TooLong = refl
named_told (Ended p) = refl
named_told (UnknownKind p) = refl
named_told (WrongSort p) = refl
named_told (NoProposition p) = refl
named_told (Leftover p) = refl
named_told TooHeavy = refl
named_told (BadCounts p) = refl

-- a refusal is known by its number and its place
pub one_refusal : (x y : Refusal) → number x ≡ number y → place x ≡ place y → x ≡ y
one_refusal x y n p = sym (named_told x) ∙ ap₂ named n p ∙ named_told y

-- the numbers of a rule's refusals are those below 9
of_a_rule : (x : Refusal) → ltb (number x) 9 ≡ true
of_a_rule TooLong = refl
of_a_rule (Ended p) = refl
of_a_rule (UnknownKind p) = refl
of_a_rule (WrongSort p) = refl
of_a_rule (NoProposition p) = refl
of_a_rule (Leftover p) = refl
of_a_rule TooHeavy = refl
of_a_rule (BadCounts p) = refl

-- what a call that hands a rule's refusal on, as `made` makes it, means by a number and a place; `own` is what it means by other numbers
abbrev pub handed_on : {A : Type 0} → (Refusal → A) → A → ℕ → ℕ → A
handed_on made own n p = cond (ltb n 9) (made (named n p)) own

pub handed_on_lem : {A : Type 0} (made : Refusal → A) (own : A) (x : Refusal) → handed_on made own (number x) (place x) ≡ made x
handed_on_lem made own x = rw (of_a_rule x) (ap made (named_told x))

meant_told : (a : RuleAnswer) → meant (told a) ≡ a
meant_told (Ok k) = refl
meant_told (Err x) = ap Err (named_told x)

pub one_answer : (s : List ℕ) (a b : RuleAnswer) → told a ≡ answer s → told b ≡ answer s → a ≡ b
one_answer s a b p q = told_once told meant meant_told a b (p ∙ sym q)
