-- No second answer fits the promise of `read_system`: `told` loses nothing. Assumes nothing.
use Prim.Native.Nat.{ℕ}
use mathlib.Core.Path.{◌≡◌, refl, sym, ap, ap₂, ◌∙◌}
use mathlib.Core.Bool.{cond}
use mathlib.Core.List.{List}
use lib.Dec.{eqb}
use Rattle.std.specs.Prelude.{Ok, Err}
use Rattle.std.specs.Prelude as std
use Rattle.rules.proofs.Once.{told_once}
use Rattle.systems.specs.declared.Refusal.{Refusal}
use Rattle.systems.specs.declared.Refusal.TheVariants.{TooLong, Ended, UnknownKind, WrongSort, NoProposition, Leftover}
use Rattle.systems.specs.Refusals.{number, place}
use Rattle.systems.specs.Answer.{Result, accepted, refused, answer, told}

-- the system's refusal of a number and a place
abbrev named : ℕ → ℕ → Refusal
named n p = cond (eqb n 9) TooLong (cond (eqb n 2) (Ended p) (cond (eqb n 3) (UnknownKind p) (cond (eqb n 4) (WrongSort p) (cond (eqb n 5) (NoProposition p) (Leftover p)))))

named_told : (x : Refusal) → named (number x) (place x) ≡ x
named_told TooLong = refl
named_told (Ended p) = refl
named_told (UnknownKind p) = refl
named_told (WrongSort p) = refl
named_told (NoProposition p) = refl
named_told (Leftover p) = refl

-- a refusal is known by its number and its place
pub one_refusal : (x y : Refusal) → number x ≡ number y → place x ≡ place y → x ≡ y
one_refusal x y n p = sym (named_told x) ∙ ap₂ named n p ∙ named_told y

abbrev meant : Result → std.Result ℕ Refusal
meant (accepted p) = Ok p
meant (refused n p) = Err (named n p)

meant_told : (a : std.Result ℕ Refusal) → meant (told a) ≡ a
meant_told (Ok p) = refl
meant_told (Err x) = ap Err (named_told x)

pub one_answer : (s : List ℕ) (a b : std.Result ℕ Refusal) → told a ≡ answer s → told b ≡ answer s → a ≡ b
one_answer s a b p q = told_once told meant meant_told a b (p ∙ sym q)
