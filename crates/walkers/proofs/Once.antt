-- No second answer fits a promise: what is told determines the answer. Assumes nothing.
use Rattle.std.specs.Prelude.{Result, Ok, Err}
use mathlib.Core.Bool.{Bool, true, cond}
use mathlib.Core.Logic.Iff
use mathlib.Core.Logic.{◌↔◌}
use Prim.Native.Nat.{ℕ}
use mathlib.Core.Path.{◌≡◌, refl, sym, ap, ◌∙◌}
use mathlib.Core.List.{List}
use lib.Dec.{eqb}
use Rattle.definitions.specs.Numbers.{short_slice_number, bad_letter_number}
use Rattle.rules.proofs.Once.{told_once}
use Rattle.walkers.specs.declared.Walker.{Walker}
use Rattle.walkers.specs.declared.Refusal.{Refusal}
use Rattle.walkers.specs.declared.Refusal.TheVariants.{ShortTable, BadLetter, FullCount}
use Rattle.walkers.specs.declared.Step.{Step}
use Rattle.walkers.specs.Refusals.{number, place}
use Rattle.walkers.specs.Steps.{Reply, flag, refusal, reply_of, Told, told, given, step_of}
use Rattle.walkers.specs.Walks.{ending, follow_of, Follows}
use Rattle.walkers.proofs.Walking.{follow_sat}

-- the refusal of a number and a place
abbrev named : ℕ → ℕ → Refusal
named n i = cond (eqb n short_slice_number) ShortTable (cond (eqb n bad_letter_number) (BadLetter i) FullCount)

named_told : (x : Refusal) → named (number x) (place x) ≡ x
named_told ShortTable = refl
named_told (BadLetter i) = refl
named_told FullCount = refl

abbrev answer_of : Reply → Result Bool Refusal
answer_of (flag b) = Ok b
answer_of (refusal n i) = Err (named n i)

answer_back : (a : Result Bool Refusal) → answer_of (reply_of a) ≡ a
answer_back (Ok b) = refl
answer_back (Err x) = ap Err (named_told x)

abbrev back_to_step : Told → Step
back_to_step d = record { walker = d.walker; answer = answer_of d.says }

step_back : (s : Step) → back_to_step (told s) ≡ s
step_back s = ap (λ (a : Result Bool Refusal). record { walker = s.walker; answer = a }) (answer_back s.answer)

pub one_step : (t : List ℕ) (w : Walker) (x : ℕ) (r s : Step) → told r ≡ step_of t w x → told s ≡ step_of t w x → r ≡ s
one_step t w x r s d e = told_once told back_to_step step_back r s (d ∙ sym e)

-- of a walker that is lent: one answer, and one walker left there
pub one_lent : (t : List ℕ) (w : Walker) (x : ℕ) (v u : Walker) (a b : Result Bool Refusal) → told (given v a) ≡ step_of t w x → told (given u b) ≡ step_of t w x → (a ≡ b) × (v ≡ u)
one_lent t w x v u a b d e = let s = one_step t w x (given v a) (given u b) d e in (λ i. (s i).answer, λ i. (s i).walker)

pub one_follow : (t : List ℕ) (f : ℕ) (l : List ℕ) (r s : Result Bool Refusal) → ending r ≡ follow_of t f l → ending s ≡ follow_of t f l → r ≡ s
one_follow t f l r s d e = told_once ending answer_of answer_back r s (d ∙ sym e)

-- what is told of yes is yes
pub yes_told : (t : List ℕ) (f : ℕ) (l : List ℕ) (r : Result Bool Refusal) → ending r ≡ follow_of t f l → (r ≡ Ok true) ↔ (follow_of t f l ≡ flag true)
yes_told t f l r e = (λ d. sym e ∙ ap ending d, λ d. sym (answer_back r) ∙ ap answer_of (e ∙ d))

-- so an answer that fits follows each rule that the table serves
pub follows : (t : List ℕ) (f : ℕ) (l : List ℕ) (r : Result Bool Refusal) → ending r ≡ follow_of t f l → Follows t f l r
follows t f l r e = record { follows = λ a serves long h. Iff.trans (yes_told t f l r e) (follow_sat a t f serves long l h) }
