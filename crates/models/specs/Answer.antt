-- What reading a model gives back, for every sequence of bytes: refusals 11 to 16, or the model. Assumes nothing: these are definitions.
use Rattle.std.specs.Prelude.{ℕ, List, ⊤, Ok, Err}
use Rattle.std.specs.Prelude as std
use Rattle.models.specs.declared.Refusal.{Refusal}
use Rattle.models.specs.declared.Refusal.TheVariants.{TooMany, WrongKind, CutShort, LetterTooLarge, WrongFlag, NoSuchState}
use Rattle.models.specs.declared.ModelData.{ModelData}
use Rattle.models.specs.declared.ModelRead.{ModelRead}
use Rattle.models.specs.Reading.{Outcome, good, fault, reading}
use Rattle.models.specs.Stored.{stored, no_states}

-- the number and the place of each refusal
abbrev pub number : Refusal → ℕ
number TooMany = 11
number (WrongKind p) = 12
number (CutShort p) = 13
number (LetterTooLarge p) = 14
number (WrongFlag p) = 15
number (NoSuchState p) = 16

abbrev pub place : Refusal → ℕ
place TooMany = 704
place (WrongKind p) = p
place (CutShort p) = p
place (LetterTooLarge p) = p
place (WrongFlag p) = p
place (NoSuchState p) = p

-- accepted, or refused with number and place
pub data Verdict : Type 0 where
  accepted : Verdict
  refused : ℕ → ℕ → Verdict

-- the verdict, and the model beside it
pub record Result : Type 0 where
  pub verdict : Verdict
  pub model : ModelData

-- a refusal comes with the model that has no states
abbrev pub refused_as : ℕ → ℕ → Result
refused_as number place = record { verdict = refused number place; model = no_states }

abbrev pub given : List ℕ → Outcome → Result
given s (good n) = record { verdict = accepted; model = stored s n }
given s (fault number place) = refused_as number place

abbrev pub answer : List ℕ → Result
answer s = given s (reading s)

-- the number and the values of each case of the answer
abbrev pub verdict_of : std.Result ⊤ Refusal → Verdict
verdict_of (Ok x) = accepted
verdict_of (Err x) = refused (number x) (place x)

abbrev pub told : ModelRead → Result
told r = record { verdict = verdict_of r.answer; model = r.model }

-- the same in the middle of reading: how it goes on after a part that is in order, or at fault
abbrev pub onward : std.Result ⊤ Refusal → Outcome → Outcome
onward (Ok x) on = on
onward (Err x) on = fault (number x) (place x)

abbrev pub counted : std.Result ℕ Refusal → Outcome
counted (Ok n) = good n
counted (Err x) = fault (number x) (place x)
