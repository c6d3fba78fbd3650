-- What the readers promise of whatever stands at a place. Assumes nothing: these are definitions.
use Rattle.std.specs.Prelude.{ℕ, ◌+◌, ◌<◌, ◌≡◌, Bool, true, false, List, ◌∷◌, length, get_or, drop, Result, Ok, Err}
use Rattle.definitions.specs.Definition1.{Formula}
use Rattle.systems.specs.declared.Refusal.{Refusal}
use Rattle.systems.specs.Refusals.{number, place}
use Rattle.systems.specs.Kinds.{initial_mark, step_mark}
use Rattle.systems.specs.Reading.{Outcome, fault, Need, mark, formula, body, Value, Rest, scan}
use Rattle.systems.specs.inner.Places.{BodyHere, FormulaAt}

abbrev pub shown : Refusal → Outcome
shown x = fault (number x) (place x)

-- reading on from `at` with n needed first meets this refusal, whatever is needed after it
abbrev pub Fails : List ℕ → ℕ → Need → Refusal → Type 0
Fails s at n x = (ns : List Need) (k : Value n → Rest ns) → scan (drop at s) (n ∷ ns) k at ≡ shown x

-- at the place stands this mark, and it ends at e
pub record MarkHere (s : List ℕ) (m at e : ℕ) : Type 0 where
  pub inside : at < length s
  pub byte : get_or s at 0 ≡ m
  pub ends : at + 1 ≡ e

-- reading at `at` comes to the end of what stands there, or to the first fault
abbrev pub MarkRead : List ℕ → ℕ → ℕ → Result ℕ Refusal → Type 0
MarkRead s m at (Ok e) = MarkHere s m at e
MarkRead s m at (Err x) = Fails s at (mark m) x

abbrev pub BodyRead : List ℕ → ℕ → Result ℕ Refusal → Type 0
BodyRead s at (Ok e) = BodyHere s at (get_or s at 0) e
BodyRead s at (Err x) = Fails s at body x

abbrev pub FormulaRead : List ℕ → Bool → ℕ → Result ℕ Refusal → Type 0
FormulaRead s next at (Ok e) = (f : Formula) × FormulaAt s next at f e
FormulaRead s next at (Err x) = Fails s at (formula next) x

-- the first formula stands at 1 and is f, and the step's begins at `step`
pub record StartAt (s : List ℕ) (f : Formula) (step : ℕ) : Type 0 where
  pub m : ℕ
  pub first_mark : MarkHere s initial_mark 0 1
  pub first : FormulaAt s false 1 f m
  pub second_mark : MarkHere s step_mark m step

-- reading up to the step's formula
abbrev pub StartRead : List ℕ → Result ℕ Refusal → Type 0
StartRead s (Ok e) = (f : Formula) × StartAt s f e
StartRead s (Err x) = (ns : List Need) (k : Unit {0} → Formula → Unit {0} → Rest ns) → scan s (mark initial_mark ∷ formula false ∷ mark step_mark ∷ ns) k 0 ≡ shown x

-- the formula f for the initial states stands at 1, and g for the step at `step`, up to the end
pub record Stands (s : List ℕ) (f g : Formula) (step : ℕ) : Type 0 where
  pub m : ℕ
  pub first : FormulaAt s false 1 f m
  pub second : FormulaAt s true step g (length s)
