-- What reading a whole system comes to, for every string of bytes. Assumes nothing: these are definitions.
use Rattle.std.specs.Prelude.{cond, ℕ, ◌+◌, ◌≤◌, ◌≡◌, List, ltb, length, Ok, Err}
use Rattle.std.specs.Prelude as std
use Rattle.definitions.specs.Definition1.{Formula}
use Rattle.systems.specs.declared.Refusal.{Refusal}
use Rattle.systems.specs.Refusals.{number, place}
use Rattle.systems.specs.Reading.{Outcome, good, fault, parse}
use Rattle.systems.specs.Spelling.{spell_f}

-- a longer system is refused before it is read
abbrev pub longest_system : ℕ
longest_system = 255

-- accepted, with the place of the formula for the step; or refused, with number and place
pub data Result : Type 0 where
  accepted : ℕ → Result
  refused : ℕ → ℕ → Result

-- the first formula stands after one mark, the second after two
abbrev pub placed : Outcome → Result
placed (good f g) = accepted (1 + length (spell_f f) + 1)
placed (fault n p) = refused n p

-- the length is tested first
abbrev pub answer : List ℕ → Result
answer s = cond (ltb longest_system (length s)) (refused 9 0) (placed (parse s))

-- the bytes are accepted, as the system of f and g
pub record AcceptedAs (s : List ℕ) (f g : Formula) : Type 0 where
  pub short : length s ≤ longest_system
  pub read : parse s ≡ good f g

-- the paper's number and values for each case of the answer
abbrev pub told : std.Result ℕ Refusal → Result
told (Ok p) = accepted p
told (Err x) = refused (number x) (place x)
