-- The number and the place of each refusal of a rule. Assumes nothing: these are definitions.
use Rattle.std.specs.Prelude.{ℕ}
use Rattle.definitions.specs.declared.Refusal.{Refusal}
use Rattle.definitions.specs.declared.Refusal.TheVariants.{TooLong, Ended, UnknownKind, WrongSort, NoProposition, Leftover, TooHeavy, BadCounts}

abbrev pub number : Refusal → ℕ
number TooLong = 1
number (Ended p) = 2
number (UnknownKind p) = 3
number (WrongSort p) = 4
number (NoProposition p) = 5
number (Leftover p) = 6
number TooHeavy = 7
number (BadCounts p) = 8

abbrev pub place : Refusal → ℕ
place TooLong = 0
place (Ended p) = p
place (UnknownKind p) = p
place (WrongSort p) = p
place (NoProposition p) = p
place (Leftover p) = p
place TooHeavy = 0
place (BadCounts p) = p
