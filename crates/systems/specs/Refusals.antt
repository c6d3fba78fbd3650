-- The number and the place of each refusal of a system. Assumes nothing: these are definitions.
use Rattle.std.specs.Prelude.{ℕ}
use Rattle.systems.specs.declared.Refusal.{Refusal}
use Rattle.systems.specs.declared.Refusal.TheVariants.{TooLong, Ended, UnknownKind, WrongSort, NoProposition, Leftover}

abbrev pub number : Refusal → ℕ
number TooLong = 9
number (Ended p) = 2
number (UnknownKind p) = 3
number (WrongSort p) = 4
number (NoProposition p) = 5
number (Leftover p) = 6

abbrev pub place : Refusal → ℕ
place TooLong = 0
place (Ended p) = p
place (UnknownKind p) = p
place (WrongSort p) = p
place (NoProposition p) = p
place (Leftover p) = p
