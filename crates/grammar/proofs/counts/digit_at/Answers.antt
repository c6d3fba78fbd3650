-- `digit_at` looks at one character. Assumes nothing.
use native.Mathlib.Omega.{arith}
use mathlib.Core.Path.{refl}
use Rattle.grammar.specs.inner.Places.{a_digit}
use Rattle.grammar.proofs.counts.digit_at.Goals as goal

pub returns : goal.returns
returns c = a_digit _ refl (omega arith) (record { inside = omega arith; char = omega arith })
