-- `streams::read_some`: a read that a signal broke off brought nothing. Assumes nothing.
use Prim.Native.Nat.{ℕ}
use mathlib.Core.Path.{◌≡◌, ap}
use native.Mathlib.Omega.{arith}
use Rattle.std.specs.Prelude.{Option, Some, None, Result, Ok, Err}
use Rattle.streams.proofs.read_some.Goals as goal

-- how much came
abbrev took : {E : Type 0} → Result (Option ℕ) E → ℕ
took (Ok (Some more)) = more
took (Ok None) = 0
took (Err x) = 0

pub returns-then-eq : goal.returns-then-eq
returns-then-eq g c = record { fits = λ more e. let h : 0 ≡ more = ap took e in omega (arith, h) }
