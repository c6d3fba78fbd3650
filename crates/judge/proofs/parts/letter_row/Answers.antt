-- `parts::letter_row` meets its contract. Assumes nothing.
use mathlib.Core.Path.{refl}
use native.Mathlib.Omega.{arith}
use Rattle.bits.proofs.Sayings.{on, off}
use Rattle.judge.proofs.Rows.{no_bit, one_bit}
use Rattle.judge.proofs.parts.letter_row.Goals as goal

pub returns-then-letters-i : goal.returns-then-letters-i
returns-then-letters-i c = λ f e d. no_bit (λ k t. omega (arith, t.inside))

pub returns-then-h : goal.returns-then-h
returns-then-h c = λ f e d. one_bit c.with.ensures (record { one = refl; inside = omega arith; fits = on (c.holds_at-h.ensures f e d).0 c.if-h.true }) (λ k t. t.one)

pub returns : goal.returns
returns c = λ f e d. no_bit (λ k t. off (c.holds_at-h.ensures f e d).0 c.if-h.false t.fits)
