-- `number_at` goes by the first digit. Assumes nothing.
use native.Mathlib.Omega.{arith}
use mathlib.Core.Path.{refl}
use Rattle.grammar.specs.inner.Places.{is, no_number}
use Rattle.grammar.proofs.CountsAt.{is_digit, is_none, digit_is, digit_less, none_there, one_and}
use Rattle.grammar.proofs.counts.number_at.Goals as goal

pub returns-in_default : goal.returns-in_default
returns-in_default c = no_number _ refl (none_there _ _ _ c.requires (is_none c.digit_at.ensures c.in_default.is))

pub returns-then-first-eq-ONE : goal.returns-then-first-eq-ONE
returns-then-first-eq-ONE c = let e = c.if-first-eq-ONE.true in let h = (is_digit c.digit_at.ensures _ c.in-Some.is).1 in one_and _ _ _ c.requires (record { inside = h.inside; char = let i = h.char in omega arith }) _ c.teen_at.ensures

pub returns-then-first-least : goal.returns-then-first-least
returns-then-first-least c = no_number _ refl (digit_less _ _ _ c.requires _ (is_digit c.digit_at.ensures _ c.in-Some.is).1 c.if-first-eq-ONE.false c.if-first-least.true)

pub returns : goal.returns
returns c = let x = is_digit c.digit_at.ensures _ c.in-Some.is in is _ refl (digit_is _ _ _ c.requires _ x.1 x.0 c.if-first-eq-ONE.false (omega arith))
