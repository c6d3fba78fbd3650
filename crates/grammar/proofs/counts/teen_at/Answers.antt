-- `teen_at` takes what follows a first digit 1. Assumes nothing.
use native.Mathlib.Omega.{arith}
use mathlib.Core.Path.{refl}
use Rattle.grammar.specs.inner.Places.{is, no_number}
use Rattle.grammar.proofs.CountsAt.{is_digit, is_none, stops_at, teen_is, teen_less, one_is, one_less}
use Rattle.grammar.proofs.counts.teen_at.Goals as goal

pub returns-then-least-gt-ONE : goal.returns-then-least-gt-ONE
returns-then-least-gt-ONE c = no_number _ refl (one_less _ _ _ c.requires.1 (stops_at _ _ (is_none c.digit_at.ensures c.in_default.is)) c.if-least-gt-ONE.true)

pub returns-in_default : goal.returns-in_default
returns-in_default c = is _ refl (one_is _ _ _ c.requires.1 c.requires.0 (stops_at _ _ (is_none c.digit_at.ensures c.in_default.is)) (omega arith))

pub returns-then-value-least : goal.returns-then-value-least
returns-then-value-least c = let x = is_digit c.digit_at.ensures _ c.in-Some.is in no_number _ refl (teen_less _ _ _ c.requires.1 _ _ x.1 x.0 refl c.if-value-least.true)

pub returns : goal.returns
returns c = let x = is_digit c.digit_at.ensures _ c.in-Some.is in is _ refl (teen_is _ _ _ c.requires.1 _ _ x.1 x.0 refl (omega arith))
