-- `digit_in` takes one of six digits. Assumes nothing.
use native.Mathlib.Omega.{arith}
use mathlib.Core.Path.{refl}
use Rattle.text_reader.specs.inner.Takings.{took, broke}
use Rattle.grammar.proofs.CountsAt.{is_digit, is_none}
use Rattle.text_reader.proofs.Taking.{no_digit, a_digit}
use Rattle.text_reader.proofs.reader.digit_in.Goals as goal

pub returns-in_default : goal.returns-in_default
returns-in_default c = broke _ refl (no_digit _ _ (is_none c.digit_at.ensures c.in_default.is))

pub returns : goal.returns
returns c = let x = is_digit c.digit_at.ensures _ c.in-Some.is in let i = x.1.inside in took _ refl (a_digit _ _ _ _ _ _ _ _ _ x.0 x.1 (omega arith) c.put_byte-body.ensures c.put_byte-past.ensures)
