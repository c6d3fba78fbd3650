-- `sign_at` tries the characters that may follow. Assumes nothing.
use Rattle.std.proofs.lemmas.Result.{err_from_is_err_and}
use mathlib.Core.Path.{refl}
use Rattle.definitions.specs.declared.kinds.Pair.TheVariants.{Then, Overlap, Either}
use Rattle.grammar.specs.inner.Reading.{tail, rows}
use Rattle.grammar.specs.inner.Places.{operator, no_sign}
use Rattle.grammar.proofs.Standing.{absent}
use Rattle.grammar.proofs.AfterOperand.{op_then, op_overlap, op_either, repeats, no_repeat}
use Rattle.grammar.proofs.signs.sign_at.Goals as goal

pub returns-then-stands : goal.returns-then-stands
returns-then-stands c = operator Then _ refl (op_then _ _ (c.stands.ensures.yes_holds c.if-stands.true))

pub returns-then-stands-2 : goal.returns-then-stands-2
returns-then-stands-2 c = operator Overlap _ refl (op_overlap _ _ (c.stands-2.ensures.yes_holds c.if-stands-2.true))

pub returns-then-stands-3 : goal.returns-then-stands-3
returns-then-stands-3 c = operator Either _ refl (op_either _ _ (c.stands-3.ensures.yes_holds c.if-stands-3.true))

pub returns-then-not-stands : goal.returns-then-not-stands
unfolding rows
returns-then-not-stands c = no_sign _ refl (absent _ tail refl _ (c.stands.ensures.no_fails c.if-stands.false, (c.stands-2.ensures.no_fails c.if-stands-2.false, (c.stands-3.ensures.no_fails c.if-stands-3.false, (c.stands-4.ensures.no_fails c.if-stands-4.false, (c.stands-5.ensures.no_fails c.if-not-stands.true, tt))))))

pub returns-in_err-repetition : goal.returns-in_err-repetition
returns-in_err-repetition c = let p = err_from_is_err_and c.from_residual.result c.from_residual.ensures.1 in rw (p.1, p.2) (no_repeat (c.stands-5.ensures.yes_holds c.if-not-stands.false) c.bracket_at.ensures _ c.in_err-repetition.was)

pub returns : goal.returns
returns c = repeats (c.stands-5.ensures.yes_holds c.if-not-stands.false) c.bracket_at.ensures _ c.in_ok-repetition.was
