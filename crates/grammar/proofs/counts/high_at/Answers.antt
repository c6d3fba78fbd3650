-- `high_at` takes the second count and what closes it. Assumes nothing.
use Rattle.std.proofs.lemmas.Result.{err_from_is_err_and}
use mathlib.Core.Path.{refl}
use Rattle.grammar.specs.inner.Reading.{high}
use Rattle.grammar.specs.inner.Places.{not_high}
use Rattle.grammar.proofs.CountsAt.{as_number, as_no_number, high_open, high_closed}
use Rattle.grammar.proofs.counts.high_at.Goals as goal

pub returns-in_err-high : goal.returns-in_err-high
returns-in_err-high c = let p = err_from_is_err_and c.from_residual.result c.from_residual.ensures.1 in rw (p.1, p.2) (not_high _ refl (as_no_number c.number_at.ensures _ c.in_err-high.was high))

pub returns-then-not-stands : goal.returns-then-not-stands
returns-then-not-stands c = high_open _ _ _ _ _ (as_number c.number_at.ensures _ c.in_ok-high.was) (c.stands.ensures.no_fails c.if-not-stands.true)

pub returns : goal.returns
returns c = high_closed _ _ _ _ _ (as_number c.number_at.ensures _ c.in_ok-high.was) (c.stands.ensures.yes_holds c.if-not-stands.false)
