-- `follow_from` meets its contract: at each turn what is left to follow tells what the whole does. Assumes nothing.
use native.Mathlib.Omega.{arith}
use Rattle.std.proofs.lemmas.Result.{err_from_is_err_and}
use Rattle.walkers.proofs.Answers.{follow_short, following_start, following_turn, follow_refused, follow_ended}
use Rattle.walkers.proofs.follow_from.Goals as goal

pub returns-in_err-table_fits : goal.returns-in_err-table_fits
returns-in_err-table_fits g c =
    let no = c.in_err-table_fits.ensures in
    let up = err_from_is_err_and c.from_residual.result c.from_residual.ensures.1 in
    rw (up.1, up.2, no.refusal) (follow_short _ _ _ _ (omega (arith, no.exactly)))

pub returns-in_err-letter_fits : goal.returns-in_err-letter_fits
returns-in_err-letter_fits g c =
    let no = c.in_err-letter_fits.ensures in
    let up = err_from_is_err_and c.from_residual-in_err-letter_fits.result c.from_residual-in_err-letter_fits.ensures.1 in
    rw (up.1, up.2, no.refusal) (follow_refused _ _ _ _ _ _ c.loop-i.invariant (c.in_ok-table_fits.ensures.exactly).0 (omega arith) (omega (arith, no.exactly)))

pub loop-i-init : goal.loop-i-init
loop-i-init g c = following_start _ _ _ _ _ (omega arith) (omega arith)

pub loop-i-preserved : goal.loop-i-preserved
loop-i-preserved g c = following_turn _ _ _ _ _ _ c.loop-i.invariant _ (omega arith) (c.in_ok-letter_fits.ensures.exactly).0 c.advance-set.ensures

pub returns : goal.returns
returns g c = follow_ended _ _ _ _ _ _ c.loop-i.invariant (c.in_ok-table_fits.ensures.exactly).0 (omega arith)
