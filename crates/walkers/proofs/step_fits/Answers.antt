-- `step_fits` meets its contract: each refusal is one line of `step_of`. Assumes nothing.
use native.Mathlib.Omega.{arith}
use Rattle.std.proofs.lemmas.Result.{err_from_is_err_and}
use Rattle.walkers.proofs.Answers.{step_short, step_bad, step_full}
use Rattle.walkers.proofs.step_fits.Goals as goal

pub returns-in_err-table_fits-clause-err : goal.returns-in_err-table_fits-clause-err
returns-in_err-table_fits-clause-err g c =
    let no = c.in_err-table_fits.ensures in
    let up = err_from_is_err_and c.from_residual.result c.from_residual.ensures.1 in
    rw (up.1, up.2, no.refusal) (step_short _ _ _ (omega (arith, no.exactly)))

pub returns-in_err-letter_fits-clause-err : goal.returns-in_err-letter_fits-clause-err
returns-in_err-letter_fits-clause-err g c =
    let no = c.in_err-letter_fits.ensures in
    let up = err_from_is_err_and c.from_residual-in_err-letter_fits.result c.from_residual-in_err-letter_fits.ensures.1 in
    rw (up.1, up.2, no.refusal) (step_bad _ _ _ (c.in_ok-table_fits.ensures.exactly).0 (omega (arith, no.exactly)))

pub returns-then-walker-ge-LARGEST_COUNT-clause-err : goal.returns-then-walker-ge-LARGEST_COUNT-clause-err
returns-then-walker-ge-LARGEST_COUNT-clause-err g c = step_full _ _ _ (c.in_ok-table_fits.ensures.exactly).0 (c.in_ok-letter_fits.ensures.exactly).0 (omega arith)

pub returns-clause-ok : goal.returns-clause-ok
returns-clause-ok g c = ((c.in_ok-table_fits.ensures.exactly).0, (c.in_ok-letter_fits.ensures.exactly).0, omega arith)
