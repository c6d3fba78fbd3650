-- `exports_c::stepping::gc_step_rows` meets its contract: the step of `exports` is the answer. Given by hand so that a wrong step meets the equation. Assumes nothing.
use Rattle.exports_c.proofs.stepping.gc_step_rows.Goals as goal

pub returns : goal.returns
returns c = c.gc_step_rows.ensures
