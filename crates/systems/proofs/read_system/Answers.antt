-- `systems::read_system` meets its contract. Assumes nothing.
use native.Mathlib.Omega.{arith}
use Rattle.std.proofs.lemmas.Result.{err_from_is_err_and}
use Rattle.systems.proofs.Finish.{told_bad_step, told_left, told_whole}
use Rattle.systems.proofs.read_system.Goals as goal

pub returns-in_err-end : goal.returns-in_err-end
returns-in_err-end c =
    let p = err_from_is_err_and c.from_residual-in_err-end.result c.from_residual-in_err-end.ensures.1 in
    rw (p.1, p.2) (told_bad_step c.args.system.now (omega arith) c.in_ok-step.step c.in_ok-step.ensures _ c.in_err-end.ensures)

pub returns-then-end-system : goal.returns-then-end-system
returns-then-end-system c = told_left c.args.system.now (omega arith) c.in_ok-step.step c.in_ok-step.ensures c.in_ok-end.end c.in_ok-end.ensures c.if-end-system.true

pub returns : goal.returns
returns c = told_whole c.args.system.now (omega arith) c.in_ok-step.step c.in_ok-step.ensures c.in_ok-end.end c.in_ok-end.ensures c.if-end-system.false
