-- `systems::ends::step_start` reads a mark, a formula and a mark. Assumes nothing.
use Rattle.systems.proofs.Readers.{s_second}
use Rattle.systems.proofs.ends.step_start.Goals as goal

pub returns : goal.returns
returns c = s_second c.args.system.now c.in_ok-first.first c.in_ok-first.ensures c.in_ok-m.m c.in_ok-m.ensures c.mark_end-2.result c.mark_end-2.ensures
