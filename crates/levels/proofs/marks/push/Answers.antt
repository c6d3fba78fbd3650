-- `search::marks::push` meets its contract. Two stores.
-- Assumes nothing.
use native.Mathlib.Omega.{arith}
use Rattle.levels.proofs.Queueing.{queue_room, push_one}
use Rattle.levels.proofs.marks.push.Goals as goal

pub offset_bounds-queue-count : goal.offset_bounds-queue-count
offset_bounds-queue-count c = record { fits = omega (arith, queue_room c.args.at c.requires.4 c.requires.1 c.requires.0.marks_long c.requires.3) }

pub bounds-queue-count : goal.bounds-queue-count
bounds-queue-count c = omega (arith, queue_room c.args.at c.requires.4 c.requires.1 c.requires.0.marks_long c.requires.3)

pub returns : goal.returns
returns c = push_one c.args.level _ _ c.args.at c.args.count c.requires.1 c.requires.0.marks_long c.requires.0.queue_long c.requires.3 c.requires.4
