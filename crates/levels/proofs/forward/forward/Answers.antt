-- `search::forward::forward` meets its contract. The invariant is `Flow`. The measure falls as long as a level adds a pair, and there are fewer than 4,096.
-- Assumes nothing.
use mathlib.Core.Path.{refl, sym, ◌∙◌}
use native.Mathlib.Omega.{arith}
use Rattle.tables.proofs.promise.Beyonds.{beyond_then}
use Rattle.levels.proofs.SearchInput.{input_in}
use Rattle.levels.proofs.Carrying.{carried_fronts}
use Rattle.levels.proofs.Flowing.{begin_past, flow_begin, flow_final, flow_level, flow_found, flow_none, flow_less, flow_on}
use Rattle.levels.proofs.forward.forward.Goals as goal

pub slice_bounds-begin-end : goal.slice_bounds-begin-end
slice_bounds-begin-end c = refl

pub begin-wave-requires : goal.begin-wave-requires
begin-wave-requires c = let p = c.requires in (omega arith, p.0, p.1)

pub loop-new-init : goal.loop-new-init
loop-new-init c = let e = c.begin-wave.ensures in
    let G = input_in c.args.search.now in
    (refl, flow_begin G e.0 e.2 c.requires.1 e.3 e.1)

pub slice_bounds-final_any-end : goal.slice_bounds-final_any-end
slice_bounds-final_any-end c = sym c.loop-new.invariant.1.room

pub final_any-requires : goal.final_any-requires
final_any-requires c = λ s t. let x = c.loop-new.invariant.1 in omega (arith, x.fronts.inside s t, x.room, c.args.search.now.lent.model.few)

pub shape_of-marks-then-final_any : goal.shape_of-marks-then-final_any
shape_of-marks-then-final_any c = c.loop-new.invariant.1.marks_past.size ∙ c.begin-wave.ensures.2.step.size

pub shape_of-queue-then-final_any : goal.shape_of-queue-then-final_any
shape_of-queue-then-final_any c = c.loop-new.invariant.1.queue_past.size ∙ c.begin-wave.ensures.2.beyond.size

pub returns-then-final_any : goal.returns-then-final_any
returns-then-final_any c = let x = c.loop-new.invariant.1 in
    let e = c.begin-wave.ensures.2 in
    let G = input_in c.args.search.now in
    (beyond_then (begin_past G e) x.marks_past, beyond_then e.beyond x.queue_past, flow_found G x (omega arith) ((flow_final G x c.final_any.ensures).yes_holds c.if-final_any.true), x.queued)

pub slice_bounds-round-end : goal.slice_bounds-round-end
slice_bounds-round-end c = sym c.loop-new.invariant.1.room

pub slice_bounds-round-end-in-loop-new : goal.slice_bounds-round-end-in-loop-new
slice_bounds-round-end-in-loop-new c = sym c.loop-new.invariant.0

pub round-wave-requires : goal.round-wave-requires
round-wave-requires c = let x = c.loop-new.invariant.1 in
    let e = c.begin-wave.ensures.2 in
    let G = input_in c.args.search.now in (
      omega (arith, x.room),
      omega (arith, c.loop-new.invariant.0),
      record { marks_long = omega (arith, x.marks_past.size, e.step.size, c.requires.0.marks_long); queue_long = omega (arith, x.queue_past.size, e.beyond.size, c.requires.0.queue_long) },
      flow_level G x (omega arith),
      x.queued,
      x.fronts,
    )

pub slice_bounds-carry-end : goal.slice_bounds-carry-end
slice_bounds-carry-end c = sym (c.round-wave.ensures.1 ∙ c.loop-new.invariant.0)

pub slice_bounds-carry-end-in-loop-new : goal.slice_bounds-carry-end-in-loop-new
slice_bounds-carry-end-in-loop-new c = sym c.loop-new.invariant.1.room

pub carry-requires : goal.carry-requires
carry-requires c = λ s t.
    let below = c.round-wave.ensures.3.inside s t in
    let few = c.args.search.now.lent.model.few in
    (omega (arith, below, few, c.round-wave.ensures.1, c.loop-new.invariant.0), omega (arith, below, few, c.loop-new.invariant.1.room))

pub overflow_sub-new : goal.overflow_sub-new
overflow_sub-new c = omega (arith, c.round-wave.ensures.2.sum)

pub loop-new-smaller : goal.loop-new-smaller
loop-new-smaller c = let x = c.loop-new.invariant.1 in
    let G = input_in c.args.search.now in
    flow_less G x (omega arith) ((flow_final G x c.final_any.ensures).no_fails c.if-final_any.false) c.round-wave.ensures.2

pub loop-new-preserved : goal.loop-new-preserved
loop-new-preserved c = let i = c.loop-new.invariant in
    let x = i.1 in
    let e = c.round-wave.ensures in
    let y = c.carry.ensures in
    let G = input_in c.args.search.now in
    (e.1 ∙ i.0, flow_on G x (omega arith) ((flow_final G x c.final_any.ensures).no_fails c.if-final_any.false) e.2 e.0 (carried_fronts y e.3) (y.size ∙ x.room))

pub shape_of-marks : goal.shape_of-marks
shape_of-marks c = c.loop-new.invariant.1.marks_past.size ∙ c.begin-wave.ensures.2.step.size

pub shape_of-queue : goal.shape_of-queue
shape_of-queue c = c.loop-new.invariant.1.queue_past.size ∙ c.begin-wave.ensures.2.beyond.size

pub returns : goal.returns
returns c = let x = c.loop-new.invariant.1 in
    let e = c.begin-wave.ensures.2 in
    let G = input_in c.args.search.now in
    (beyond_then (begin_past G e) x.marks_past, beyond_then e.beyond x.queue_past, flow_none G x c.loop-new-test.false, x.queued)
