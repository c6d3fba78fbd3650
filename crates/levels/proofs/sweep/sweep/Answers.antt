-- `search::sweep::sweep` meets its contract. The invariant: the rows taken out so far are done, and their new pairs are the front of the next level.
-- Assumes nothing.
use Prim.Native.Nat.{◌<◌}
use mathlib.Core.Path.{refl, ap, ◌∙◌}
use native.Mathlib.Omega.{arith}
use native.Mathlib.Numerals.{add-one}
use lib.ListN.{length}
use Rattle.bits.proofs.Laws.{bit_zero}
use Rattle.bits.proofs.Truths.{false_no}
use Rattle.bits.proofs.Members.{says_any, members_bits}
use Rattle.bits.proofs.Begun.{rest_begun}
use Rattle.bits.proofs.Resting.{turn_rest, turn_was}
use Rattle.levels.specs.inner.Waves.{Lands}
use Rattle.levels.proofs.UsedLetters.{has_letter}
use Rattle.levels.proofs.Queueing.{queued_up, pushing_begun, pushing_turn, pushing_end}
use Rattle.levels.proofs.Waving.{Arrival, arrival_pushed, arrival_size, front_none, front_turn, front_done}
use Rattle.levels.proofs.sweep.sweep.Goals as goal

pub loop-t-init : goal.loop-t-init
loop-t-init c = let a = c.args in
    let f = a.from.now in
    let q = c.requires.6 in
    let e = ap (λ z. z.rest) c.into_iter-t-iterator.ensures.into_iter_gives ∙ c.members-t-items.ensures in
    (rest_begun e c.ranges.live.fits, refl, pushing_begun e (Lands a.rows.now a.letters.now f.successors.now f.front.now f.fresh) (queued_up q), front_none _ q, λ k t. absurd (false_no (bit_zero k) t))

pub incoming-new-requires : goal.incoming-new-requires
incoming-new-requires c = let p = c.requires in
    let i = c.loop-t.invariant in
    let s = c.in-Some.ensures.steps in
    (has_letter p.0 (p.4 c.in-Some.t (turn_was i.0 s.0 s.1)), p.1, omega (arith, p.3.marks_long, i.2.step.size))

pub bounds-after-t : goal.bounds-after-t
bounds-after-t c = omega (arith, c.in-Some.ensures.steps.0.inside, c.loop-t.invariant.1, c.requires.2)

pub push_all-total-requires : goal.push_all-total-requires
push_all-total-requires c = let p = c.requires in
    let i = c.loop-t.invariant in (
      record { marks_long = omega (arith, p.3.marks_long, i.2.step.size); queue_long = omega (arith, p.3.queue_long, i.2.beyond.size) },
      c.in-Some.ensures.steps.0.inside,
      p.5,
      λ q t. (c.incoming-new.ensures.holds q t).1,
      i.2.queued,
    )

pub loop-t-preserved : goal.loop-t-preserved
loop-t-preserved c = let a = c.args in
    let f = a.from.now in
    let p = c.requires in
    let b = c.loop-t in
    let x = b.invariant.0 in
    let t = c.in-Some.t in
    let l = c.in-Some.ensures.steps.0 in
    let w = c.in-Some.ensures.steps.1 in
    let h = p.4 t (turn_was x l w) in
    let room : t < length b.after = omega (arith, l.inside, b.invariant.1, p.2) in
    let e : Arrival a.rows.now a.letters.now f.successors.now f.front.now f.fresh t a.level b.after _ b.marks _ b.queue _ b.total c.push_all-total.result =
    record { new = c.incoming-new.result; fits = omega (arith, c.incoming-new.type_inv); stored = refl; are = c.incoming-new.ensures; pushed = c.push_all-total.ensures } in
    let y = says_any e.fits (members_bits c.incoming-new.result) in (
      turn_rest x l w,
      arrival_size e ∙ b.invariant.1,
      pushing_turn (Lands a.rows.now a.letters.now f.successors.now f.front.now f.fresh) x l w b.invariant.2 (arrival_pushed e),
      front_turn e room h b.invariant.3 b.invariant.4 x l w c.with_if-next.ensures y,
      front_done e room h b.invariant.3 b.invariant.4 x l w c.with_if-next.ensures y,
    )

pub overflow_add-result : goal.overflow_add-result
overflow_add-result c = record { fits = omega (arith, c.requires.5) }

pub shape_of-after : goal.shape_of-after
shape_of-after c = c.loop-t.invariant.1

pub shape_of-marks : goal.shape_of-marks
shape_of-marks c = c.loop-t.invariant.2.step.size

pub shape_of-queue : goal.shape_of-queue
shape_of-queue c = c.loop-t.invariant.2.beyond.size

pub returns : goal.returns
returns c = let a = c.args in
    let f = a.from.now in
    let i = c.loop-t.invariant in
    (add-one a.level, i.1, pushing_end (Lands a.rows.now a.letters.now f.successors.now f.front.now f.fresh) c.in-None.ensures.steps.0 i.2, i.3)
