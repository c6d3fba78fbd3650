-- `inner::passes` meets its contract. The three passes, one after the other.
-- Assumes nothing.
use Prim.Native.Nat.{◌≤◌}
use native.Mathlib.Omega.{arith}
use lib.ListN.{length}
use Rattle.levels.proofs.SearchInput.{input_in}
use Rattle.passes.proofs.Finding.{answers_nothing, level_small, pickable, answers_found, listed_marked, listed_queued}
use Rattle.passes.proofs.inner.passes.Goals as goal

pub returns : goal.returns
returns c = let f = c.forward-end in
    let e = rw c.if-end.false at f.ensures.2 in
    (answers_nothing (input_in c.args.search.now) f.result.level f.result.count _ _ e, f.ensures.0, f.ensures.1)

pub slice_bounds-backward-end : goal.slice_bounds-backward-end
slice_bounds-backward-end c = let f = c.forward-end in
    let e = rw c.if-end.true at f.ensures.2 in
    omega (arith, e.marked.few, c.requires.0.queue_long, f.ensures.1.size)

pub backward-requires : goal.backward-requires
backward-requires c = let p = c.requires in
    let f = c.forward-end in
    let e = rw c.if-end.true at f.ensures.2 in
    let h : f.result.count ≤ length f.new.queue = omega (arith, e.marked.few, p.0.queue_long, f.ensures.1.size) in
    (omega (arith, p.0.marks_long, f.ensures.0.size), p.1, p.4, listed_marked _ _ _ _ h e.marked, listed_queued _ _ _ _ h f.ensures.3)

pub pick-requires : goal.pick-requires
pick-requires c = let p = c.requires in
    let f = c.forward-end in
    let e = rw c.if-end.true at f.ensures.2 in
    let G = input_in c.args.search.now in
    (omega (arith, p.0.marks_long, f.ensures.0.size), omega (arith, p.1, c.backward.ensures.0), p.2, level_small G f.result.level f.result.count _ e, pickable G f.result.level f.result.count _ e _ c.backward.ensures.1)

pub returns-then-end : goal.returns-then-end
returns-then-end c = let f = c.forward-end in
    let e = rw c.if-end.true at f.ensures.2 in
    let G = input_in c.args.search.now in
    let b = c.pick.ensures.0 in
    (answers_found G f.result.level f.result.count _ e _ _ c.pick.ensures.1 b (omega (arith, b.size, c.requires.2, level_small G f.result.level f.result.count _ e)), f.ensures.0, f.ensures.1)
