-- `choose::pick` meets its contract. The invariant is `Written`: the states so far are the first of a shortest match.
-- Assumes nothing.
use Prim.Native.Nat.{◌+◌, ◌≤◌}
use mathlib.Core.Path.{refl}
use native.Mathlib.Omega.{arith}
use lib.ListN.{length}
use Rattle.bits.proofs.Members.{lowest_is}
use Rattle.tables.proofs.promise.Beyonds.{beyond_none, beyond_next}
use Rattle.passes.specs.inner.Uses.{flat}
use Rattle.levels.proofs.SearchInput.{input_in}
use Rattle.passes.proofs.Picking.{write_start, write_end, mask_some, write_turn}
use Rattle.passes.proofs.Choosing.{onward_members, choices_members}
use Rattle.passes.proofs.choose.pick.Goals as goal

pub loop-level-init : goal.loop-level-init
loop-level-init c = (omega arith, beyond_none _ _, write_start c.args.long c.args.search.now.sizes.initial _ refl c.requires.4.some)

pub overflow_add-level : goal.overflow_add-level
overflow_add-level c = record { fits = omega (arith, c.requires.3) }

pub choices-mask-requires : goal.choices-mask-requires
choices-mask-requires c = (λ t h. (c.states_of-these.ensures.holds t h).1, c.requires.0, c.requires.1)

pub lowest-s-requires : goal.lowest-s-requires
lowest-s-requires c = let a = c.args in
    let s = a.search.now in
    let p = c.requires in
    let l = c.loop-level in
    let h : a.long ≤ length l.run = omega (arith, l.invariant.1.size, p.2, p.3) in
    mask_some (input_in s) a.long a.marks.now (flat a.marks.now a.useful.now) p.4 l.run h l.held l.next l.level c.loop-level-test.true l.invariant.2 c.choices-mask.result (choices_members s a.marks.now a.useful.now l.held (l.level + 1) l.invariant.0 l.next c.states_of-these.ensures c.choices-mask.ensures)

pub overflow_cast-run : goal.overflow_cast-run
overflow_cast-run c = record { fits = omega (arith, c.lowest-s.ensures.inside) }

pub overflow_cast-run-in-loop-level : goal.overflow_cast-run-in-loop-level
overflow_cast-run-in-loop-level c = record { fits = omega (arith, c.lowest-s.ensures.inside, c.requires.3) }

pub bounds-run-level : goal.bounds-run-level
bounds-run-level c = omega (arith, c.loop-level.invariant.1.size, c.requires.2, c.requires.3, c.loop-level-test.true)

pub overflow_add-level-in-loop-level : goal.overflow_add-level-in-loop-level
overflow_add-level-in-loop-level c = record { fits = omega (arith, c.requires.3) }

pub onward-held-requires : goal.onward-held-requires
onward-held-requires c = ((c.states_of-these.ensures.holds _ (lowest_is c.lowest-s.ensures c.choices-mask.ensures).0).1, c.requires.0, c.requires.1)

pub bounds-search-s : goal.bounds-search-s
bounds-search-s c = omega (arith, (c.states_of-these.ensures.holds _ (lowest_is c.lowest-s.ensures c.choices-mask.ensures).0).1, c.args.search.now.long)

pub loop-level-preserved : goal.loop-level-preserved
loop-level-preserved c = let a = c.args in
    let s = a.search.now in
    let p = c.requires in
    let l = c.loop-level in
    let h : a.long ≤ length l.run = omega (arith, l.invariant.1.size, p.2, p.3) in
    let m = choices_members s a.marks.now a.useful.now l.held (l.level + 1) l.invariant.0 l.next c.states_of-these.ensures c.choices-mask.ensures in
    let b = (lowest_is c.lowest-s.ensures m).below in (
      omega (arith, c.onward-held.type_inv),
      beyond_next l.level c.lowest-s.result l.invariant.1 c.loop-level-test.true,
      write_turn (input_in s) a.long a.marks.now (flat a.marks.now a.useful.now) p.4 l.run h l.held l.next l.level c.loop-level-test.true l.invariant.2 c.choices-mask.result m c.lowest-s.result c.lowest-s.ensures c.onward-held.result
          (onward_members s a.marks.now a.useful.now l.held (l.level + 1) l.invariant.0 c.lowest-s.result b c.onward-held.ensures),
    )

pub shape_of-run : goal.shape_of-run
shape_of-run c = c.loop-level.invariant.1.size

pub returns : goal.returns
returns c = (c.loop-level.invariant.1, write_end c.loop-level.auto.level-end c.loop-level-test.false c.loop-level.invariant.2)
