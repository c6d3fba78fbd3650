-- `backward::backward` meets its contract. The invariant: the pairs listed from i on are settled.
-- Assumes nothing.
use native.Mathlib.Omega.{arith}
use lib.ListN.{length}
use Rattle.levels.proofs.SearchInput.{input_in}
use Rattle.passes.proofs.Keeping.{backed_none, backed_useful, listed_small, listed_state, backed_turn, backed_end}
use Rattle.passes.proofs.backward.backward.Goals as goal

pub loop-i-init : goal.loop-i-init
loop-i-init c = backed_none _ _ _ _ _ _ _ c.requires.2

pub settle-requires : goal.settle-requires
settle-requires c = let a = c.args in
    let s = a.search.now in
    let p = c.requires in
    let l = c.loop-i in
    let t = c.loop-i-test.true in (
      listed_small (input_in s) s.rows.now s.lent.by_letter a.last (length a.listed.now) a.marks.now a.listed.now p.3 p.4 l.i t l.auto.i,
      listed_state (input_in s) s.rows.now s.lent.by_letter a.last (length a.listed.now) a.marks.now a.listed.now p.3 p.4 l.i t l.auto.i,
      p.0,
      omega (arith, p.1, l.auto.useful),
    )

pub loop-i-preserved : goal.loop-i-preserved
loop-i-preserved c = let a = c.args in
    let s = a.search.now in
    let p = c.requires in
    let l = c.loop-i in
    backed_turn (input_in s) s.rows.now s.lent.by_letter a.last (length a.listed.now) a.marks.now a.listed.now p.3 p.4 l.i c.loop-i-test.true l.auto.i (omega (arith, p.1, l.auto.useful)) l.invariant c.settle.ensures

pub returns : goal.returns
returns c = let a = c.args in
    let s = a.search.now in
    let p = c.requires in
    (c.loop-i.auto.useful, backed_useful (input_in s) s.rows.now s.lent.by_letter a.last (length a.listed.now) a.marks.now a.listed.now p.3 p.4 _ (backed_end c.loop-i-test.false c.loop-i.invariant))
