-- `forward::round` meets its contract. A sweep from the front.
-- Assumes nothing.
use native.Mathlib.Omega.{arith}
use Rattle.bits.proofs.Members.{members_same}
use Rattle.levels.proofs.Queueing.{pushed_same}
use Rattle.levels.proofs.Rounding.{round_lands, lands_round}
use Rattle.levels.proofs.forward.round.Goals as goal

pub invariant_of-from : goal.invariant_of-from
invariant_of-from c = let n = c.args.search.now in
    record { sending = λ s t. let z = c.requires.5.inside s t in (omega (arith, z, n.long), omega (arith, z, c.requires.0, n.lent.model.few)) }

pub union-requires : goal.union-requires
union-requires c = λ k t. omega (arith, c.requires.5.inside k t, c.args.search.now.long)

pub sweep-requires : goal.sweep-requires
sweep-requires c = let p = c.requires in
    let n = c.args.search.now.lent in
    (n.model, n.by_letter.long, p.1, p.2, λ t h. (c.states_of-live.ensures.holds t h).1, p.3, p.4)

pub shape_of-after : goal.shape_of-after
shape_of-after c = c.sweep.ensures.1

pub shape_of-marks : goal.shape_of-marks
shape_of-marks c = c.sweep.ensures.2.step.size

pub shape_of-queue : goal.shape_of-queue
shape_of-queue c = c.sweep.ensures.2.beyond.size

pub returns : goal.returns
returns c = let s = c.args.search.now in
    let w = c.args.wave in
    let p = s.lent in
    let f = c.requires.5 in
    let u = c.union.ensures in
    let l = members_same c.states_of-live.ensures (λ t h. (u.holds t h.0, h.1)) (λ t h. (u.has t h.0, h.1)) in
    let e = c.sweep.ensures in (
      e.0,
      e.1,
      pushed_same _ e.2
          (λ i o. round_lands s.table.now s.letters.now s.rows.now s.sizes.weight s.sizes.states p.labels p.model p.by_letter s.successors.now c.args.front.now _ w.fresh _ w.level f l i o)
          (λ i o. lands_round s.table.now s.letters.now s.rows.now s.sizes.weight s.sizes.states p.labels p.model p.by_letter s.successors.now c.args.front.now _ w.fresh _ w.level f l i o),
      e.3,
    )
