-- `forward::begin` meets its contract. A sweep from one state that holds table state 0 and has the initial states after it.
-- Assumes nothing.
use mathlib.Core.Path.{◌≡◌}
use native.Mathlib.Omega.{arith}
use Rattle.bits.proofs.Members.{members_first}
use Rattle.levels.proofs.Queueing.{pushed_same}
use Rattle.levels.proofs.Rounding.{queued_none, begin_lands, lands_begin}
use Rattle.levels.proofs.forward.begin.Goals as goal

pub invariant_of-root : goal.invariant_of-root
invariant_of-root c = record { sending = λ s t. let z : 0 ≡ s = members_first.holds s t in (omega arith, omega arith) }

pub sweep-requires : goal.sweep-requires
sweep-requires c = let p = c.requires in
    let n = c.args.search.now.lent in
    (n.model, n.by_letter.long, p.0, p.1, λ t h. (c.states_of-live.ensures.holds t h).1, omega arith, queued_none _ _ p.2)

pub shape_of-front : goal.shape_of-front
shape_of-front c = c.sweep.ensures.1

pub shape_of-marks : goal.shape_of-marks
shape_of-marks c = c.sweep.ensures.2.step.size

pub shape_of-queue : goal.shape_of-queue
shape_of-queue c = c.sweep.ensures.2.beyond.size

pub returns : goal.returns
returns c = let s = c.args.search.now in
    let p = s.lent in
    let l = c.states_of-live.ensures in
    let e = c.sweep.ensures in (
      e.0,
      e.1,
      pushed_same _ e.2
          (λ i o. begin_lands s.table.now s.letters.now s.rows.now s.sizes.weight s.sizes.states p.labels p.model p.by_letter s.sizes.initial _ l i o)
          (λ i o. lands_begin s.table.now s.letters.now s.rows.now s.sizes.weight s.sizes.states p.labels p.model p.by_letter s.sizes.initial _ l i o),
      e.3,
    )
