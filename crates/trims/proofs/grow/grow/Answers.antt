-- `grow` looks at one state of the rest after the other, each once. Assumes nothing.
use mathlib.Core.Path.{refl}
use native.Mathlib.Omega.{arith}
use Rattle.trims.proofs.Growing.{growing_start, growing_turn, growing_less, growing_all}
use Rattle.trims.proofs.grow.grow.Goals as goal

pub loop-rest-init : goal.loop-rest-init
loop-rest-init c = growing_start _ _ _ _ c.ranges.start.fits

pub side_of-side-requires : goal.side_of-side-requires
side_of-side-requires c = (omega arith, omega arith, c.lowest-p.ensures.inside)

pub without-requires : goal.without-requires
without-requires c = c.lowest-p.ensures

pub loop-rest-smaller : goal.loop-rest-smaller
loop-rest-smaller c = let l = c.lowest-p in
    let s = c.side_of-side in
    omega (arith, growing_less l.result s.result _ _ _ c.loop-rest.invariant l.ensures s.ensures (omega (arith, s.type_inv)) c.without.ensures refl refl)

pub loop-rest-preserved : goal.loop-rest-preserved
loop-rest-preserved c = let l = c.lowest-p in
    let s = c.side_of-side in
    growing_turn l.result s.result _ _ _ c.loop-rest.invariant l.ensures s.ensures (omega (arith, s.type_inv)) c.without.ensures refl refl

pub returns : goal.returns
returns c = growing_all c.loop-rest.invariant (omega arith)
