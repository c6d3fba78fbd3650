-- The proof of the builder's walk, which calls itself. The measure is what is left of the bytes from `at` on. Assumes nothing.
use native.Mathlib.Omega.{arith}
use Rattle.automata.proofs.Shaping.{kind_is, stands_here, fits_again, counted_room, shaped_letter, shaped_again, shaped_two, shaped_counted, shaped_occurs}
use Rattle.blocks.proofs.Building.{base_small, shape_room, letter_done, empty_done, again_step, nowhere_step, laid_at, fits_lo, further, mid_small, fits_mid, ready_up, ready_mid, two_at, weights, room_of, two_step, none_done, counted_step, occurs_done}
use Rattle.automata.proofs.RowEnds.{room_low}
use Rattle.blocks.proofs.fill.+build_at.Goals as goal

pub again-requires : goal.again-requires
again-requires t c = omega (arith, c.requires.ready.long, c.build_at-a.auto.t, shape_room _ _ _ (fits_again _ _ _ c.requires.fits _ (kind_is _ c.kind_of.ensures c.in-OfRule.is c.in-Again.is)) _ c.build_at-a.ensures.shaped_as)

pub returns-in_default-clause-built_at : goal.returns-in_default-clause-built_at
returns-in_default-clause-built_at t c = nowhere_step _ _ _ c.requires.fits _ (kind_is _ c.kind_of.ensures c.in-OfRule.is c.in-Two.is) c.place_at.ensures c.in_default.is _ c.requires.ready

pub build_at-a-requires-in-Two : goal.build_at-a-requires-in-Two
build_at-a-requires-in-Two t c = let laid = laid_at _ _ _ c.requires.fits _ (kind_is _ c.kind_of.ensures c.in-OfRule.is c.in-Two.is) c.place_at.ensures c.in-Some.is in let here = stands_here _ _ _ c.requires.fits in let small = base_small _ _ _ c.requires.fits in (omega arith, (fits_lo laid, ready_up _ _ _ c.requires.ready laid.behind))

pub overflow_add-lo : goal.overflow_add-lo
overflow_add-lo t c = let laid = laid_at _ _ _ c.requires.fits _ (kind_is _ c.kind_of.ensures c.in-OfRule.is c.in-Two.is) c.place_at.ensures c.in-Some.is in let h = mid_small laid _ c.build_at-a-in-Two.ensures.shaped_as in omega arith

pub build_at-b-requires : goal.build_at-b-requires
build_at-b-requires t c = let laid = laid_at _ _ _ c.requires.fits _ (kind_is _ c.kind_of.ensures c.in-OfRule.is c.in-Two.is) c.place_at.ensures c.in-Some.is in let here = stands_here _ _ _ c.requires.fits in let small = base_small _ _ _ c.requires.fits in let l = further laid _ c.build_at-a-in-Two.ensures.shaped_as in (omega arith, (fits_mid laid _ c.build_at-a-in-Two.ensures.shaped_as, ready_mid laid _ c.build_at-a-in-Two.ensures.shaped_as _ _ c.requires.ready c.build_at-a-in-Two.auto.t c.build_at-a-in-Two.ensures.built_at))

pub join-requires : goal.join-requires
join-requires t c = let laid = laid_at _ _ _ c.requires.fits _ (kind_is _ c.kind_of.ensures c.in-OfRule.is c.in-Two.is) c.place_at.ensures c.in-Some.is in room_of laid _ c.build_at-a-in-Two.ensures.shaped_as _ c.build_at-b.ensures.shaped_as _ (omega (arith, c.requires.ready.long, c.build_at-b.auto.t, c.build_at-a-in-Two.auto.t))

pub pair_shape-requires : goal.pair_shape-requires
pair_shape-requires t c = let laid = laid_at _ _ _ c.requires.fits _ (kind_is _ c.kind_of.ensures c.in-OfRule.is c.in-Two.is) c.place_at.ensures c.in-Some.is in let z = weights (two_at laid _ c.build_at-a-in-Two.ensures.shaped_as _ c.build_at-b.ensures.shaped_as) in (z.0, z.1, omega (arith, z.2))

pub returns-in-Letter : goal.returns-in-Letter
returns-in-Letter t c = record { built_at = letter_done _ _ _ c.requires.fits (kind_is _ c.kind_of.ensures c.in-OfRule.is c.in-Letter.is) _ _ _ c.requires.ready c.label_and_end-a.ensures c.put.ensures; shaped_as = shaped_letter _ _ (kind_is _ c.kind_of.ensures c.in-OfRule.is c.in-Letter.is) _ (λ f e d. (c.label_and_end-a.ensures f e d).1) }

pub returns-in-Empty-clause-built_at : goal.returns-in-Empty-clause-built_at
returns-in-Empty-clause-built_at t c = empty_done _ _ _ c.requires.fits (kind_is _ c.kind_of.ensures c.in-OfRule.is c.in-Empty.is) _ c.requires.ready

pub returns-in-Again : goal.returns-in-Again
returns-in-Again t c = record { built_at = again_step _ _ _ c.requires.fits _ (kind_is _ c.kind_of.ensures c.in-OfRule.is c.in-Again.is) _ c.build_at-a.ensures.shaped_as _ _ _ c.build_at-a.ensures.built_at c.again.ensures; shaped_as = shaped_again _ _ _ (kind_is _ c.kind_of.ensures c.in-OfRule.is c.in-Again.is) _ _ c.build_at-a.ensures.shaped_as c.again_shape.ensures }

pub returns-in-Some : goal.returns-in-Some
returns-in-Some t c = let laid = laid_at _ _ _ c.requires.fits _ (kind_is _ c.kind_of.ensures c.in-OfRule.is c.in-Two.is) c.place_at.ensures c.in-Some.is in record { built_at = two_step laid _ c.build_at-a-in-Two.ensures.shaped_as _ c.build_at-b.ensures.shaped_as _ _ _ _ c.requires.ready c.build_at-a-in-Two.ensures.built_at c.build_at-b.ensures.built_at c.join.ensures; shaped_as = shaped_two _ _ _ (kind_is _ c.kind_of.ensures c.in-OfRule.is c.in-Two.is) _ _ _ c.build_at-a-in-Two.ensures.shaped_as c.build_at-b.ensures.shaped_as c.pair_shape.ensures }

pub returns-then-c-eq0-clause-built_at : goal.returns-then-c-eq0-clause-built_at
returns-then-c-eq0-clause-built_at t c = none_done _ _ _ c.requires.fits _ c.counts_at-c.ensures (kind_is _ c.kind_of.ensures c.in-OfRule.is c.in-Counted.is) c.if-c-eq0.true _ c.requires.ready

pub row-requires : goal.row-requires
row-requires t c = (omega (arith, c.requires.ready.long, c.build_at-a-in-Counted.auto.t), counted_room _ _ _ c.requires.fits (kind_is _ c.kind_of.ensures c.in-OfRule.is c.in-Counted.is) _ c.counts_at-c.ensures c.if-c-eq0.false _ c.build_at-a-in-Counted.ensures.shaped_as)

pub row_shape-requires : goal.row_shape-requires
row_shape-requires t c = room_low _ _ _ (counted_room _ _ _ c.requires.fits (kind_is _ c.kind_of.ensures c.in-OfRule.is c.in-Counted.is) _ c.counts_at-c.ensures c.if-c-eq0.false _ c.build_at-a-in-Counted.ensures.shaped_as)

pub returns-else-c-eq0 : goal.returns-else-c-eq0
returns-else-c-eq0 t c = record { built_at = counted_step _ _ _ c.requires.fits _ c.counts_at-c.ensures (kind_is _ c.kind_of.ensures c.in-OfRule.is c.in-Counted.is) _ c.build_at-a-in-Counted.ensures.shaped_as _ _ _ c.requires.ready c.build_at-a-in-Counted.ensures.built_at c.row.ensures; shaped_as = shaped_counted _ _ (kind_is _ c.kind_of.ensures c.in-OfRule.is c.in-Counted.is) _ c.counts_at-c.ensures _ _ c.build_at-a-in-Counted.ensures.shaped_as c.row_shape.ensures }

pub returns-in-Occurs : goal.returns-in-Occurs
returns-in-Occurs t c = record { built_at = occurs_done _ _ _ c.requires.fits _ c.counts_at-c-in-Occurs.ensures (kind_is _ c.kind_of.ensures c.in-OfRule.is c.in-Occurs.is) _ c.label_and_end-f.ensures _ _ c.requires.ready c.tally.ensures; shaped_as = shaped_occurs _ _ (kind_is _ c.kind_of.ensures c.in-OfRule.is c.in-Occurs.is) _ c.counts_at-c-in-Occurs.ensures _ _ (λ f e d. (c.label_and_end-f.ensures f e d).1) c.occurs_shape.ensures }
