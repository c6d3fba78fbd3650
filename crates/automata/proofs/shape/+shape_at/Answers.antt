-- The proof of the cycle of calls {shape_at}. The measure is what is left of the slice from `at` on. Assumes nothing.
use native.Mathlib.Omega.{arith}
use Rattle.automata.proofs.Shaping.{kind_is, stands_here, fits_first, fits_second, pair_weights, shaped_letter, shaped_empty, shaped_again, shaped_two, shaped_none, shaped_counted, shaped_occurs}
use Rattle.automata.proofs.shape.+shape_at.Goals as goal

pub shape_at-a-requires-in-Two : goal.shape_at-a-requires-in-Two
shape_at-a-requires-in-Two t c = let l = stands_here _ _ _ c.requires in (omega arith, fits_first _ _ _ c.requires _ (kind_is _ c.kind_of.ensures c.in-OfRule.is c.in-Two.is))

pub shape_at-b-requires : goal.shape_at-b-requires
shape_at-b-requires t c = let l = stands_here _ _ _ c.requires in let h = fits_second _ _ _ c.requires _ (kind_is _ c.kind_of.ensures c.in-OfRule.is c.in-Two.is) c.shape_at-a-in-Two.result c.shape_at-a-in-Two.ensures in (omega arith, h.0)

pub pair_shape-requires : goal.pair_shape-requires
pair_shape-requires t c = let w = pair_weights _ _ _ c.requires _ (kind_is _ c.kind_of.ensures c.in-OfRule.is c.in-Two.is) c.shape_at-a-in-Two.result c.shape_at-b.result c.shape_at-a-in-Two.ensures c.shape_at-b.ensures in (w.0, w.1, omega (arith, w.2))

pub returns-then-c-eq0 : goal.returns-then-c-eq0
returns-then-c-eq0 t c = shaped_none _ _ (kind_is _ c.kind_of.ensures c.in-OfRule.is c.in-Counted.is) _ c.counts_at-c.ensures c.if-c-eq0.true c.rule_past.result c.rule_past.ensures

pub returns-in-Letter : goal.returns-in-Letter
returns-in-Letter t c = shaped_letter _ _ (kind_is _ c.kind_of.ensures c.in-OfRule.is c.in-Letter.is) c.formula_past.result c.formula_past.ensures

pub returns-in-Empty : goal.returns-in-Empty
returns-in-Empty t c = shaped_empty _ _ (kind_is _ c.kind_of.ensures c.in-OfRule.is c.in-Empty.is)

pub returns-in-Again : goal.returns-in-Again
returns-in-Again t c = shaped_again _ _ _ (kind_is _ c.kind_of.ensures c.in-OfRule.is c.in-Again.is) c.shape_at-a.result c.again_shape.result c.shape_at-a.ensures c.again_shape.ensures

pub returns-in-Two : goal.returns-in-Two
returns-in-Two t c = shaped_two _ _ _ (kind_is _ c.kind_of.ensures c.in-OfRule.is c.in-Two.is) c.shape_at-a-in-Two.result c.shape_at-b.result c.pair_shape.result c.shape_at-a-in-Two.ensures c.shape_at-b.ensures c.pair_shape.ensures

pub returns-else-c-eq0 : goal.returns-else-c-eq0
returns-else-c-eq0 t c = shaped_counted _ _ (kind_is _ c.kind_of.ensures c.in-OfRule.is c.in-Counted.is) _ c.counts_at-c.ensures c.shape_at-a-in-Counted.result c.row_shape.result c.shape_at-a-in-Counted.ensures c.row_shape.ensures

pub returns-in-Occurs : goal.returns-in-Occurs
returns-in-Occurs t c = shaped_occurs _ _ (kind_is _ c.kind_of.ensures c.in-OfRule.is c.in-Occurs.is) _ c.counts_at-c-in-Occurs.ensures c.formula_past-in-Occurs.result c.occurs_shape.result c.formula_past-in-Occurs.ensures c.occurs_shape.ensures
