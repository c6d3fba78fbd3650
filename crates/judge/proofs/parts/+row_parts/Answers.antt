-- The proof of `row_parts`, which calls itself. The measure is how many parts are allowed. Assumes nothing.
use native.Mathlib.Omega.{arith}
use Rattle.judge.proofs.Meaning.{row_none, row_some, row_any}
use Rattle.judge.proofs.parts.+row_parts.Goals as goal

pub returns-then-c-eq0 : goal.returns-then-c-eq0
returns-then-c-eq0 t c = let l = c.requires in let e = c.if-c-eq0.true in row_none _ (omega arith) e c.empty_parts-none.ensures

pub after_one-requires : goal.after_one-requires
after_one-requires t c = omega (arith, c.if-c-eq0.false)

pub row_parts-after-requires : goal.row_parts-after-requires
row_parts-after-requires t c = let l = c.requires in let h = c.after_one.ensures in (omega (arith, c.if-c-eq0.false), omega arith)

pub returns-then-c-eq0-2 : goal.returns-then-c-eq0-2
returns-then-c-eq0-2 t c = let h = c.after_one.ensures in row_any _ _ (omega (arith, c.if-c-eq0.false)) h.0 h.1 c.row_parts-after.ensures c.pair_parts-some.ensures c.if-c-eq0-2.true c.empty_parts-none.ensures c.pair_parts.ensures

pub returns : goal.returns
returns t c = let h = c.after_one.ensures in row_some _ _ (omega (arith, c.if-c-eq0.false)) h.0 h.1 c.row_parts-after.ensures c.pair_parts-some.ensures c.if-c-eq0-2.false
