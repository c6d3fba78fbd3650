-- `squeeze` keeps one byte after another. Assumes nothing.
use native.Mathlib.Omega.{arith}
use Rattle.text_reader.proofs.Squeezing.{nothing_yet, squeeze_out, squeeze_keep, squeeze_done}
use Rattle.text_reader.proofs.reader.squeeze.Goals.{then-byte, else-byte}
use Rattle.text_reader.proofs.reader.squeeze.Goals as goal

pub loop-i-init : goal.loop-i-init
loop-i-init c = nothing_yet _

pub loop-i-preserved : goal.loop-i-preserved
loop-i-preserved c = let l = c.loop-i in elim c.if-byte.branch [ then-byte w ↦ squeeze_keep _ _ _ _ l.invariant (omega arith) _ _ w.if-byte.true w.bytes-is w.to-is | else-byte w ↦ squeeze_out _ _ _ _ l.invariant (omega arith) _ _ w.if-byte.false w.bytes-is w.to-is ]

pub returns : goal.returns
returns c = squeeze_done _ _ _ _ c.loop-i.invariant _ (omega arith) (omega arith)
