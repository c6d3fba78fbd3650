-- `put_spaced` writes the bytes one after another. Assumes nothing.
use native.Mathlib.Omega.{arith}
use Rattle.text_lines.proofs.Hexes.{spaced_none, next_room, next_turn, spaced_whole}
use Rattle.text_lines.proofs.put_spaced.Goals as goal

pub loop-byte-init : goal.loop-byte-init
loop-byte-init c = spaced_none c.args.bytes.now _ _

pub put_next-end-requires : goal.put_next-end-requires
put_next-end-requires c = next_room c.args.bytes.now c.args.out.now c.args.at c.loop-byte.byte-index c.requires c.loop-byte.invariant (omega arith)

pub loop-byte-preserved : goal.loop-byte-preserved
loop-byte-preserved c = next_turn c.args.bytes.now c.args.out.now c.args.at c.loop-byte.byte-index c.requires c.loop-byte.invariant (omega arith) c.put_next-end.ensures

pub returns : goal.returns
returns c = spaced_whole c.args.bytes.now c.args.out.now c.args.at c.loop-byte.byte-index c.requires c.loop-byte.invariant (omega arith)
