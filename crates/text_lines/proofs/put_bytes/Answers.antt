-- `put_bytes` writes the first byte and then the others. Assumes nothing.
use native.Mathlib.Omega.{arith}
use Rattle.text_lines.proofs.Hexes.{bytes_none, bytes_some, rest_room}
use Rattle.text_lines.proofs.put_bytes.Goals as goal

pub returns-then-bytes-eq0 : goal.returns-then-bytes-eq0
returns-then-bytes-eq0 c = bytes_none c.args.bytes.now _ (omega arith)

pub put_spaced-requires : goal.put_spaced-requires
put_spaced-requires c = rest_room c.args.bytes.now c.args.out.now c.requires (omega arith) c.put_hex-first.ensures c.past.ensures

pub returns : goal.returns
returns c = bytes_some c.args.bytes.now c.args.out.now (omega arith) c.put_hex-first.ensures c.past.ensures c.put_spaced.ensures
