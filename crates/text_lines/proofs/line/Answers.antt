-- `line` reads the text into fresh bytes, and writes what came out. Assumes nothing.
use native.Mathlib.Omega.{arith}
use mathlib.Core.Path.{refl}
use Rattle.text_lines.specs.Line.{short_output}
use Rattle.text_lines.proofs.Cases.{line_fits, line_written, newline_room}
use Rattle.text_lines.proofs.line.Goals as goal

pub returns-then-out-lt-LINE_ROOM : goal.returns-then-out-lt-LINE_ROOM
returns-then-out-lt-LINE_ROOM c = short_output (omega arith) refl refl

pub put_answer-end-requires : goal.put_answer-end-requires
put_answer-end-requires c = let x = c.read_text-answer in
    line_fits _ c.args.out.now _ _ x.result refl (omega arith) x.ensures (omega arith)

pub put_byte-requires : goal.put_byte-requires
put_byte-requires c = let w = c.put_answer-end.ensures in
    newline_room w (omega arith)

pub returns : goal.returns
returns c = let x = c.read_text-answer in
    line_written _ c.args.out.now _ _ x.result refl (omega arith) x.ensures c.text_in.ensures c.put_answer-end.ensures c.put_byte.ensures
