-- `put_entry` writes a blank and a number. Assumes nothing.
use native.Mathlib.Omega.{arith}
use mathlib.Core.List.{[], ◌∷◌}
use Rattle.writing.specs.Decimal.{decimal}
use Rattle.writing.proofs.Wrotes.{wrote_more, first_room, then_room}
use Rattle.lines.proofs.answers.put_entry.Goals as goal

pub put_byte-past-requires : goal.put_byte-past-requires
put_byte-past-requires c = omega (arith, first_room (32 ∷ []) (decimal c.args.number) c.args.out.now c.args.at c.requires)

pub put_number-requires : goal.put_number-requires
put_number-requires c = then_room (32 ∷ []) (decimal c.args.number) c.args.out.now c.args.at c.requires c.put_byte-past.ensures

pub returns : goal.returns
returns c = wrote_more (omega (arith, c.requires)) c.put_byte-past.ensures c.put_number.ensures
