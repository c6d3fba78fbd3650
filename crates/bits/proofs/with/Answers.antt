use mathlib.Core.Path.{ap}
use lib.Bits.{bit_or}
use Rattle.bits.specs.Word.{word_bits, insert}
use Rattle.bits.proofs.Laws.{shl_one}
use Rattle.bits.proofs.with.Goals as goal

pub returns : goal.returns
unfolding insert
returns c = ap (bit_or c.args.w) (shl_one word_bits c.args.k c.requires)
