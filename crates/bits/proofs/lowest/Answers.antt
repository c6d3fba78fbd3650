use native.Mathlib.Omega.{arith}
use Rattle.bits.specs.Word.{word_bits}
use lib.Count.{trailing_le}
use Rattle.bits.proofs.Laws.{trailing_here, trailing_least}
use Rattle.bits.proofs.lowest.Goals as goal

pub overflow_cast-result : goal.overflow_cast-result
overflow_cast-result c = omega (arith, trailing_le word_bits c.args.w)

pub returns : goal.returns
returns c = record { inside = (trailing_here word_bits c.args.w c.requires c.ranges.w.fits).0; least = trailing_least word_bits c.args.w c.requires c.ranges.w.fits }
