-- `advance_rows` meets its contract: the rows of the members, united, are the step over the table. Assumes nothing.
use native.Mathlib.Omega.{arith}
use Rattle.bits.proofs.Resting.{in_word}
use Rattle.letter_rows.proofs.Laying.{rows_gathered}
use Rattle.letter_rows.proofs.advance_rows.Goals as goal

pub union-requires : goal.union-requires
union-requires c = λ k t. omega (arith, in_word k c.ranges.set.fits t)

pub returns : goal.returns
returns c = rows_gathered _ _ _ _ c.requires.0 c.requires.1 c.ranges.set.fits c.union.type_inv c.union.ensures
