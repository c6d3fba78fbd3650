-- `squares::six_rounds` meets its contract: six rounds, each with its mask. Assumes nothing.
use mathlib.Core.Path.{refl}
use native.Mathlib.Omega.{arith}
use borrow.Author.Rules.{rules}
use Rattle.bits.specs.Word.{bit, any}
use Rattle.squares.proofs.Digits.{half_of}
use Rattle.squares.proofs.Turning.{turned_over}
use Rattle.squares.proofs.six_rounds.Goals as goal

pub round-requires : goal.round-requires
unfolding any bit
round-requires c = (c.requires, search rules, half_of _ _ _ (omega arith) refl refl)

pub round-requires-2 : goal.round-requires-2
unfolding any bit
round-requires-2 c = (omega (arith, c.requires, c.round.ensures.size), omega (arith, c.requires, c.round.ensures.size), half_of _ _ _ (omega arith) refl refl)

pub round-requires-3 : goal.round-requires-3
unfolding any bit
round-requires-3 c = (omega (arith, c.requires, c.round.ensures.size, c.round-2.ensures.size), omega (arith, c.requires, c.round.ensures.size, c.round-2.ensures.size), half_of _ _ _ (omega arith) refl refl)

pub round-requires-4 : goal.round-requires-4
unfolding any bit
round-requires-4 c = (omega (arith, c.requires, c.round.ensures.size, c.round-2.ensures.size, c.round-3.ensures.size), omega (arith, c.requires, c.round.ensures.size, c.round-2.ensures.size, c.round-3.ensures.size), half_of _ _ _ (omega arith) refl refl)

pub round-requires-5 : goal.round-requires-5
unfolding any bit
round-requires-5 c = (omega (arith, c.requires, c.round.ensures.size, c.round-2.ensures.size, c.round-3.ensures.size, c.round-4.ensures.size), omega (arith, c.requires, c.round.ensures.size, c.round-2.ensures.size, c.round-3.ensures.size, c.round-4.ensures.size), half_of _ _ _ (omega arith) refl refl)

pub round-requires-6 : goal.round-requires-6
unfolding any bit
round-requires-6 c = (omega (arith, c.requires, c.round.ensures.size, c.round-2.ensures.size, c.round-3.ensures.size, c.round-4.ensures.size, c.round-5.ensures.size), omega (arith, c.requires, c.round.ensures.size, c.round-2.ensures.size, c.round-3.ensures.size, c.round-4.ensures.size, c.round-5.ensures.size), half_of _ _ _ (omega arith) refl refl)

pub shape_of-block : goal.shape_of-block
shape_of-block c = omega (arith, c.round.ensures.size, c.round-2.ensures.size, c.round-3.ensures.size, c.round-4.ensures.size, c.round-5.ensures.size, c.round-6.ensures.size)

pub returns : goal.returns
returns c = turned_over c.round.ensures c.round-2.ensures c.round-3.ensures c.round-4.ensures c.round-5.ensures c.round-6.ensures
