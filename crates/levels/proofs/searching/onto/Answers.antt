-- `searching::onto` meets its contract. The rows of the set's members for the letter.
-- Assumes nothing.
use native.Mathlib.Omega.{arith}
use Rattle.bits.proofs.Members.{members_same}
use Rattle.bits.proofs.Resting.{in_word}
use Rattle.levels.proofs.searching.onto.Goals as goal

pub union-requires : goal.union-requires
union-requires c = λ k t. omega (arith, in_word k c.ranges.set.fits t, c.requires.0.small, c.requires.1)

pub returns : goal.returns
returns c = members_same c.union.ensures (λ p o. record { from = o.at; held = o.inside; reads = o.holds }) (λ p h. record { at = h.from; inside = h.held; holds = h.reads })
