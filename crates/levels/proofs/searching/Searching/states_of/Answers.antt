-- `states_of` meets its contract. The members that are below the number of states.
-- Assumes nothing.
use Rattle.bits.proofs.Members.{members_bits}
use Rattle.levels.proofs.Rounding.{members_below}
use Rattle.levels.proofs.searching.Searching.states_of.Goals as goal

pub below-requires : goal.below-requires
below-requires c = c.args.self.now.lent.model.few

pub returns : goal.returns
returns c = members_below c.args.self.now.sizes.states (members_bits c.args.set) c.below.ensures
