-- `lasting::alive::without_dead_ends` meets its contract: the stored sets are masked with the set of the states that last. Assumes nothing.
use Rattle.lasting.proofs.Restricting.{without_made}
use Rattle.lasting.proofs.alive.without_dead_ends.Goals as goal

pub returns : goal.returns
returns c = without_made _ _ c.requires _ c.lasting_states-set.ensures c.kept_ways-successors.ensures
