-- `models::states_of` meets its contract. Assumes nothing.
use Rattle.models.proofs.Finish.{told_whole}
use Rattle.models.proofs.states_of.Goals as goal

pub links-requires : goal.links-requires
links-requires c = told_whole c.args.model.now c.in_ok-n.n c.in_ok-n.ensures
