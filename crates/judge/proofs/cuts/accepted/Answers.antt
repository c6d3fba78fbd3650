-- `cuts::accepted` meets its contract. Assumes nothing.
use Rattle.judge.specs.Parts.{yes}
use borrow.Author.Rules.{rules}
use Rattle.judge.proofs.cuts.accepted.Goals as goal

pub returns : goal.returns
unfolding yes
returns c = search rules
