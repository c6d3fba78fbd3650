-- `sweep::incoming` meets its contract. What is handed on, what the letter leads to, what of it is new.
-- Assumes nothing.
use Rattle.levels.proofs.Waving.{arrive_members}
use Rattle.levels.proofs.sweep.incoming.Goals as goal

pub gather-handed-requires : goal.gather-handed-requires
gather-handed-requires c = c.requires.0.state

pub onto-set-requires : goal.onto-set-requires
onto-set-requires c = (c.requires.0, c.requires.1)

pub filter-requires : goal.filter-requires
filter-requires c = (c.requires.2, c.requires.0.state)

pub returns : goal.returns
returns c = let a = c.args in
    let f = a.from.now in
    arrive_members a.rows.now a.letters.now f.successors.now f.front.now a.marks.now f.fresh a.t c.gather-handed.ensures c.onto-set.ensures c.filter.ensures
