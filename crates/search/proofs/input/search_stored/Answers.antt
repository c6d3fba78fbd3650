-- `search::input::search_stored` meets its contract: what is left of the model is searched, and its runs are those that can be continued for ever.
-- Assumes nothing.
use Rattle.search.proofs.Carrying.{searched_lasting}
use Rattle.search.proofs.Whole.{lent_letters, lent_successors}
use Rattle.search.proofs.input.search_stored.Goals as goal

pub search_table-requires : goal.search_table-requires
search_table-requires c = let h = c.without_dead_ends-alive.ensures.held in
    (c.requires.1, lent_letters h, lent_successors h, c.requires.2, c.requires.3, c.requires.4)

pub returns : goal.returns
returns c = searched_lasting c.without_dead_ends-alive.ensures c.search_table.ensures
