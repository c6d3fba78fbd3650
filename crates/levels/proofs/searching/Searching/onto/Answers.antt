-- `Searching::onto` meets its contract. A state of the model has its letter.
-- Assumes nothing.
use Rattle.levels.proofs.UsedLetters.{has_letter}
use Rattle.levels.proofs.searching.Searching.onto.Goals as goal

pub onto-requires : goal.onto-requires
onto-requires c = let s = c.args.self.now in (has_letter s.lent.model c.requires, s.lent.by_letter.long)
