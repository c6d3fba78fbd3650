-- `search::rows::model_rows` meets its contract. The rows for a set that has the model's letters are rows for these letters.
-- Assumes nothing.
use Rattle.steps.proofs.Rowing.{rowed_for}
use Rattle.levels.proofs.rows.model_rows.Goals as goal

pub used_letters-used-requires : goal.used_letters-used-requires
used_letters-used-requires c = c.requires.1

pub fill_rows-requires : goal.fill_rows-requires
fill_rows-requires c = let p = c.requires in
    (p.0.long, p.2, p.0.small, p.3)

pub shape_of-rows : goal.shape_of-rows
shape_of-rows c = c.fill_rows.ensures.0

pub returns : goal.returns
returns c = (c.fill_rows.ensures.0, rowed_for c.fill_rows.ensures.1 c.used_letters-used.ensures.has)
