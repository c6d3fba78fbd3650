-- `blocks::overlap::overlap` meets its contract. Assumes nothing.
use Rattle.blocks.proofs.Crossings.{overlap_joins}
use Rattle.blocks.proofs.overlap.overlap.Goals as goal

pub returns : goal.returns
returns c = overlap_joins _ _ _ _ _ _ c.raise-finals.ensures c.requires c.overlap_rows.ensures
