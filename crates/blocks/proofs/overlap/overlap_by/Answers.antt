-- `blocks::overlap::overlap_by` meets its contract. Assumes nothing.
use mathlib.Core.Path.{sym, ◌∙◌}
use Rattle.blocks.proofs.Overlapping.{one_put, one_keep}
use Rattle.blocks.proofs.overlap.overlap_by.Goals as goal

pub returns-then-has : goal.returns-then-has
returns-then-has c = one_put _ _ _ _ _ _ _ _ _ (sym c.has.ensures ∙ c.if-has.true) c.get-x.ensures c.unite_part.ensures

pub returns-else-has : goal.returns-else-has
returns-else-has c = one_keep _ _ _ _ _ _ _ (sym c.has.ensures ∙ c.if-has.false)
