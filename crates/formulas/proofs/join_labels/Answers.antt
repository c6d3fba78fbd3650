-- `formulas::join_labels` meets its contract: the label of the junction of two formulas, from theirs. Assumes nothing.
use Rattle.formulas.proofs.Labelling.{meet_joins, union_joins}
use Rattle.formulas.proofs.join_labels.Goals as goal

pub returns-in-And : goal.returns-in-And
returns-in-And c = meet_joins _ c.in-And.is _ _

pub returns-in-Or : goal.returns-in-Or
returns-in-Or c = union_joins _ c.in-Or.is _ _
