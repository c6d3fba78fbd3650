-- `formulas::label_at` meets its contract. Assumes nothing.
use Rattle.formulas.proofs.label_at.Goals as goal

pub returns : goal.returns
returns c = λ f e d. (c.label_and_end-a.ensures f e d).0
