-- `automata::shape::maybe` meets its contract. Assumes nothing.
use Rattle.automata.proofs.RowEnds.{first_too}
use Rattle.automata.proofs.shape.maybe.Goals as goal

pub returns-then-low-eq0 : goal.returns-then-low-eq0
returns-then-low-eq0 c = let first = c.with_first_final.ensures in
    record { ends = first.0; weighs = first.1; final_set = first_too _ _ _ c.if-low-eq0.true first.2 }
