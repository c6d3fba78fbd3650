-- The proof of `row_shape`, which calls itself. The measure is how many parts are allowed. Assumes nothing.
use Rattle.automata.proofs.shape.+row_shape.Given as goal

abbrev pub decreases-row_shape : goal.decreases-row_shape
decreases-row_shape l = l.c.high
