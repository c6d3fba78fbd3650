-- The proof of `row`, which calls itself. The measure is how many parts are allowed. Assumes nothing.
use Rattle.blocks.proofs.row.+row.Given as goal

abbrev pub decreases-row : goal.decreases-row
decreases-row l = l.c.high
