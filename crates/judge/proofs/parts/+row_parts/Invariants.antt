-- The proof of `row_parts`, which calls itself. The measure is how many parts are allowed. Assumes nothing.
use Rattle.judge.proofs.parts.+row_parts.Given as goal

abbrev pub decreases-row_parts : goal.decreases-row_parts
decreases-row_parts l = l.c.high
