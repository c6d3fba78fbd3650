-- `stands` says whether the character is there. Assumes nothing.
use native.Mathlib.Omega.{arith}
use Rattle.grammar.proofs.Standing.{outside, inside_says}
use Rattle.grammar.proofs.words.stands.Goals as goal

pub returns-then-text-at : goal.returns-then-text-at
returns-then-text-at c = outside _ _ _ (omega arith)

pub returns : goal.returns
returns c = inside_says _ _ _ (omega arith)
