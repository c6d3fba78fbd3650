-- `parts::pair_parts` meets its contract: its test tells what its line says. Assumes nothing.
use borrow.Author.Rules.{rules}
use Rattle.judge.proofs.Rows.{filled_by}
use Rattle.judge.proofs.parts.pair_parts.Goals as goal

pub returns : goal.returns
returns c = filled_by c.parts.ensures (λ i e b li le s. search rules)
