-- `automata::finals::pair_final` meets its contract. Assumes nothing.
use mathlib.Core.Path.{sym, ◌∙◌}
use Rattle.automata.proofs.FinalSets.{pair_is, pair_not}
use Rattle.automata.proofs.finals.pair_final.Goals as goal

pub returns-then-has : goal.returns-then-has
returns-then-has c = c.has-then-has.ensures ∙ pair_is _ _ _ _ (sym c.has.ensures ∙ c.if-has.true)

pub returns-else-has : goal.returns-else-has
returns-else-has c = c.if-has.false ∙ pair_not _ _ _ _ (sym c.has.ensures ∙ c.if-has.false)
