-- `automata::finals::then_finals` meets its contract. Assumes nothing.
use mathlib.Core.Path.{sym, ◌∙◌}
use native.Mathlib.Omega.{arith}
use Rattle.automata.proofs.Ends.{then_finals_on, then_finals_off}
use Rattle.automata.proofs.FinalSets.{raise_finals}
use Rattle.automata.proofs.finals.then_finals.Goals as goal

pub returns-then-has : goal.returns-then-has
returns-then-has c = λ x y em u v.
    then_finals_on 0 _ _ _ x y (omega arith) c.requires u (raise_finals c.raise-moved.ensures v) (sym c.has.ensures ∙ c.if-has.true)

pub returns : goal.returns
returns c = λ x y em u v.
    then_finals_off 0 _ c.args.a _ x y (omega arith) c.requires u (raise_finals c.raise-moved.ensures v) (sym c.has.ensures ∙ c.if-has.false)
