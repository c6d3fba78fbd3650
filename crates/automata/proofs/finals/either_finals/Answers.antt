-- `automata::finals::either_finals` meets its contract. Assumes nothing.
use mathlib.Core.Path.{sym, ◌∙◌}
use native.Mathlib.Omega.{arith}
use mathlib.Core.Logic.{inl, inr}
use Rattle.automata.proofs.Ends.{either_finals_on, either_finals_off}
use Rattle.automata.proofs.FinalSets.{raise_finals}
use Rattle.automata.proofs.finals.either_finals.Goals as goal
use Rattle.automata.proofs.finals.either_finals.Goals.{then-has-via-then-has, then-has-via-else-has+then-has-2}

pub returns-then-has : goal.returns-then-has
returns-then-has c = λ x y em u v.
    rw c.with.ensures
    (either_finals_on 0 _ _ _ x y (omega arith) c.requires (raise_finals c.raise-first.ensures u) (raise_finals c.raise-second.ensures v)
    (elim c.then-has.branch [
      | then-has-via-then-has w ↦ inl (sym c.has.ensures ∙ w.if-has.true)
      | then-has-via-else-has+then-has-2 w ↦ inr (sym w.has-else-has.ensures ∙ w.if-has-2.true)
    ]))

pub returns : goal.returns
returns c = λ x y em u v.
    either_finals_off 0 _ _ _ x y (omega arith) c.requires (raise_finals c.raise-first.ensures u) (raise_finals c.raise-second.ensures v)
    (sym c.has.ensures ∙ c.if-has.false) (sym c.has-else-has.ensures ∙ c.if-has-2.false)
