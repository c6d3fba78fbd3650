-- `models::links` meets its contract. Assumes nothing.
use mathlib.Core.Path.{sym, ◌∙◌}
use mathlib.Core.Bool.{true, false}
use Rattle.models.proofs.Passes.{linked_turn, linked_end}
use Rattle.models.proofs.records.links.Goals as goal

pub returns-then-strays : goal.returns-then-strays
returns-then-strays c = let a = c.args in
    linked_turn a.model.now a.n c.loop-k.k c.loop-k-test.true c.word_at.result c.strays.result c.word_at.ensures c.strays.ensures
    c.loop-k.invariant true c.if-strays.true

pub loop-k-preserved : goal.loop-k-preserved
loop-k-preserved c = let a = c.args in
    linked_turn a.model.now a.n c.loop-k.k c.loop-k-test.true c.word_at.result c.strays.result c.word_at.ensures c.strays.ensures
    c.loop-k.invariant false c.if-strays.false

pub returns : goal.returns
returns c = let a = c.args in
    sym (linked_end a.model.now a.n c.loop-k.k c.loop-k-test.false) ∙ c.loop-k.invariant
