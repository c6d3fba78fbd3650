-- `models::count_states` meets its contract. Assumes nothing.
use mathlib.Core.Path.{sym, ◌∙◌}
use native.Mathlib.Omega.{arith}
use Rattle.std.proofs.lemmas.Result.{err_from_is_err_and}
use Rattle.models.proofs.Passes.{records_end, records_full, records_last, records_fault, records_on}
use Rattle.models.proofs.records.count_states.Goals as goal

pub returns-then-model-k : goal.returns-then-model-k
returns-then-model-k c = sym (records_end _ _ _ c.if-model-k.true) ∙ c.loop-k.invariant

pub returns-in_err-record_at : goal.returns-in_err-record_at
returns-in_err-record_at c = let p = err_from_is_err_and c.from_residual.result c.from_residual.ensures.1 in rw (p.1, p.2) (records_fault c.args.model.now c.loop-k.k c.loop-k-test.true c.if-model-k.false c.record_at.result c.record_at.ensures
    c.loop-k.invariant _ c.in_err-record_at.was)

pub loop-k-preserved : goal.loop-k-preserved
loop-k-preserved c = records_on c.args.model.now c.loop-k.k c.loop-k-test.true c.if-model-k.false c.record_at.result c.record_at.ensures
    c.loop-k.invariant _ c.in_ok-record_at.was

pub returns-then-model : goal.returns-then-model
returns-then-model c = let s = c.args.model.now in
    sym (records_end s 0 64 c.if-model.true) ∙ records_last s c.loop-k.k (omega arith) (omega arith) c.loop-k.invariant

pub returns-else-model : goal.returns-else-model
returns-else-model c = let s = c.args.model.now in
    sym (records_full s c.if-model.false) ∙ records_last s c.loop-k.k (omega arith) (omega arith) c.loop-k.invariant
