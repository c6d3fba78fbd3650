-- The cycle of `formula_in` and `join_in`: the measure is twice the characters left, and one more after "(". Assumes nothing.
use native.Mathlib.Omega.{arith}
use mathlib.Core.Path.{refl}
use Rattle.std.proofs.lemmas.Result.{err_from_is_err_and}
use Rattle.definitions.specs.Encoding.{spell_f}
use Rattle.grammar.specs.inner.Reading.{formula}
use Rattle.text_reader.specs.inner.Takings.{broke}
use Rattle.text_reader.proofs.Taking.{as_taken, as_broken, then_first, then_sign}
use Rattle.grammar.proofs.AfterOperand.{is_junction, not_junction}
use Rattle.text_reader.proofs.Operands.{join_first, join_none, join_on, formula_bounds}
use Rattle.text_reader.proofs.Arms.{arm_prop, arm_true, arm_false, arm_not, arm_open, no_formula}
use Rattle.text_reader.proofs.reader.+formula_in_join_in.Goals as goal

pub formula_in-returns-then-stands : goal.formula_in-returns-then-stands
formula_in-returns-then-stands t c = arm_prop _ _ _ _ _ _ (c.stands.ensures.yes_holds c.if-stands.true) c.digit_in.ensures

pub formula_in-returns-then-stands-2 : goal.formula_in-returns-then-stands-2
formula_in-returns-then-stands-2 t c = arm_true _ _ _ _ _ _ (c.stands-2.ensures.yes_holds c.if-stands-2.true) c.kind_in.ensures

pub formula_in-returns-then-stands-3 : goal.formula_in-returns-then-stands-3
formula_in-returns-then-stands-3 t c = arm_false _ _ _ _ _ _ (c.stands-3.ensures.yes_holds c.if-stands-3.true) c.kind_in-then-stands-3.ensures

pub formula_in-returns-then-stands-4 : goal.formula_in-returns-then-stands-4
formula_in-returns-then-stands-4 t c = let h = (c.stands-4.ensures.yes_holds c.if-stands-4.true) in
    let p = c.requires in
    arm_not _ _ _ _ _ _ h _ _ (omega arith) c.put_byte-past.ensures c.formula_in.ensures

pub formula_in-returns-then-stands-5 : goal.formula_in-returns-then-stands-5
formula_in-returns-then-stands-5 t c = arm_open _ _ _ _ _ _ (c.stands-5.ensures.yes_holds c.if-stands-5.true) c.join_in.ensures

pub formula_in-returns : goal.formula_in-returns
formula_in-returns t c = broke _ refl (no_formula _ _ (c.stands.ensures.no_fails c.if-stands.false) (c.stands-2.ensures.no_fails c.if-stands-2.false) (c.stands-3.ensures.no_fails c.if-stands-3.false) (c.stands-4.ensures.no_fails c.if-stands-4.false) (c.stands-5.ensures.no_fails c.if-stands-5.false))

pub join_in-returns-in_err-first : goal.join_in-returns-in_err-first
join_in-returns-in_err-first t c = let p = err_from_is_err_and c.from_residual.result c.from_residual.ensures.1 in
    rw (p.1, p.2) (broke _ refl (join_first c.args.text.now c.args.at _ (as_broken c.formula_in.ensures _ c.in_err-first.was)))

pub join_in-returns-in_default : goal.join_in-returns-in_default
join_in-returns-in_default t c = broke _ refl (join_none _ _ _ _ _ _ _ (as_taken c.formula_in.ensures _ c.in_ok-first.was) _ (not_junction c.junction_at.ensures c.in_default.is))

pub join_in-formula_in-requires-2 : goal.join_in-formula_in-requires-2
join_in-formula_in-requires-2 t c = let h = is_junction c.junction_at.ensures _ c.in-Some.is in
    let l = formula_bounds _ _ _ _ _ _ _ (as_taken c.formula_in.ensures _ c.in_ok-first.was) in
    let p = c.requires in
    let w = c.put_byte.ensures in
    (omega arith, omega arith)

pub join_in-returns-in_err-second : goal.join_in-returns-in_err-second
join_in-returns-in_err-second t c = let r = c.requires in
    let p = err_from_is_err_and c.from_residual-in_err-second.result c.from_residual-in_err-second.ensures.1 in
    rw (p.1, p.2) (join_on _ _ _ _ _ _ _ (as_taken c.formula_in.ensures _ c.in_ok-first.was) c.in-Some.kind (is_junction c.junction_at.ensures _ c.in-Some.is) _ _ (rw c.byte.ensures at c.put_byte.ensures) (omega arith) _ _ (then_first _ _ _ _ _ formula spell_f 41 _ (as_broken c.formula_in-2.ensures _ c.in_err-second.was)))

pub join_in-returns : goal.join_in-returns
join_in-returns t c = let r = c.requires in
    join_on _ _ _ _ _ _ _ (as_taken c.formula_in.ensures _ c.in_ok-first.was) c.in-Some.kind (is_junction c.junction_at.ensures _ c.in-Some.is) _ _ (rw c.byte.ensures at c.put_byte.ensures) (omega arith) _ _ (then_sign _ _ _ _ _ formula spell_f 41 _ _ (as_taken c.formula_in-2.ensures _ c.in_ok-second.was) c.closed.ensures)
