-- The cycle of `rule_in` and `brace_in`: the measure is twice the characters left, and one more after "{". Assumes nothing.
use native.Mathlib.Omega.{arith}
use mathlib.Core.Path.{refl, ap}
use Rattle.std.specs.Prelude.{Ok}
use Rattle.std.proofs.lemmas.Result.{err_from_is_err_and}
use Rattle.grammar.specs.inner.Reading.{rule}
use Rattle.grammar.specs.inner.Wide.{wide}
use Rattle.text_reader.specs.inner.Takings.{broke}
use Rattle.grammar.proofs.Lengths.{sign_length}
use Rattle.text_reader.proofs.Taking.{as_taken, as_broken, then_first, then_sign}
use Rattle.grammar.proofs.AfterOperand.{as_operator, as_repetition, as_no_sign}
use Rattle.text_reader.proofs.Operands.{brace_first, brace_broken, brace_repeat, brace_pair, rule_bounds}
use Rattle.text_reader.proofs.Arms.{arm_empty, arm_brace, arm_letter, no_rule}
use Rattle.text_reader.proofs.reader.+brace_in_rule_in.Goals as goal

pub brace_in-returns-in_err-first : goal.brace_in-returns-in_err-first
brace_in-returns-in_err-first t c = let p = err_from_is_err_and c.from_residual.result c.from_residual.ensures.1 in
    rw (p.1, p.2) (broke _ refl (brace_first c.args.text.now c.args.at _ (as_broken c.rule_in.ensures _ c.in_err-first.was)))

pub brace_in-returns-in_err-sign : goal.brace_in-returns-in_err-sign
brace_in-returns-in_err-sign t c = let p = err_from_is_err_and c.from_residual-in_err-sign.result c.from_residual-in_err-sign.ensures.1 in
    rw (p.1, p.2) (brace_broken _ _ _ _ _ _ _ (as_taken c.rule_in.ensures _ c.in_ok-first.was) _ (as_no_sign c.sign_at.ensures _ c.in_err-sign.was))

pub brace_in-returns-in-Repetition : goal.brace_in-returns-in-Repetition
brace_in-returns-in-Repetition t c = let p = c.requires in
    let z = as_repetition c.in_ok-sign.ensures _ (ap Ok c.in-Repetition.is) in
    brace_repeat _ _ _ _ _ _ _ (as_taken c.rule_in.ensures _ c.in_ok-first.was) (omega arith) _ _ _ c.put_head.ensures z.0 z.1

pub brace_in-rule_in-requires-in-Operator : goal.brace_in-rule_in-requires-in-Operator
brace_in-rule_in-requires-in-Operator t c = let x = (as_taken c.rule_in.ensures _ c.in_ok-first.was) in
    let l = rule_bounds _ _ _ _ _ _ _ x in
    let o = (as_operator c.in_ok-sign.ensures _ _ (ap Ok c.in-Operator.is)).part in
    let u = sign_length c.in-Operator.pair in
    let w = c.put_head-in-Operator.ensures in
    let v = x.wrote in
    let p = c.requires in
    (omega arith, omega arith)

pub brace_in-returns-in_err-second-in-Operator : goal.brace_in-returns-in_err-second-in-Operator
brace_in-returns-in_err-second-in-Operator t c = let r = c.requires in
    let p = err_from_is_err_and c.from_residual-in_err-second-in-Operator.result c.from_residual-in_err-second-in-Operator.ensures.1 in
    rw (p.1, p.2) (brace_pair _ _ _ _ _ _ _ (as_taken c.rule_in.ensures _ c.in_ok-first.was) (omega arith) _ _ _ (as_operator c.in_ok-sign.ensures _ _ (ap Ok c.in-Operator.is)) _ _ c.put_head-in-Operator.ensures _ (then_first _ _ _ _ _ rule wide 125 _ (as_broken c.rule_in-in-Operator.ensures _ c.in_err-second-in-Operator.was)))

pub brace_in-returns-in_ok-second-in-Operator : goal.brace_in-returns-in_ok-second-in-Operator
brace_in-returns-in_ok-second-in-Operator t c = let r = c.requires in
    brace_pair _ _ _ _ _ _ _ (as_taken c.rule_in.ensures _ c.in_ok-first.was) (omega arith) _ _ _ (as_operator c.in_ok-sign.ensures _ _ (ap Ok c.in-Operator.is)) _ _ c.put_head-in-Operator.ensures _ (then_sign _ _ _ _ _ rule wide 125 _ _ (as_taken c.rule_in-in-Operator.ensures _ c.in_ok-second-in-Operator.was) c.closed.ensures)

pub rule_in-returns-then-text-at : goal.rule_in-returns-then-text-at
rule_in-returns-then-text-at t c = let s = c.args in broke _ refl (no_rule s.text.now s.at (omega arith))

pub rule_in-returns-then-stands : goal.rule_in-returns-then-stands
rule_in-returns-then-stands t c = arm_empty _ _ _ _ _ _ (c.stands.ensures.yes_holds c.if-stands.true) c.kind_in.ensures

pub rule_in-returns-then-stands-2 : goal.rule_in-returns-then-stands-2
rule_in-returns-then-stands-2 t c = arm_brace _ _ _ _ _ _ (c.stands-2.ensures.yes_holds c.if-stands-2.true) c.brace_in.ensures

pub rule_in-returns : goal.rule_in-returns
rule_in-returns t c = arm_letter _ _ (omega arith) (c.stands.ensures.no_fails c.if-stands.false) (c.stands-2.ensures.no_fails c.if-stands-2.false) _ _ _ _ c.letter_in.ensures
