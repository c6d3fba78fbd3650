-- The proof of the cycle of calls {rule_end}. The measure is what is left of the slice from `at` on. Assumes nothing.
use mathlib.Core.Path.{sym, ap, ◌∙◌}
use native.Mathlib.Omega.{arith}
use Rattle.std.proofs.lemmas.Result.{err_from_is_err_and}
use Rattle.definitions.specs.declared.kinds.Kind.TheVariants.{OfRule}
use Rattle.rules.specs.Reading.{rule}
use Rattle.rules.proofs.Scan.{ended, rule_ends}
use Rattle.rules.proofs.Steps.{r_unknown, r_wrong, r_letter, r_empty, r_again, r_two_bad, r_two, r_counted_bad, r_counted, r_occurs_bad, r_occurs}
use Rattle.rules.proofs.ends.+rule_end.Goals as goal

pub returns-then-rule-at : goal.returns-then-rule-at
returns-then-rule-at t c = ended _ _ rule c.if-rule-at.true

pub returns-in-Letter : goal.returns-in-Letter
returns-in-Letter t c = let s = c.args.rule.now in let at = c.args.at in r_letter s at (record { inside = omega arith; says = sym c.kind_of.ensures ∙ c.in-OfRule.is ∙ ap OfRule c.in-Letter.is }) c.formula_end.result c.formula_end.ensures

pub rule_end-requires : goal.rule_end-requires
rule_end-requires t c = (omega arith, tt)

pub returns-in-Again : goal.returns-in-Again
returns-in-Again t c = let s = c.args.rule.now in let at = c.args.at in r_again s at c.in-Again.field-0 (record { inside = omega arith; says = sym c.kind_of.ensures ∙ c.in-OfRule.is ∙ ap OfRule c.in-Again.is }) c.rule_end.result c.rule_end.ensures

pub rule_end-requires-in-Two : goal.rule_end-requires-in-Two
rule_end-requires-in-Two t c = (omega arith, tt)

pub returns-in-Unknown : goal.returns-in-Unknown
returns-in-Unknown t c = r_unknown _ _ (record { inside = omega arith; says = sym c.kind_of.ensures ∙ c.in-Unknown.is })

pub returns-in-OfFormula : goal.returns-in-OfFormula
returns-in-OfFormula t c = r_wrong _ _ c.in-OfFormula.field-0 (record { inside = omega arith; says = sym c.kind_of.ensures ∙ c.in-OfFormula.is })

pub returns-in-Empty : goal.returns-in-Empty
returns-in-Empty t c = r_empty _ _ (record { inside = omega arith; says = sym c.kind_of.ensures ∙ c.in-OfRule.is ∙ ap OfRule c.in-Empty.is })

pub returns-in_err-second-in-Two : goal.returns-in_err-second-in-Two
returns-in_err-second-in-Two t c =
    let p = err_from_is_err_and c.from_residual.result c.from_residual.ensures.1 in
    rw (p.1, p.2) (r_two_bad c.args.rule.now c.args.at c.in-Two.field-0 (record { inside = omega arith; says = sym c.kind_of.ensures ∙ c.in-OfRule.is ∙ ap OfRule c.in-Two.is }) _ c.in_err-second-in-Two.ensures)

pub returns-in_err-operand-in-Counted : goal.returns-in_err-operand-in-Counted
returns-in_err-operand-in-Counted t c =
    let p = err_from_is_err_and c.from_residual-in_err-operand-in-Counted.result c.from_residual-in_err-operand-in-Counted.ensures.1 in
    rw (p.1, p.2) (r_counted_bad c.args.rule.now c.args.at (record { inside = omega arith; says = sym c.kind_of.ensures ∙ c.in-OfRule.is ∙ ap OfRule c.in-Counted.is }) _ c.in_err-operand-in-Counted.ensures)

pub returns-in_err-operand-in-Occurs : goal.returns-in_err-operand-in-Occurs
returns-in_err-operand-in-Occurs t c =
    let p = err_from_is_err_and c.from_residual-in_err-operand-in-Occurs.result c.from_residual-in_err-operand-in-Occurs.ensures.1 in
    rw (p.1, p.2) (r_occurs_bad c.args.rule.now c.args.at (record { inside = omega arith; says = sym c.kind_of.ensures ∙ c.in-OfRule.is ∙ ap OfRule c.in-Occurs.is }) _ c.in_err-operand-in-Occurs.ensures)

pub rule_end-requires-in-Two-2 : goal.rule_end-requires-in-Two-2
rule_end-requires-in-Two-2 t c = let i = rule_ends c.args.rule.now c.in_ok-second-in-Two.ensures.1 in (omega arith, tt)

pub returns-in-Two : goal.returns-in-Two
returns-in-Two t c = r_two c.args.rule.now c.args.at c.in-Two.field-0 (record { inside = omega arith; says = sym c.kind_of.ensures ∙ c.in-OfRule.is ∙ ap OfRule c.in-Two.is }) c.in_ok-second-in-Two.second c.in_ok-second-in-Two.ensures c.rule_end-in-Two-2.result c.rule_end-in-Two-2.ensures

pub returns-in-Counted : goal.returns-in-Counted
returns-in-Counted t c = r_counted c.args.rule.now c.args.at (record { inside = omega arith; says = sym c.kind_of.ensures ∙ c.in-OfRule.is ∙ ap OfRule c.in-Counted.is }) c.in_ok-operand-in-Counted.operand c.in_ok-operand-in-Counted.ensures c.rule_end-in-Counted.result c.rule_end-in-Counted.ensures

pub returns-in-Occurs : goal.returns-in-Occurs
returns-in-Occurs t c = r_occurs c.args.rule.now c.args.at (record { inside = omega arith; says = sym c.kind_of.ensures ∙ c.in-OfRule.is ∙ ap OfRule c.in-Occurs.is }) c.in_ok-operand-in-Occurs.operand c.in_ok-operand-in-Occurs.ensures c.formula_end-in-Occurs.result c.formula_end-in-Occurs.ensures
