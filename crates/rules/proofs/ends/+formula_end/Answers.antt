-- The proof of the cycle of calls {formula_end}. The measure is what is left of the slice from `at` on. Assumes nothing.
use mathlib.Core.Path.{sym, ap, ◌∙◌}
use mathlib.Core.Logic.{⊎_elim}
use native.Mathlib.Omega.{arith}
use Rattle.std.proofs.lemmas.Result.{err_from_is_err_and}
use Rattle.definitions.specs.declared.kinds.Kind.TheVariants.{OfFormula}
use Rattle.rules.specs.Reading.{formula}
use Rattle.rules.proofs.Scan.{ended, formula_ends}
use Rattle.rules.proofs.Steps.{f_unknown, f_wrong, f_prop, f_yea, f_nay, f_neg, f_join_bad, f_join}
use Rattle.rules.proofs.ends.+formula_end.Goals as goal

pub returns-then-rule-at : goal.returns-then-rule-at
returns-then-rule-at t c = ended _ _ formula c.if-rule-at.true

pub returns-in-Proposition : goal.returns-in-Proposition
returns-in-Proposition t c = let s = c.args.rule.now in let at = c.args.at in f_prop s at (record { inside = omega arith; says = sym c.kind_of.ensures ∙ c.in-OfFormula.is ∙ ap OfFormula c.in-Proposition.is }) c.body_end.result c.body_end.ensures

pub formula_end-requires : goal.formula_end-requires
formula_end-requires t c = (omega arith, tt)

pub returns-in-Not : goal.returns-in-Not
returns-in-Not t c = let s = c.args.rule.now in let at = c.args.at in f_neg s at (record { inside = omega arith; says = sym c.kind_of.ensures ∙ c.in-OfFormula.is ∙ ap OfFormula c.in-Not.is }) c.formula_end.result c.formula_end.ensures

pub formula_end-requires-in-Join : goal.formula_end-requires-in-Join
formula_end-requires-in-Join t c = (omega arith, tt)

pub returns-in-Unknown : goal.returns-in-Unknown
returns-in-Unknown t c = f_unknown _ _ (record { inside = omega arith; says = sym c.kind_of.ensures ∙ c.in-Unknown.is })

pub returns-in-OfRule : goal.returns-in-OfRule
returns-in-OfRule t c = f_wrong _ _ c.in-OfRule.field-0 (record { inside = omega arith; says = sym c.kind_of.ensures ∙ c.in-OfRule.is })

pub returns-in-Truth : goal.returns-in-Truth
returns-in-Truth t c = ⊎_elim
    (λ e. f_yea _ _ (record { inside = omega arith; says = sym c.kind_of.ensures ∙ c.in-OfFormula.is ∙ ap OfFormula e }))
    (λ e. f_nay _ _ (record { inside = omega arith; says = sym c.kind_of.ensures ∙ c.in-OfFormula.is ∙ ap OfFormula e }))
    c.in-Truth.is

pub returns-in_err-second-in-Join : goal.returns-in_err-second-in-Join
returns-in_err-second-in-Join t c =
    let p = err_from_is_err_and c.from_residual.result c.from_residual.ensures.1 in
    rw (p.1, p.2) (f_join_bad c.args.rule.now c.args.at c.in-Join.field-0 (record { inside = omega arith; says = sym c.kind_of.ensures ∙ c.in-OfFormula.is ∙ ap OfFormula c.in-Join.is }) _ c.in_err-second-in-Join.ensures)

pub formula_end-requires-in-Join-2 : goal.formula_end-requires-in-Join-2
formula_end-requires-in-Join-2 t c = let i = formula_ends c.args.rule.now c.in_ok-second-in-Join.ensures.1 in (omega arith, tt)

pub returns-in-Join : goal.returns-in-Join
returns-in-Join t c = f_join c.args.rule.now c.args.at c.in-Join.field-0 (record { inside = omega arith; says = sym c.kind_of.ensures ∙ c.in-OfFormula.is ∙ ap OfFormula c.in-Join.is }) c.in_ok-second-in-Join.second c.in_ok-second-in-Join.ensures c.formula_end-in-Join-2.result c.formula_end-in-Join-2.ensures
