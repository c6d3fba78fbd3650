-- The proof of the cycle of calls {holds_at}. The measure is what is left of the bytes from `at` on. Assumes nothing.
use Prim.Native.Nat.{◌+◌}
use mathlib.Core.Path.{◌≡◌, sym, ap, ◌∙◌}
use native.Mathlib.Omega.{arith}
use lib.ListN.{get_or}
use Rattle.definitions.specs.declared.kinds.FormulaKind.TheVariants.{Proposition, Truth, Falsity, Not, Join}
use Rattle.definitions.specs.declared.kinds.Kind.TheVariants.{OfFormula}
use Rattle.definitions.specs.Kinds.{kind_of}
use Rattle.rules.proofs.Walks.{formula_here, is_formula, good_body, good_neg, good_left, good_right}
use Rattle.formulas.proofs.Evaluating.{h_prop, h_yea, h_nay, h_neg, h_join}
use Rattle.formulas.proofs.+holds_at.Goals as goal

pub bounds-rule-at : goal.bounds-rule-at
bounds-rule-at t c = let s = c.args.rule.now in let at = c.args.at in let g = c.requires in let l = formula_here s at g in l

pub returns-in_default : goal.returns-in_default
returns-in_default t c =
    let k = is_formula c.args.rule.now c.args.at c.requires in
    absurd (c.in_default.not-OfFormula k.0 (c.kind_of.ensures ∙ k.1))

pub overflow_add-at : goal.overflow_add-at
overflow_add-at t c = let s = c.args.rule.now in let at = c.args.at in let g = c.requires in let l = formula_here s at g in omega arith

pub bounds-rule-at-in-Proposition : goal.bounds-rule-at-in-Proposition
bounds-rule-at-in-Proposition t c = let s = c.args.rule.now in let at = c.args.at in let g = c.requires in let l = formula_here s at g in let q : kind_of (get_or s at 0) ≡ OfFormula Proposition = sym c.kind_of.ensures ∙ c.in-OfFormula.is ∙ ap OfFormula c.in-Proposition.is in (good_body s at g q).0

pub overflow_cast-rule : goal.overflow_cast-rule
overflow_cast-rule t c = omega (arith, c.type_inv.rule (c.args.at + 1))

pub has-requires : goal.has-requires
has-requires t c = let s = c.args.rule.now in let at = c.args.at in let g = c.requires in let l = formula_here s at g in let q : kind_of (get_or s at 0) ≡ OfFormula Proposition = sym c.kind_of.ensures ∙ c.in-OfFormula.is ∙ ap OfFormula c.in-Proposition.is in let b = (good_body s at g q).1 in omega arith

pub overflow_add-result : goal.overflow_add-result
overflow_add-result t c = let s = c.args.rule.now in let at = c.args.at in let g = c.requires in let l = formula_here s at g in let q : kind_of (get_or s at 0) ≡ OfFormula Proposition = sym c.kind_of.ensures ∙ c.in-OfFormula.is ∙ ap OfFormula c.in-Proposition.is in let b = (good_body s at g q).0 in omega arith

pub overflow_add-result-in-Truth : goal.overflow_add-result-in-Truth
overflow_add-result-in-Truth t c = let s = c.args.rule.now in let at = c.args.at in let g = c.requires in let l = formula_here s at g in omega arith

pub overflow_add-result-in-Falsity : goal.overflow_add-result-in-Falsity
overflow_add-result-in-Falsity t c = let s = c.args.rule.now in let at = c.args.at in let g = c.requires in let l = formula_here s at g in omega arith

pub overflow_add-at-in-Not : goal.overflow_add-at-in-Not
overflow_add-at-in-Not t c = let s = c.args.rule.now in let at = c.args.at in let g = c.requires in let l = formula_here s at g in omega arith

pub holds_at-a-requires : goal.holds_at-a-requires
holds_at-a-requires t c = let s = c.args.rule.now in let at = c.args.at in let g = c.requires in let l = formula_here s at g in let q : kind_of (get_or s at 0) ≡ OfFormula Not = sym c.kind_of.ensures ∙ c.in-OfFormula.is ∙ ap OfFormula c.in-Not.is in (omega arith, good_neg s at g q)

pub overflow_add-at-in-Join : goal.overflow_add-at-in-Join
overflow_add-at-in-Join t c = let s = c.args.rule.now in let at = c.args.at in let g = c.requires in let l = formula_here s at g in omega arith

pub holds_at-a-requires-in-Join : goal.holds_at-a-requires-in-Join
holds_at-a-requires-in-Join t c = let s = c.args.rule.now in let at = c.args.at in let g = c.requires in let l = formula_here s at g in let q : kind_of (get_or s at 0) ≡ OfFormula (Join c.in-Join.j) = sym c.kind_of.ensures ∙ c.in-OfFormula.is ∙ ap OfFormula c.in-Join.is in (omega arith, good_left s at g _ q)

pub holds_at-b-requires : goal.holds_at-b-requires
holds_at-b-requires t c = let s = c.args.rule.now in let at = c.args.at in let g = c.requires in let l = formula_here s at g in let q : kind_of (get_or s at 0) ≡ OfFormula (Join c.in-Join.j) = sym c.kind_of.ensures ∙ c.in-OfFormula.is ∙ ap OfFormula c.in-Join.is in let r = good_right s at g _ q c.holds_at-a-in-Join.result.end (λ f e d. (c.holds_at-a-in-Join.ensures f e d).1) in (omega arith, r.0)

pub returns-in-Proposition : goal.returns-in-Proposition
returns-in-Proposition t c = let s = c.args.rule.now in let at = c.args.at in let g = c.requires in let l = formula_here s at g in let q : kind_of (get_or s at 0) ≡ OfFormula Proposition = sym c.kind_of.ensures ∙ c.in-OfFormula.is ∙ ap OfFormula c.in-Proposition.is in h_prop s at c.args.letter q c.has.result c.has.ensures

pub returns-in-Truth : goal.returns-in-Truth
returns-in-Truth t c = let s = c.args.rule.now in let at = c.args.at in let g = c.requires in let l = formula_here s at g in let q : kind_of (get_or s at 0) ≡ OfFormula Truth = sym c.kind_of.ensures ∙ c.in-OfFormula.is ∙ ap OfFormula c.in-Truth.is in h_yea s at c.args.letter q

pub returns-in-Falsity : goal.returns-in-Falsity
returns-in-Falsity t c = let s = c.args.rule.now in let at = c.args.at in let g = c.requires in let l = formula_here s at g in let q : kind_of (get_or s at 0) ≡ OfFormula Falsity = sym c.kind_of.ensures ∙ c.in-OfFormula.is ∙ ap OfFormula c.in-Falsity.is in h_nay s at c.args.letter q

pub returns-in-Not : goal.returns-in-Not
returns-in-Not t c = let s = c.args.rule.now in let at = c.args.at in let g = c.requires in let l = formula_here s at g in let q : kind_of (get_or s at 0) ≡ OfFormula Not = sym c.kind_of.ensures ∙ c.in-OfFormula.is ∙ ap OfFormula c.in-Not.is in h_neg s at c.args.letter q c.holds_at-a.result c.holds_at-a.ensures

pub returns-in-Join : goal.returns-in-Join
returns-in-Join t c = let s = c.args.rule.now in let at = c.args.at in let g = c.requires in let l = formula_here s at g in let q : kind_of (get_or s at 0) ≡ OfFormula (Join c.in-Join.j) = sym c.kind_of.ensures ∙ c.in-OfFormula.is ∙ ap OfFormula c.in-Join.is in h_join s at c.args.letter _ q c.holds_at-a-in-Join.result c.holds_at-b.result c.holds_at-a-in-Join.ensures c.holds_at-b.ensures c.join.result c.join.ensures
