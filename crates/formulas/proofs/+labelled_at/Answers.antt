-- The proof of the cycle of calls {labelled_at}. The measure is what is left of the bytes from `at` on. Assumes nothing.
use Prim.Native.Nat.{◌+◌}
use mathlib.Core.Path.{◌≡◌, refl, sym, ap, ◌∙◌}
use native.Mathlib.Omega.{arith}
use lib.ListN.{get_or}
use Rattle.definitions.specs.declared.kinds.FormulaKind.TheVariants.{Proposition, Truth, Falsity, Not, Join}
use Rattle.definitions.specs.declared.kinds.Kind.TheVariants.{OfFormula}
use Rattle.definitions.specs.Kinds.{kind_of}
use Rattle.rules.proofs.Walks.{formula_here, is_formula, good_body, good_neg, good_left, good_right}
use Rattle.formulas.proofs.Labelling.{l_prop, l_yea, l_nay, l_neg, l_join}
use Rattle.formulas.proofs.+labelled_at.Goals as goal

pub bounds-rule-at : goal.bounds-rule-at
bounds-rule-at t c = let s = c.args.rule.now in
    let at = c.args.at in
    let g = c.requires.0 in
    formula_here s at g

pub returns-in_default : goal.returns-in_default
returns-in_default t c =
    let k = is_formula c.args.rule.now c.args.at c.requires.0 in
    absurd (c.in_default.not-OfFormula k.0 (c.kind_of.ensures ∙ k.1))

pub overflow_add-body : goal.overflow_add-body
overflow_add-body t c = let s = c.args.rule.now in
    let at = c.args.at in
    let g = c.requires.0 in
    let l = formula_here s at g in
    omega arith

pub bounds-rule-body : goal.bounds-rule-body
bounds-rule-body t c = let s = c.args.rule.now in
    let at = c.args.at in
    let g = c.requires.0 in
    let q : kind_of (get_or s at 0) ≡ OfFormula Proposition = sym c.kind_of.ensures ∙ c.in-OfFormula.is ∙ ap OfFormula c.in-Proposition.is in
    (good_body s at g q).0

pub overflow_cast-result : goal.overflow_cast-result
overflow_cast-result t c = omega (arith, c.type_inv.rule (c.args.at + 1))

pub offset_bounds-propositions-rule : goal.offset_bounds-propositions-rule
offset_bounds-propositions-rule t c = record { fits = omega (arith, c.type_inv.rule (c.args.at + 1)) }

pub bounds-propositions-rule : goal.bounds-propositions-rule
bounds-propositions-rule t c = let s = c.args.rule.now in
    let at = c.args.at in
    let g = c.requires.0 in
    let q : kind_of (get_or s at 0) ≡ OfFormula Proposition = sym c.kind_of.ensures ∙ c.in-OfFormula.is ∙ ap OfFormula c.in-Proposition.is in
    let i = (good_body s at g q).1 in
    let n = c.requires.1.inside in
    omega arith

pub overflow_add-result : goal.overflow_add-result
overflow_add-result t c = let s = c.args.rule.now in
    let at = c.args.at in
    let g = c.requires.0 in
    let q : kind_of (get_or s at 0) ≡ OfFormula Proposition = sym c.kind_of.ensures ∙ c.in-OfFormula.is ∙ ap OfFormula c.in-Proposition.is in
    let i = (good_body s at g q).0 in
    omega arith

pub overflow_add-result-in-Truth : goal.overflow_add-result-in-Truth
overflow_add-result-in-Truth t c = let s = c.args.rule.now in
    let at = c.args.at in
    let g = c.requires.0 in
    let l = formula_here s at g in
    omega arith

pub overflow_add-result-in-Falsity : goal.overflow_add-result-in-Falsity
overflow_add-result-in-Falsity t c = let s = c.args.rule.now in
    let at = c.args.at in
    let g = c.requires.0 in
    let l = formula_here s at g in
    omega arith

pub overflow_add-at : goal.overflow_add-at
overflow_add-at t c = let s = c.args.rule.now in
    let at = c.args.at in
    let g = c.requires.0 in
    let l = formula_here s at g in
    omega arith

pub past_nots-n-requires : goal.past_nots-n-requires
past_nots-n-requires t c = let s = c.args.rule.now in
    let at = c.args.at in
    let g = c.requires.0 in
    let q : kind_of (get_or s at 0) ≡ OfFormula Not = sym c.kind_of.ensures ∙ c.in-OfFormula.is ∙ ap OfFormula c.in-Not.is in
    good_neg s at g q

pub labelled_at-a-requires : goal.labelled_at-a-requires
labelled_at-a-requires t c = let s = c.args.rule.now in
    let at = c.args.at in
    let g = c.requires.0 in
    let l = formula_here s at g in
    let q : kind_of (get_or s at 0) ≡ OfFormula Not = sym c.kind_of.ensures ∙ c.in-OfFormula.is ∙ ap OfFormula c.in-Not.is in
    let h = good_neg s at g q in
    let n = c.past_nots-n.ensures in
    let m = n.1.under h.0 h.1 h.2 in
    let u = n.0 in
    (omega arith, ((m.0, h.1, m.1), c.requires.1))

pub overflow_add-at-in-Join : goal.overflow_add-at-in-Join
overflow_add-at-in-Join t c = let s = c.args.rule.now in
    let at = c.args.at in
    let g = c.requires.0 in
    let l = formula_here s at g in
    omega arith

pub labelled_at-a-requires-in-Join : goal.labelled_at-a-requires-in-Join
labelled_at-a-requires-in-Join t c = let s = c.args.rule.now in
    let at = c.args.at in
    let g = c.requires.0 in
    let l = formula_here s at g in
    let q : kind_of (get_or s at 0) ≡ OfFormula (Join c.in-Join.j) = sym c.kind_of.ensures ∙ c.in-OfFormula.is ∙ ap OfFormula c.in-Join.is in
    (omega arith, (good_left s at g _ q, c.requires.1))

pub labelled_at-b-requires : goal.labelled_at-b-requires
labelled_at-b-requires t c = let s = c.args.rule.now in
    let at = c.args.at in
    let g = c.requires.0 in
    let l = formula_here s at g in
    let q : kind_of (get_or s at 0) ≡ OfFormula (Join c.in-Join.j) = sym c.kind_of.ensures ∙ c.in-OfFormula.is ∙ ap OfFormula c.in-Join.is in
    let r = good_right s at g _ q c.labelled_at-a-in-Join.result.end (λ f e d. (c.labelled_at-a-in-Join.ensures f e d).1) in
    (omega arith, (r.0, c.requires.1))

pub returns-in-Proposition : goal.returns-in-Proposition
returns-in-Proposition t c = let s = c.args.rule.now in
    let at = c.args.at in
    let q : kind_of (get_or s at 0) ≡ OfFormula Proposition = sym c.kind_of.ensures ∙ c.in-OfFormula.is ∙ ap OfFormula c.in-Proposition.is in
    l_prop s at q c.args.propositions.now c.requires.1 _ refl

pub returns-in-Truth : goal.returns-in-Truth
returns-in-Truth t c = let s = c.args.rule.now in
    let at = c.args.at in
    let q : kind_of (get_or s at 0) ≡ OfFormula Truth = sym c.kind_of.ensures ∙ c.in-OfFormula.is ∙ ap OfFormula c.in-Truth.is in
    l_yea s at q

pub returns-in-Falsity : goal.returns-in-Falsity
returns-in-Falsity t c = let s = c.args.rule.now in
    let at = c.args.at in
    let q : kind_of (get_or s at 0) ≡ OfFormula Falsity = sym c.kind_of.ensures ∙ c.in-OfFormula.is ∙ ap OfFormula c.in-Falsity.is in
    l_nay s at q

pub returns-in-Not : goal.returns-in-Not
returns-in-Not t c = let s = c.args.rule.now in
    let at = c.args.at in
    let q : kind_of (get_or s at 0) ≡ OfFormula Not = sym c.kind_of.ensures ∙ c.in-OfFormula.is ∙ ap OfFormula c.in-Not.is in
    l_neg s at q c.past_nots-n.ensures.1 c.labelled_at-a.result c.labelled_at-a.ensures _ c.flip.ensures

pub returns-in-Join : goal.returns-in-Join
returns-in-Join t c = let s = c.args.rule.now in
    let at = c.args.at in
    let q : kind_of (get_or s at 0) ≡ OfFormula (Join c.in-Join.j) = sym c.kind_of.ensures ∙ c.in-OfFormula.is ∙ ap OfFormula c.in-Join.is in
    l_join s at _ q c.labelled_at-a-in-Join.result c.labelled_at-b.result c.labelled_at-a-in-Join.ensures c.labelled_at-b.ensures c.join_labels.result c.join_labels.ensures
