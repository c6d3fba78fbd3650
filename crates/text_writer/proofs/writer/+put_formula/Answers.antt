-- The cycle of `put_formula`: the measure is what is left of the bytes from `at` on. Assumes nothing.
use Prim.Native.Nat.{◌+◌}
use mathlib.Core.Path.{◌≡◌, sym, ap, ◌∙◌}
use native.Mathlib.Omega.{arith}
use lib.ListN.{get_or}
use Rattle.definitions.specs.declared.kinds.FormulaKind.TheVariants.{Proposition, Truth, Falsity, Not, Join}
use Rattle.definitions.specs.declared.kinds.Kind.TheVariants.{OfFormula}
use Rattle.definitions.specs.Kinds.{kind_of}
use Rattle.rules.proofs.Walks.{formula_here, is_formula, good_body, good_neg, good_left, good_right}
use Rattle.text_writer.proofs.Putting.{formula_wrote, p_prop, p_yea, p_nay, p_neg, p_join}
use Rattle.text_writer.proofs.writer.+put_formula.Goals as goal

pub bounds-rule-at : goal.bounds-rule-at
bounds-rule-at t c = let s = c.args.rule.now in
    let at = c.args.at in
    let g = c.requires.0 in
    let l = formula_here s at g in
    let p = c.requires.1 in
    l

pub returns-in_default : goal.returns-in_default
returns-in_default t c = let k = is_formula c.args.rule.now c.args.at c.requires.0 in absurd (c.in_default.not-OfFormula k.0 (c.kind_of.ensures ∙ k.1))

pub overflow_add-at : goal.overflow_add-at
overflow_add-at t c = let s = c.args.rule.now in
    let at = c.args.at in
    let g = c.requires.0 in
    let l = formula_here s at g in
    let p = c.requires.1 in
    omega arith

pub bounds-rule-at-in-Proposition : goal.bounds-rule-at-in-Proposition
bounds-rule-at-in-Proposition t c = let s = c.args.rule.now in
    let at = c.args.at in
    let g = c.requires.0 in
    let l = formula_here s at g in
    let p = c.requires.1 in
    let q : kind_of (get_or s at 0) ≡ OfFormula Proposition = sym c.kind_of.ensures ∙ c.in-OfFormula.is ∙ ap OfFormula c.in-Proposition.is in
    (good_body s at g q).0

pub put_proposition-past-requires : goal.put_proposition-past-requires
put_proposition-past-requires t c = let s = c.args.rule.now in
    let at = c.args.at in
    let g = c.requires.0 in
    let l = formula_here s at g in
    let p = c.requires.1 in
    let q : kind_of (get_or s at 0) ≡ OfFormula Proposition = sym c.kind_of.ensures ∙ c.in-OfFormula.is ∙ ap OfFormula c.in-Proposition.is in
    let b = good_body s at g q in
    (b.1, omega arith)

pub put_word-past-requires : goal.put_word-past-requires
put_word-past-requires t c = let s = c.args.rule.now in
    let at = c.args.at in
    let g = c.requires.0 in
    let l = formula_here s at g in
    let p = c.requires.1 in
    omega arith

pub put_word-past-requires-in-Falsity : goal.put_word-past-requires-in-Falsity
put_word-past-requires-in-Falsity t c = let s = c.args.rule.now in
    let at = c.args.at in
    let g = c.requires.0 in
    let l = formula_here s at g in
    let p = c.requires.1 in
    omega arith

pub overflow_add-result-in-Falsity : goal.overflow_add-result-in-Falsity
overflow_add-result-in-Falsity t c = let s = c.args.rule.now in
    let at = c.args.at in
    let g = c.requires.0 in
    let l = formula_here s at g in
    let p = c.requires.1 in
    omega arith

pub put_byte-past-requires : goal.put_byte-past-requires
put_byte-past-requires t c = let s = c.args.rule.now in
    let at = c.args.at in
    let g = c.requires.0 in
    let l = formula_here s at g in
    let p = c.requires.1 in
    omega arith

pub overflow_add-at-in-Not : goal.overflow_add-at-in-Not
overflow_add-at-in-Not t c = let s = c.args.rule.now in
    let at = c.args.at in
    let g = c.requires.0 in
    let l = formula_here s at g in
    let p = c.requires.1 in
    omega arith

pub put_formula-requires : goal.put_formula-requires
put_formula-requires t c = let s = c.args.rule.now in
    let at = c.args.at in
    let g = c.requires.0 in
    let l = formula_here s at g in
    let p = c.requires.1 in
    let q : kind_of (get_or s at 0) ≡ OfFormula Not = sym c.kind_of.ensures ∙ c.in-OfFormula.is ∙ ap OfFormula c.in-Not.is in
    let w = c.put_byte-past.ensures in
    (omega arith, (good_neg s at g q, omega arith))

pub put_byte-open-requires : goal.put_byte-open-requires
put_byte-open-requires t c = let s = c.args.rule.now in
    let at = c.args.at in
    let g = c.requires.0 in
    let l = formula_here s at g in
    let p = c.requires.1 in
    omega arith

pub overflow_add-at-in-Join : goal.overflow_add-at-in-Join
overflow_add-at-in-Join t c = let s = c.args.rule.now in
    let at = c.args.at in
    let g = c.requires.0 in
    let l = formula_here s at g in
    let p = c.requires.1 in
    omega arith

pub put_formula-a-requires : goal.put_formula-a-requires
put_formula-a-requires t c = let s = c.args.rule.now in
    let at = c.args.at in
    let g = c.requires.0 in
    let l = formula_here s at g in
    let p = c.requires.1 in
    let j = c.in-Join.j in
    let q : kind_of (get_or s at 0) ≡ OfFormula (Join j) = sym c.kind_of.ensures ∙ c.in-OfFormula.is ∙ ap OfFormula c.in-Join.is in
    let w = c.put_byte-open.ensures in
    (omega arith, (good_left s at g j q, omega arith))

pub put_junction-sign-requires : goal.put_junction-sign-requires
put_junction-sign-requires t c = let s = c.args.rule.now in
    let at = c.args.at in
    let g = c.requires.0 in
    let l = formula_here s at g in
    let p = c.requires.1 in
    let j = c.in-Join.j in
    let q : kind_of (get_or s at 0) ≡ OfFormula (Join j) = sym c.kind_of.ensures ∙ c.in-OfFormula.is ∙ ap OfFormula c.in-Join.is in
    let w = c.put_byte-open.ensures in
    let o = c.put_formula-a.ensures in
    let i = formula_wrote s (at + 1) _ _ _ _ (good_left s at g j q) o in
    let r = good_right s at g j q c.put_formula-a.result.end (λ f e d. (o.formula_done f e d).0) in
    let n = formula_here s _ r.0 in
    omega arith

pub put_formula-b-requires : goal.put_formula-b-requires
put_formula-b-requires t c = let s = c.args.rule.now in
    let at = c.args.at in
    let g = c.requires.0 in
    let l = formula_here s at g in
    let p = c.requires.1 in
    let j = c.in-Join.j in
    let q : kind_of (get_or s at 0) ≡ OfFormula (Join j) = sym c.kind_of.ensures ∙ c.in-OfFormula.is ∙ ap OfFormula c.in-Join.is in
    let w = c.put_byte-open.ensures in
    let o = c.put_formula-a.ensures in
    let i = formula_wrote s (at + 1) _ _ _ _ (good_left s at g j q) o in
    let r = good_right s at g j q c.put_formula-a.result.end (λ f e d. (o.formula_done f e d).0) in
    let n = formula_here s _ r.0 in
    let v = c.put_junction-sign.ensures in
    (omega arith, (r.0, omega arith))

pub put_byte-past-requires-in-Join : goal.put_byte-past-requires-in-Join
put_byte-past-requires-in-Join t c = let s = c.args.rule.now in
    let at = c.args.at in
    let g = c.requires.0 in
    let l = formula_here s at g in
    let p = c.requires.1 in
    let j = c.in-Join.j in
    let q : kind_of (get_or s at 0) ≡ OfFormula (Join j) = sym c.kind_of.ensures ∙ c.in-OfFormula.is ∙ ap OfFormula c.in-Join.is in
    let w = c.put_byte-open.ensures in
    let o = c.put_formula-a.ensures in
    let i = formula_wrote s (at + 1) _ _ _ _ (good_left s at g j q) o in
    let r = good_right s at g j q c.put_formula-a.result.end (λ f e d. (o.formula_done f e d).0) in
    let n = formula_here s _ r.0 in
    let v = c.put_junction-sign.ensures in
    let i' = formula_wrote s _ _ _ _ _ r.0 c.put_formula-b.ensures in
    omega arith

pub returns-in-Proposition : goal.returns-in-Proposition
returns-in-Proposition t c = let s = c.args.rule.now in
    let at = c.args.at in
    let g = c.requires.0 in
    let l = formula_here s at g in
    let p = c.requires.1 in
    let q : kind_of (get_or s at 0) ≡ OfFormula Proposition = sym c.kind_of.ensures ∙ c.in-OfFormula.is ∙ ap OfFormula c.in-Proposition.is in
    p_prop s at _ _ q _ _ c.put_proposition-past.ensures

pub returns-in-Truth : goal.returns-in-Truth
returns-in-Truth t c = let s = c.args.rule.now in
    let at = c.args.at in
    let g = c.requires.0 in
    let l = formula_here s at g in
    let p = c.requires.1 in
    let q : kind_of (get_or s at 0) ≡ OfFormula Truth = sym c.kind_of.ensures ∙ c.in-OfFormula.is ∙ ap OfFormula c.in-Truth.is in
    p_yea s at _ _ q _ _ c.put_word-past.ensures

pub returns-in-Falsity : goal.returns-in-Falsity
returns-in-Falsity t c = let s = c.args.rule.now in
    let at = c.args.at in
    let g = c.requires.0 in
    let l = formula_here s at g in
    let p = c.requires.1 in
    let q : kind_of (get_or s at 0) ≡ OfFormula Falsity = sym c.kind_of.ensures ∙ c.in-OfFormula.is ∙ ap OfFormula c.in-Falsity.is in
    p_nay s at _ _ q _ _ c.put_word-past-in-Falsity.ensures

pub returns-in-Not : goal.returns-in-Not
returns-in-Not t c = let s = c.args.rule.now in
    let at = c.args.at in
    let g = c.requires.0 in
    let l = formula_here s at g in
    let p = c.requires.1 in
    let q : kind_of (get_or s at 0) ≡ OfFormula Not = sym c.kind_of.ensures ∙ c.in-OfFormula.is ∙ ap OfFormula c.in-Not.is in
    p_neg s at _ _ q _ _ (omega arith) c.put_byte-past.ensures _ _ c.put_formula.ensures

pub returns-in-Join : goal.returns-in-Join
returns-in-Join t c = let s = c.args.rule.now in
    let at = c.args.at in
    let g = c.requires.0 in
    let l = formula_here s at g in
    let p = c.requires.1 in
    let j = c.in-Join.j in
    let q : kind_of (get_or s at 0) ≡ OfFormula (Join j) = sym c.kind_of.ensures ∙ c.in-OfFormula.is ∙ ap OfFormula c.in-Join.is in
    let w = c.put_byte-open.ensures in
    let o = c.put_formula-a.ensures in
    let i = formula_wrote s (at + 1) _ _ _ _ (good_left s at g j q) o in
    let r = good_right s at g j q c.put_formula-a.result.end (λ f e d. (o.formula_done f e d).0) in
    let n = formula_here s _ r.0 in
    let v = c.put_junction-sign.ensures in
    let i' = formula_wrote s _ _ _ _ _ r.0 c.put_formula-b.ensures in
    p_join s at _ _ j q _ _ w _ _ o _ _ v _ _ c.put_formula-b.ensures _ _ c.put_byte-past-in-Join.ensures (omega arith)
