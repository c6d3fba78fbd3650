-- The cycle of `put_rule`: the measure is what is left of the bytes from `at` on. Assumes nothing.
use Prim.Native.Nat.{◌+◌}
use mathlib.Core.Path.{◌≡◌, sym, ap, ◌∙◌}
use native.Mathlib.Omega.{arith}
use lib.ListN.{get_or}
use Rattle.definitions.specs.declared.kinds.RuleKind.TheVariants.{Letter, Empty, Two, Again, Counted, Occurs}
use Rattle.definitions.specs.declared.kinds.Kind.TheVariants.{OfRule}
use Rattle.definitions.specs.Kinds.{kind_of}
use Rattle.rules.proofs.Walks.{rule_here, is_rule, good_letter, good_again, good_counted, has_counts, good_occurs, occurs_counts, good_first, good_second}
use Rattle.grammar.proofs.Lengths.{sign_length}
use Rattle.text_writer.proofs.Putting.{formula_wrote, rule_wrote, p_letter, p_empty, p_two, p_again, p_counted, p_occurs, counts_fit}
use Rattle.text_writer.proofs.writer.+put_rule.Goals as goal

pub bounds-rule-at : goal.bounds-rule-at
bounds-rule-at t c = let s = c.args.rule.now in
    let at = c.args.at in
    let g = c.requires.0 in
    let l = rule_here s at g in
    let p = c.requires.1 in
    l

pub returns-in_default : goal.returns-in_default
returns-in_default t c = let k = is_rule c.args.rule.now c.args.at c.requires.0 in absurd (c.in_default.not-OfRule k.0 (c.kind_of.ensures ∙ k.1))

pub overflow_add-at : goal.overflow_add-at
overflow_add-at t c = let s = c.args.rule.now in
    let at = c.args.at in
    let g = c.requires.0 in
    let l = rule_here s at g in
    let p = c.requires.1 in
    omega arith

pub put_formula-requires : goal.put_formula-requires
put_formula-requires t c = let s = c.args.rule.now in
    let at = c.args.at in
    let g = c.requires.0 in
    let l = rule_here s at g in
    let p = c.requires.1 in
    let q : kind_of (get_or s at 0) ≡ OfRule Letter = sym c.kind_of.ensures ∙ c.in-OfRule.is ∙ ap OfRule c.in-Letter.is in
    (good_letter s at g q, omega arith)

pub put_word-past-requires : goal.put_word-past-requires
put_word-past-requires t c = let s = c.args.rule.now in
    let at = c.args.at in
    let g = c.requires.0 in
    let l = rule_here s at g in
    let p = c.requires.1 in
    omega arith

pub put_byte-open-requires : goal.put_byte-open-requires
put_byte-open-requires t c = let s = c.args.rule.now in
    let at = c.args.at in
    let g = c.requires.0 in
    let l = rule_here s at g in
    let p = c.requires.1 in
    omega arith

pub overflow_add-at-in-Two : goal.overflow_add-at-in-Two
overflow_add-at-in-Two t c = let s = c.args.rule.now in
    let at = c.args.at in
    let g = c.requires.0 in
    let l = rule_here s at g in
    let p = c.requires.1 in
    omega arith

pub put_rule-a-requires : goal.put_rule-a-requires
put_rule-a-requires t c = let s = c.args.rule.now in
    let at = c.args.at in
    let g = c.requires.0 in
    let l = rule_here s at g in
    let p = c.requires.1 in
    let o = c.in-Two.p in
    let q : kind_of (get_or s at 0) ≡ OfRule (Two o) = sym c.kind_of.ensures ∙ c.in-OfRule.is ∙ ap OfRule c.in-Two.is in
    let w = c.put_byte-open.ensures in
    (omega arith, (good_first s at g o q, omega arith))

pub put_pair-sign-requires : goal.put_pair-sign-requires
put_pair-sign-requires t c = let s = c.args.rule.now in
    let at = c.args.at in
    let g = c.requires.0 in
    let l = rule_here s at g in
    let p = c.requires.1 in
    let o = c.in-Two.p in
    let q : kind_of (get_or s at 0) ≡ OfRule (Two o) = sym c.kind_of.ensures ∙ c.in-OfRule.is ∙ ap OfRule c.in-Two.is in
    let w = c.put_byte-open.ensures in
    let x = c.put_rule-a.ensures in
    let i = rule_wrote s (at + 1) _ _ _ _ (good_first s at g o q) x in
    let r = good_second s at g o q c.put_rule-a.result.end (λ a e d. (x.rule_done a e d).0) in
    let n = rule_here s _ r.0 in
    let m = sign_length o in
    omega arith

pub put_rule-b-requires : goal.put_rule-b-requires
put_rule-b-requires t c = let s = c.args.rule.now in
    let at = c.args.at in
    let g = c.requires.0 in
    let l = rule_here s at g in
    let p = c.requires.1 in
    let o = c.in-Two.p in
    let q : kind_of (get_or s at 0) ≡ OfRule (Two o) = sym c.kind_of.ensures ∙ c.in-OfRule.is ∙ ap OfRule c.in-Two.is in
    let w = c.put_byte-open.ensures in
    let x = c.put_rule-a.ensures in
    let i = rule_wrote s (at + 1) _ _ _ _ (good_first s at g o q) x in
    let r = good_second s at g o q c.put_rule-a.result.end (λ a e d. (x.rule_done a e d).0) in
    let n = rule_here s _ r.0 in
    let m = sign_length o in
    let v = c.put_pair-sign.ensures in
    (omega arith, (r.0, omega arith))

pub put_byte-past-requires : goal.put_byte-past-requires
put_byte-past-requires t c = let s = c.args.rule.now in
    let at = c.args.at in
    let g = c.requires.0 in
    let l = rule_here s at g in
    let p = c.requires.1 in
    let o = c.in-Two.p in
    let q : kind_of (get_or s at 0) ≡ OfRule (Two o) = sym c.kind_of.ensures ∙ c.in-OfRule.is ∙ ap OfRule c.in-Two.is in
    let w = c.put_byte-open.ensures in
    let x = c.put_rule-a.ensures in
    let i = rule_wrote s (at + 1) _ _ _ _ (good_first s at g o q) x in
    let r = good_second s at g o q c.put_rule-a.result.end (λ a e d. (x.rule_done a e d).0) in
    let n = rule_here s _ r.0 in
    let m = sign_length o in
    let v = c.put_pair-sign.ensures in
    let i' = rule_wrote s _ _ _ _ _ r.0 c.put_rule-b.ensures in
    omega arith

pub put_byte-open-requires-in-Again : goal.put_byte-open-requires-in-Again
put_byte-open-requires-in-Again t c = let s = c.args.rule.now in
    let at = c.args.at in
    let g = c.requires.0 in
    let l = rule_here s at g in
    let p = c.requires.1 in
    omega arith

pub overflow_add-at-in-Again : goal.overflow_add-at-in-Again
overflow_add-at-in-Again t c = let s = c.args.rule.now in
    let at = c.args.at in
    let g = c.requires.0 in
    let l = rule_here s at g in
    let p = c.requires.1 in
    omega arith

pub put_rule-a-requires-in-Again : goal.put_rule-a-requires-in-Again
put_rule-a-requires-in-Again t c = let s = c.args.rule.now in
    let at = c.args.at in
    let g = c.requires.0 in
    let l = rule_here s at g in
    let p = c.requires.1 in
    let o = c.in-Again.p in
    let q : kind_of (get_or s at 0) ≡ OfRule (Again o) = sym c.kind_of.ensures ∙ c.in-OfRule.is ∙ ap OfRule c.in-Again.is in
    let w = c.put_byte-open-in-Again.ensures in
    (omega arith, (good_again s at g o q, omega arith))

pub put_repeat-past-requires : goal.put_repeat-past-requires
put_repeat-past-requires t c = let s = c.args.rule.now in
    let at = c.args.at in
    let g = c.requires.0 in
    let l = rule_here s at g in
    let p = c.requires.1 in
    let o = c.in-Again.p in
    let q : kind_of (get_or s at 0) ≡ OfRule (Again o) = sym c.kind_of.ensures ∙ c.in-OfRule.is ∙ ap OfRule c.in-Again.is in
    let w = c.put_byte-open-in-Again.ensures in
    let x = c.put_rule-a-in-Again.ensures in
    let i = rule_wrote s (at + 1) _ _ _ _ (good_again s at g o q) x in
    omega arith

pub returns-in-Letter : goal.returns-in-Letter
returns-in-Letter t c = let s = c.args.rule.now in
    let at = c.args.at in
    let g = c.requires.0 in
    let l = rule_here s at g in
    let p = c.requires.1 in
    let q : kind_of (get_or s at 0) ≡ OfRule Letter = sym c.kind_of.ensures ∙ c.in-OfRule.is ∙ ap OfRule c.in-Letter.is in
    p_letter s at _ _ q _ _ c.put_formula.ensures

pub returns-in-Empty : goal.returns-in-Empty
returns-in-Empty t c = let s = c.args.rule.now in
    let at = c.args.at in
    let g = c.requires.0 in
    let l = rule_here s at g in
    let p = c.requires.1 in
    let q : kind_of (get_or s at 0) ≡ OfRule Empty = sym c.kind_of.ensures ∙ c.in-OfRule.is ∙ ap OfRule c.in-Empty.is in
    p_empty s at _ _ q _ _ c.put_word-past.ensures

pub returns-in-Two : goal.returns-in-Two
returns-in-Two t c = let s = c.args.rule.now in
    let at = c.args.at in
    let g = c.requires.0 in
    let l = rule_here s at g in
    let p = c.requires.1 in
    let o = c.in-Two.p in
    let q : kind_of (get_or s at 0) ≡ OfRule (Two o) = sym c.kind_of.ensures ∙ c.in-OfRule.is ∙ ap OfRule c.in-Two.is in
    let w = c.put_byte-open.ensures in
    let x = c.put_rule-a.ensures in
    let i = rule_wrote s (at + 1) _ _ _ _ (good_first s at g o q) x in
    let r = good_second s at g o q c.put_rule-a.result.end (λ a e d. (x.rule_done a e d).0) in
    let n = rule_here s _ r.0 in
    let m = sign_length o in
    let v = c.put_pair-sign.ensures in
    let i' = rule_wrote s _ _ _ _ _ r.0 c.put_rule-b.ensures in
    p_two s at _ _ o q _ _ w _ _ x _ _ v _ _ c.put_rule-b.ensures _ _ c.put_byte-past.ensures (omega arith)

pub returns-in-Again : goal.returns-in-Again
returns-in-Again t c = let s = c.args.rule.now in
    let at = c.args.at in
    let g = c.requires.0 in
    let l = rule_here s at g in
    let p = c.requires.1 in
    let o = c.in-Again.p in
    let q : kind_of (get_or s at 0) ≡ OfRule (Again o) = sym c.kind_of.ensures ∙ c.in-OfRule.is ∙ ap OfRule c.in-Again.is in
    let w = c.put_byte-open-in-Again.ensures in
    let x = c.put_rule-a-in-Again.ensures in
    let i = rule_wrote s (at + 1) _ _ _ _ (good_again s at g o q) x in
    p_again s at _ _ o q _ _ w _ _ x _ _ c.put_repeat-past.ensures (omega arith)

pub put_byte-open-requires-in-Counted : goal.put_byte-open-requires-in-Counted
put_byte-open-requires-in-Counted t c = let s = c.args.rule.now in
    let at = c.args.at in
    let g = c.requires.0 in
    let l = rule_here s at g in
    let p = c.requires.1 in
    omega arith

pub overflow_add-at-in-Counted : goal.overflow_add-at-in-Counted
overflow_add-at-in-Counted t c = let s = c.args.rule.now in
    let at = c.args.at in
    let g = c.requires.0 in
    let l = rule_here s at g in
    let p = c.requires.1 in
    let q : kind_of (get_or s at 0) ≡ OfRule Counted = sym c.kind_of.ensures ∙ c.in-OfRule.is ∙ ap OfRule c.in-Counted.is in
    let n = (has_counts s at g q).inside in
    omega arith

pub put_rule-a-requires-in-Counted : goal.put_rule-a-requires-in-Counted
put_rule-a-requires-in-Counted t c = let s = c.args.rule.now in
    let at = c.args.at in
    let g = c.requires.0 in
    let l = rule_here s at g in
    let p = c.requires.1 in
    let q : kind_of (get_or s at 0) ≡ OfRule Counted = sym c.kind_of.ensures ∙ c.in-OfRule.is ∙ ap OfRule c.in-Counted.is in
    let n = (has_counts s at g q).inside in
    let w = c.put_byte-open-in-Counted.ensures in
    (omega arith, (good_counted s at g q, omega arith))

pub put_word-sign-requires : goal.put_word-sign-requires
put_word-sign-requires t c = let s = c.args.rule.now in
    let at = c.args.at in
    let g = c.requires.0 in
    let l = rule_here s at g in
    let p = c.requires.1 in
    let q : kind_of (get_or s at 0) ≡ OfRule Counted = sym c.kind_of.ensures ∙ c.in-OfRule.is ∙ ap OfRule c.in-Counted.is in
    let w = c.put_byte-open-in-Counted.ensures in
    let i = rule_wrote s (at + 3) _ _ _ _ (good_counted s at g q) c.put_rule-a-in-Counted.ensures in
    omega arith

pub counts_at-requires : goal.counts_at-requires
counts_at-requires t c = let s = c.args.rule.now in
    let at = c.args.at in
    let g = c.requires.0 in
    let l = rule_here s at g in
    let p = c.requires.1 in
    let q : kind_of (get_or s at 0) ≡ OfRule Counted = sym c.kind_of.ensures ∙ c.in-OfRule.is ∙ ap OfRule c.in-Counted.is in
    (has_counts s at g q).inside

pub put_counts-past-requires : goal.put_counts-past-requires
put_counts-past-requires t c = let s = c.args.rule.now in
    let at = c.args.at in
    let g = c.requires.0 in
    let l = rule_here s at g in
    let p = c.requires.1 in
    let q : kind_of (get_or s at 0) ≡ OfRule Counted = sym c.kind_of.ensures ∙ c.in-OfRule.is ∙ ap OfRule c.in-Counted.is in
    let w = c.put_byte-open-in-Counted.ensures in
    let i = rule_wrote s (at + 3) _ _ _ _ (good_counted s at g q) c.put_rule-a-in-Counted.ensures in
    let v = c.put_word-sign.ensures in
    (counts_fit s at _ c.counts_at.ensures (has_counts s at g q), omega arith)

pub returns-in-Counted : goal.returns-in-Counted
returns-in-Counted t c = let s = c.args.rule.now in
    let at = c.args.at in
    let g = c.requires.0 in
    let l = rule_here s at g in
    let p = c.requires.1 in
    let q : kind_of (get_or s at 0) ≡ OfRule Counted = sym c.kind_of.ensures ∙ c.in-OfRule.is ∙ ap OfRule c.in-Counted.is in
    let w = c.put_byte-open-in-Counted.ensures in
    let x = c.put_rule-a-in-Counted.ensures in
    let i = rule_wrote s (at + 3) _ _ _ _ (good_counted s at g q) x in
    let v = c.put_word-sign.ensures in
    p_counted s at _ _ q _ _ w _ _ x _ _ v _ _ c.counts_at.ensures.low c.counts_at.ensures.high _ _ c.put_counts-past.ensures (omega arith)

pub overflow_add-at-in-Occurs : goal.overflow_add-at-in-Occurs
overflow_add-at-in-Occurs t c = let s = c.args.rule.now in
    let at = c.args.at in
    let g = c.requires.0 in
    let l = rule_here s at g in
    let p = c.requires.1 in
    let q : kind_of (get_or s at 0) ≡ OfRule Occurs = sym c.kind_of.ensures ∙ c.in-OfRule.is ∙ ap OfRule c.in-Occurs.is in
    let n = (occurs_counts s at g q).inside in
    omega arith

pub put_formula-f-requires : goal.put_formula-f-requires
put_formula-f-requires t c = let s = c.args.rule.now in
    let at = c.args.at in
    let g = c.requires.0 in
    let l = rule_here s at g in
    let p = c.requires.1 in
    let q : kind_of (get_or s at 0) ≡ OfRule Occurs = sym c.kind_of.ensures ∙ c.in-OfRule.is ∙ ap OfRule c.in-Occurs.is in
    let n = (occurs_counts s at g q).inside in
    (good_occurs s at g q, omega arith)

pub put_word-sign-requires-in-Occurs : goal.put_word-sign-requires-in-Occurs
put_word-sign-requires-in-Occurs t c = let s = c.args.rule.now in
    let at = c.args.at in
    let g = c.requires.0 in
    let l = rule_here s at g in
    let p = c.requires.1 in
    let q : kind_of (get_or s at 0) ≡ OfRule Occurs = sym c.kind_of.ensures ∙ c.in-OfRule.is ∙ ap OfRule c.in-Occurs.is in
    let i = formula_wrote s (at + 3) _ _ _ _ (good_occurs s at g q) c.put_formula-f.ensures in
    omega arith

pub counts_at-requires-in-Occurs : goal.counts_at-requires-in-Occurs
counts_at-requires-in-Occurs t c = let s = c.args.rule.now in
    let at = c.args.at in
    let g = c.requires.0 in
    let l = rule_here s at g in
    let p = c.requires.1 in
    let q : kind_of (get_or s at 0) ≡ OfRule Occurs = sym c.kind_of.ensures ∙ c.in-OfRule.is ∙ ap OfRule c.in-Occurs.is in
    (occurs_counts s at g q).inside

pub put_counts-past-requires-in-Occurs : goal.put_counts-past-requires-in-Occurs
put_counts-past-requires-in-Occurs t c = let s = c.args.rule.now in
    let at = c.args.at in
    let g = c.requires.0 in
    let l = rule_here s at g in
    let p = c.requires.1 in
    let q : kind_of (get_or s at 0) ≡ OfRule Occurs = sym c.kind_of.ensures ∙ c.in-OfRule.is ∙ ap OfRule c.in-Occurs.is in
    let i = formula_wrote s (at + 3) _ _ _ _ (good_occurs s at g q) c.put_formula-f.ensures in
    let v = c.put_word-sign-in-Occurs.ensures in
    (counts_fit s at _ c.counts_at-in-Occurs.ensures (occurs_counts s at g q), omega arith)

pub returns-in-Occurs : goal.returns-in-Occurs
returns-in-Occurs t c = let s = c.args.rule.now in
    let at = c.args.at in
    let g = c.requires.0 in
    let l = rule_here s at g in
    let p = c.requires.1 in
    let q : kind_of (get_or s at 0) ≡ OfRule Occurs = sym c.kind_of.ensures ∙ c.in-OfRule.is ∙ ap OfRule c.in-Occurs.is in
    let x = c.put_formula-f.ensures in
    let i = formula_wrote s (at + 3) _ _ _ _ (good_occurs s at g q) x in
    let v = c.put_word-sign-in-Occurs.ensures in
    p_occurs s at _ _ q _ _ x _ _ v _ _ c.counts_at-in-Occurs.ensures.low c.counts_at-in-Occurs.ensures.high _ _ c.put_counts-past-in-Occurs.ensures (omega arith)
