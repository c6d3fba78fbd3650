-- The proof of the cycle of calls {weight_at}. The measure is what is left of the slice from `at` on. Assumes nothing.
use mathlib.Core.Path.{◌≡◌, sym, ap, ◌∙◌}
use native.Mathlib.Omega.{arith}
use lib.ListN.{get_or}
use Rattle.definitions.specs.declared.kinds.RuleKind.TheVariants.{Letter, Empty, Two, Again, Counted, Occurs}
use Rattle.definitions.specs.declared.kinds.Kind.TheVariants.{OfRule}
use Rattle.definitions.specs.Kinds.{kind_of}
use Rattle.rules.proofs.Walks.{rule_here, is_rule, good_letter, good_again, good_first, good_second, has_counts, good_counted, occurs_counts, good_occurs}
use Rattle.rules.proofs.Weighing.{w_letter, w_empty, w_again, w_two, w_counted, w_occurs, capped_small}
use Rattle.rules.proofs.weights.+weight_at.Goals as goal

pub bounds-rule-at : goal.bounds-rule-at
bounds-rule-at t c = let s = c.args.rule.now in let at = c.args.at in let g = c.requires in let l = rule_here s at g in l

pub overflow_add-at : goal.overflow_add-at
overflow_add-at t c = let s = c.args.rule.now in let at = c.args.at in let g = c.requires in let l = rule_here s at g in omega arith

pub names_at-f-requires : goal.names_at-f-requires
names_at-f-requires t c = let s = c.args.rule.now in let at = c.args.at in let g = c.requires in let l = rule_here s at g in let q : kind_of (get_or s at 0) ≡ OfRule Letter = sym c.kind_of.ensures ∙ c.in-OfRule.is ∙ ap OfRule c.in-Letter.is in good_letter s at g q

pub overflow_add-result : goal.overflow_add-result
overflow_add-result t c = let s = c.args.rule.now in let at = c.args.at in let g = c.requires in let l = rule_here s at g in omega arith

pub overflow_add-at-in-Again : goal.overflow_add-at-in-Again
overflow_add-at-in-Again t c = let s = c.args.rule.now in let at = c.args.at in let g = c.requires in let l = rule_here s at g in omega arith

pub weight_at-requires : goal.weight_at-requires
weight_at-requires t c = let s = c.args.rule.now in let at = c.args.at in let g = c.requires in let l = rule_here s at g in let q : kind_of (get_or s at 0) ≡ OfRule (Again c.in-Again.field-0) = sym c.kind_of.ensures ∙ c.in-OfRule.is ∙ ap OfRule c.in-Again.is in (omega arith, good_again s at g _ q)

pub overflow_add-at-in-Two : goal.overflow_add-at-in-Two
overflow_add-at-in-Two t c = let s = c.args.rule.now in let at = c.args.at in let g = c.requires in let l = rule_here s at g in omega arith

pub weight_at-a-requires : goal.weight_at-a-requires
weight_at-a-requires t c = let s = c.args.rule.now in let at = c.args.at in let g = c.requires in let l = rule_here s at g in let q : kind_of (get_or s at 0) ≡ OfRule (Two c.in-Two.p) = sym c.kind_of.ensures ∙ c.in-OfRule.is ∙ ap OfRule c.in-Two.is in (omega arith, good_first s at g _ q)

pub weight_at-b-requires : goal.weight_at-b-requires
weight_at-b-requires t c = let s = c.args.rule.now in let at = c.args.at in let g = c.requires in let l = rule_here s at g in let q : kind_of (get_or s at 0) ≡ OfRule (Two c.in-Two.p) = sym c.kind_of.ensures ∙ c.in-OfRule.is ∙ ap OfRule c.in-Two.is in let h = good_second s at g _ q c.weight_at-a.result.end (λ a e d. (c.weight_at-a.ensures a e d).2) in (omega arith, h.0)

pub weight_of_pair-requires : goal.weight_of_pair-requires
weight_of_pair-requires t c = let s = c.args.rule.now in let at = c.args.at in let g = c.requires in let l = rule_here s at g in let q : kind_of (get_or s at 0) ≡ OfRule (Two c.in-Two.p) = sym c.kind_of.ensures ∙ c.in-OfRule.is ∙ ap OfRule c.in-Two.is in let a = good_first s at g _ q in let b = good_second s at g _ q c.weight_at-a.result.end (λ a e d. (c.weight_at-a.ensures a e d).2) in (capped_small _ _ (c.weight_at-a.ensures a.0 a.1 a.2).0, capped_small _ _ (c.weight_at-b.ensures b.0.0 b.0.1 b.0.2).0)

pub counts_at-c-requires : goal.counts_at-c-requires
counts_at-c-requires t c = let s = c.args.rule.now in let at = c.args.at in let g = c.requires in let l = rule_here s at g in let q : kind_of (get_or s at 0) ≡ OfRule Counted = sym c.kind_of.ensures ∙ c.in-OfRule.is ∙ ap OfRule c.in-Counted.is in (has_counts s at g q).inside

pub overflow_add-at-in-Counted : goal.overflow_add-at-in-Counted
overflow_add-at-in-Counted t c = let s = c.args.rule.now in let at = c.args.at in let g = c.requires in let l = rule_here s at g in let q : kind_of (get_or s at 0) ≡ OfRule Counted = sym c.kind_of.ensures ∙ c.in-OfRule.is ∙ ap OfRule c.in-Counted.is in let h = (has_counts s at g q).inside in omega arith

pub weight_at-a-requires-in-Counted : goal.weight_at-a-requires-in-Counted
weight_at-a-requires-in-Counted t c = let s = c.args.rule.now in let at = c.args.at in let g = c.requires in let l = rule_here s at g in let q : kind_of (get_or s at 0) ≡ OfRule Counted = sym c.kind_of.ensures ∙ c.in-OfRule.is ∙ ap OfRule c.in-Counted.is in let h = (has_counts s at g q).inside in (omega arith, good_counted s at g q)

pub weight_of_row-requires : goal.weight_of_row-requires
weight_of_row-requires t c = let s = c.args.rule.now in let at = c.args.at in let g = c.requires in let l = rule_here s at g in let q : kind_of (get_or s at 0) ≡ OfRule Counted = sym c.kind_of.ensures ∙ c.in-OfRule.is ∙ ap OfRule c.in-Counted.is in let h = (has_counts s at g q).fit.small in let b = good_counted s at g q in let e = c.counts_at-c.ensures.high in (omega arith, capped_small _ _ (c.weight_at-a-in-Counted.ensures b.0 b.1 b.2).0)

pub counts_at-c-requires-in-Occurs : goal.counts_at-c-requires-in-Occurs
counts_at-c-requires-in-Occurs t c = let s = c.args.rule.now in let at = c.args.at in let g = c.requires in let l = rule_here s at g in let q : kind_of (get_or s at 0) ≡ OfRule Occurs = sym c.kind_of.ensures ∙ c.in-OfRule.is ∙ ap OfRule c.in-Occurs.is in (occurs_counts s at g q).inside

pub overflow_add-at-in-Occurs : goal.overflow_add-at-in-Occurs
overflow_add-at-in-Occurs t c = let s = c.args.rule.now in let at = c.args.at in let g = c.requires in let l = rule_here s at g in let q : kind_of (get_or s at 0) ≡ OfRule Occurs = sym c.kind_of.ensures ∙ c.in-OfRule.is ∙ ap OfRule c.in-Occurs.is in let h = (occurs_counts s at g q).inside in omega arith

pub names_at-f-requires-in-Occurs : goal.names_at-f-requires-in-Occurs
names_at-f-requires-in-Occurs t c = let s = c.args.rule.now in let at = c.args.at in let g = c.requires in let l = rule_here s at g in let q : kind_of (get_or s at 0) ≡ OfRule Occurs = sym c.kind_of.ensures ∙ c.in-OfRule.is ∙ ap OfRule c.in-Occurs.is in good_occurs s at g q

pub overflow_add-result-in-Occurs : goal.overflow_add-result-in-Occurs
overflow_add-result-in-Occurs t c = let s = c.args.rule.now in let at = c.args.at in let g = c.requires in let l = rule_here s at g in let q : kind_of (get_or s at 0) ≡ OfRule Occurs = sym c.kind_of.ensures ∙ c.in-OfRule.is ∙ ap OfRule c.in-Occurs.is in let h = (occurs_counts s at g q).fit.small in let e = c.counts_at-c-in-Occurs.ensures.high in omega arith

pub returns-in_default : goal.returns-in_default
returns-in_default t c =
    let k = is_rule c.args.rule.now c.args.at c.requires in
    absurd (c.in_default.not-OfRule k.0 (c.kind_of.ensures ∙ k.1))

pub returns-in-Letter : goal.returns-in-Letter
returns-in-Letter t c = let s = c.args.rule.now in let at = c.args.at in let g = c.requires in let l = rule_here s at g in let q : kind_of (get_or s at 0) ≡ OfRule Letter = sym c.kind_of.ensures ∙ c.in-OfRule.is ∙ ap OfRule c.in-Letter.is in w_letter s at q c.names_at-f.result c.names_at-f.ensures

pub returns-in-Empty : goal.returns-in-Empty
returns-in-Empty t c = let s = c.args.rule.now in let at = c.args.at in let g = c.requires in let l = rule_here s at g in let q : kind_of (get_or s at 0) ≡ OfRule Empty = sym c.kind_of.ensures ∙ c.in-OfRule.is ∙ ap OfRule c.in-Empty.is in w_empty s at q

pub returns-in-Again : goal.returns-in-Again
returns-in-Again t c = let s = c.args.rule.now in let at = c.args.at in let g = c.requires in let l = rule_here s at g in let q : kind_of (get_or s at 0) ≡ OfRule (Again c.in-Again.field-0) = sym c.kind_of.ensures ∙ c.in-OfRule.is ∙ ap OfRule c.in-Again.is in w_again s at _ q c.weight_at.result c.weight_at.ensures

pub returns-in-Two : goal.returns-in-Two
returns-in-Two t c = let s = c.args.rule.now in let at = c.args.at in let g = c.requires in let l = rule_here s at g in let q : kind_of (get_or s at 0) ≡ OfRule (Two c.in-Two.p) = sym c.kind_of.ensures ∙ c.in-OfRule.is ∙ ap OfRule c.in-Two.is in w_two s at _ q c.weight_at-a.result c.weight_at-b.result c.weight_at-a.ensures c.weight_at-b.ensures c.weight_of_pair.result c.weight_of_pair.ensures

pub returns-in-Counted : goal.returns-in-Counted
returns-in-Counted t c = let s = c.args.rule.now in let at = c.args.at in let g = c.requires in let l = rule_here s at g in let q : kind_of (get_or s at 0) ≡ OfRule Counted = sym c.kind_of.ensures ∙ c.in-OfRule.is ∙ ap OfRule c.in-Counted.is in w_counted s at q c.counts_at-c.result c.counts_at-c.ensures c.weight_at-a-in-Counted.result c.weight_at-a-in-Counted.ensures c.weight_of_row.result c.weight_of_row.ensures

pub returns-in-Occurs : goal.returns-in-Occurs
returns-in-Occurs t c = let s = c.args.rule.now in let at = c.args.at in let g = c.requires in let l = rule_here s at g in let q : kind_of (get_or s at 0) ≡ OfRule Occurs = sym c.kind_of.ensures ∙ c.in-OfRule.is ∙ ap OfRule c.in-Occurs.is in w_occurs s at q c.counts_at-c-in-Occurs.result c.counts_at-c-in-Occurs.ensures c.names_at-f-in-Occurs.result c.names_at-f-in-Occurs.ensures
