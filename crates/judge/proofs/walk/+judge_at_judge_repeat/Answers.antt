-- `walk::judge_at` and `walk::judge_repeat` meet their contracts. The measure is twice the bytes left, and one more for a repetition: an operand begins
-- later than its rule, and a repetition is judged where its operand stands. Assumes nothing.
use native.Mathlib.Omega.{arith}
use mathlib.Core.Path.{◌≡◌, ◌∙◌, sym, ap}
use lib.ListN.{get_or}
use Rattle.definitions.specs.declared.kinds.RuleKind.TheVariants.{Letter, Empty, Two, Again, Counted, Occurs}
use Rattle.definitions.specs.declared.kinds.Kind.TheVariants.{OfRule}
use Rattle.definitions.specs.Kinds.{kind_of}
use Rattle.rules.proofs.Walks.{rule_here, is_rule, good_letter, good_again, good_first, good_second, has_counts, good_counted, occurs_counts, good_occurs, counts_told}
use Rattle.judge.proofs.Operands.{at_letter, at_empty, at_again, at_two, at_none, at_counted, at_occurs, repeated, repeated_once}
use Rattle.judge.proofs.walk.+judge_at_judge_repeat.Goals as goal

pub judge_at-bounds-rule-at : goal.judge_at-bounds-rule-at
judge_at-bounds-rule-at t c = rule_here _ _ c.requires.0

pub judge_at-returns-in_default : goal.judge_at-returns-in_default
judge_at-returns-in_default t c =
    let k = is_rule c.args.rule.now c.args.at c.requires.0 in
    absurd (c.in_default.not-OfRule k.0 (c.kind_of.ensures ∙ k.1))

pub judge_at-overflow_add-at : goal.judge_at-overflow_add-at
judge_at-overflow_add-at t c = let s = c.args.rule.now in let at = c.args.at in let g = c.requires.0 in let l = rule_here s at g in omega arith

pub judge_at-letter_parts-requires : goal.judge_at-letter_parts-requires
judge_at-letter_parts-requires t c = let s = c.args.rule.now in let at = c.args.at in let g = c.requires.0 in let l = rule_here s at g in let q : kind_of (get_or s at 0) ≡ OfRule Letter = sym c.kind_of.ensures ∙ c.in-OfRule.is ∙ ap OfRule c.in-Letter.is in good_letter s at g q

pub judge_at-overflow_add-at-in-Again : goal.judge_at-overflow_add-at-in-Again
judge_at-overflow_add-at-in-Again t c = let s = c.args.rule.now in let at = c.args.at in let g = c.requires.0 in let l = rule_here s at g in omega arith

pub judge_at-judge_repeat-requires : goal.judge_at-judge_repeat-requires
judge_at-judge_repeat-requires t c = let s = c.args.rule.now in let at = c.args.at in let g = c.requires.0 in let l = rule_here s at g in let q : kind_of (get_or s at 0) ≡ OfRule (Again c.in-Again.p) = sym c.kind_of.ensures ∙ c.in-OfRule.is ∙ ap OfRule c.in-Again.is in (omega arith, (good_again s at g _ q, c.requires.1))

pub judge_at-overflow_add-at-in-Two : goal.judge_at-overflow_add-at-in-Two
judge_at-overflow_add-at-in-Two t c = let s = c.args.rule.now in let at = c.args.at in let g = c.requires.0 in let l = rule_here s at g in omega arith

pub judge_at-judge_at-a-requires : goal.judge_at-judge_at-a-requires
judge_at-judge_at-a-requires t c = let s = c.args.rule.now in let at = c.args.at in let g = c.requires.0 in let l = rule_here s at g in let q : kind_of (get_or s at 0) ≡ OfRule (Two c.in-Two.p) = sym c.kind_of.ensures ∙ c.in-OfRule.is ∙ ap OfRule c.in-Two.is in (omega arith, (good_first s at g _ q, c.requires.1))

pub judge_at-overflow_add-at-in-Two-2 : goal.judge_at-overflow_add-at-in-Two-2
judge_at-overflow_add-at-in-Two-2 t c = let s = c.args.rule.now in let at = c.args.at in let g = c.requires.0 in let l = rule_here s at g in omega arith

pub judge_at-rule_past-second-requires : goal.judge_at-rule_past-second-requires
judge_at-rule_past-second-requires t c = let s = c.args.rule.now in let at = c.args.at in let g = c.requires.0 in let l = rule_here s at g in let q : kind_of (get_or s at 0) ≡ OfRule (Two c.in-Two.p) = sym c.kind_of.ensures ∙ c.in-OfRule.is ∙ ap OfRule c.in-Two.is in good_first s at g _ q

pub judge_at-judge_at-b-requires : goal.judge_at-judge_at-b-requires
judge_at-judge_at-b-requires t c = let s = c.args.rule.now in let at = c.args.at in let g = c.requires.0 in let l = rule_here s at g in let q : kind_of (get_or s at 0) ≡ OfRule (Two c.in-Two.p) = sym c.kind_of.ensures ∙ c.in-OfRule.is ∙ ap OfRule c.in-Two.is in let h = good_second s at g _ q c.rule_past-second.result c.rule_past-second.ensures in (omega arith, (h.0, c.requires.1))

pub judge_at-returns-in-Letter : goal.judge_at-returns-in-Letter
judge_at-returns-in-Letter t c = let s = c.args.rule.now in let at = c.args.at in let g = c.requires.0 in let l = rule_here s at g in let q : kind_of (get_or s at 0) ≡ OfRule Letter = sym c.kind_of.ensures ∙ c.in-OfRule.is ∙ ap OfRule c.in-Letter.is in at_letter s at c.args.letters.now c.requires.1 q c.letter_parts.result c.letter_parts.ensures

pub judge_at-returns-in-Empty : goal.judge_at-returns-in-Empty
judge_at-returns-in-Empty t c = let s = c.args.rule.now in let at = c.args.at in let g = c.requires.0 in let l = rule_here s at g in let q : kind_of (get_or s at 0) ≡ OfRule Empty = sym c.kind_of.ensures ∙ c.in-OfRule.is ∙ ap OfRule c.in-Empty.is in at_empty s at c.args.letters.now c.requires.1 q c.empty_parts.result c.empty_parts.ensures

pub judge_at-returns-in-Again : goal.judge_at-returns-in-Again
judge_at-returns-in-Again t c = let s = c.args.rule.now in let at = c.args.at in let g = c.requires.0 in let l = rule_here s at g in let q : kind_of (get_or s at 0) ≡ OfRule (Again c.in-Again.p) = sym c.kind_of.ensures ∙ c.in-OfRule.is ∙ ap OfRule c.in-Again.is in at_again s at c.args.letters.now c.requires.1 _ q c.judge_repeat.result c.judge_repeat.ensures

pub judge_at-returns-in-Two : goal.judge_at-returns-in-Two
judge_at-returns-in-Two t c = let s = c.args.rule.now in let at = c.args.at in let g = c.requires.0 in let l = rule_here s at g in let q : kind_of (get_or s at 0) ≡ OfRule (Two c.in-Two.p) = sym c.kind_of.ensures ∙ c.in-OfRule.is ∙ ap OfRule c.in-Two.is in at_two s at c.args.letters.now c.requires.1 _ q c.rule_past-second.result c.rule_past-second.ensures c.judge_at-a.result c.judge_at-b.result c.pair_parts.result c.judge_at-a.ensures c.judge_at-b.ensures c.pair_parts.ensures

pub judge_at-counts_at-c-requires : goal.judge_at-counts_at-c-requires
judge_at-counts_at-c-requires t c = let s = c.args.rule.now in let at = c.args.at in let g = c.requires.0 in let q : kind_of (get_or s at 0) ≡ OfRule Counted = sym c.kind_of.ensures ∙ c.in-OfRule.is ∙ ap OfRule c.in-Counted.is in let h = has_counts s at g q in h.inside

pub judge_at-returns-then-c-eq0 : goal.judge_at-returns-then-c-eq0
judge_at-returns-then-c-eq0 t c = let s = c.args.rule.now in let at = c.args.at in let g = c.requires.0 in let q : kind_of (get_or s at 0) ≡ OfRule Counted = sym c.kind_of.ensures ∙ c.in-OfRule.is ∙ ap OfRule c.in-Counted.is in at_none s at c.args.letters.now c.requires.1 _ c.counts_at-c.ensures q c.if-c-eq0.true c.empty_parts-then-c-eq0.result c.empty_parts-then-c-eq0.ensures

pub judge_at-overflow_add-at-in-Counted : goal.judge_at-overflow_add-at-in-Counted
judge_at-overflow_add-at-in-Counted t c = let s = c.args.rule.now in let at = c.args.at in let g = c.requires.0 in let q : kind_of (get_or s at 0) ≡ OfRule Counted = sym c.kind_of.ensures ∙ c.in-OfRule.is ∙ ap OfRule c.in-Counted.is in let h = has_counts s at g q in let l = h.inside in omega arith

pub judge_at-judge_at-once-requires : goal.judge_at-judge_at-once-requires
judge_at-judge_at-once-requires t c = let s = c.args.rule.now in let at = c.args.at in let g = c.requires.0 in let q : kind_of (get_or s at 0) ≡ OfRule Counted = sym c.kind_of.ensures ∙ c.in-OfRule.is ∙ ap OfRule c.in-Counted.is in let h = has_counts s at g q in let l = h.inside in (omega arith, (good_counted s at g q, c.requires.1))

pub judge_at-row_parts-requires : goal.judge_at-row_parts-requires
judge_at-row_parts-requires t c = let s = c.args.rule.now in let at = c.args.at in let g = c.requires.0 in let q : kind_of (get_or s at 0) ≡ OfRule Counted = sym c.kind_of.ensures ∙ c.in-OfRule.is ∙ ap OfRule c.in-Counted.is in let h = has_counts s at g q in (counts_told s at _ c.counts_at-c.ensures h).rising

pub judge_at-counts_at-c-requires-in-Occurs : goal.judge_at-counts_at-c-requires-in-Occurs
judge_at-counts_at-c-requires-in-Occurs t c = let s = c.args.rule.now in let at = c.args.at in let g = c.requires.0 in let q : kind_of (get_or s at 0) ≡ OfRule Occurs = sym c.kind_of.ensures ∙ c.in-OfRule.is ∙ ap OfRule c.in-Occurs.is in let h = occurs_counts s at g q in h.inside

pub judge_at-overflow_add-at-in-Occurs : goal.judge_at-overflow_add-at-in-Occurs
judge_at-overflow_add-at-in-Occurs t c = let s = c.args.rule.now in let at = c.args.at in let g = c.requires.0 in let q : kind_of (get_or s at 0) ≡ OfRule Occurs = sym c.kind_of.ensures ∙ c.in-OfRule.is ∙ ap OfRule c.in-Occurs.is in let h = occurs_counts s at g q in let l = h.inside in omega arith

pub judge_at-letter_parts-one-requires : goal.judge_at-letter_parts-one-requires
judge_at-letter_parts-one-requires t c = let s = c.args.rule.now in let at = c.args.at in let g = c.requires.0 in let q : kind_of (get_or s at 0) ≡ OfRule Occurs = sym c.kind_of.ensures ∙ c.in-OfRule.is ∙ ap OfRule c.in-Occurs.is in good_occurs s at g q

pub judge_at-returns-else-c-eq0 : goal.judge_at-returns-else-c-eq0
judge_at-returns-else-c-eq0 t c = let s = c.args.rule.now in let at = c.args.at in let g = c.requires.0 in let q : kind_of (get_or s at 0) ≡ OfRule Counted = sym c.kind_of.ensures ∙ c.in-OfRule.is ∙ ap OfRule c.in-Counted.is in at_counted s at c.args.letters.now c.requires.1 _ c.counts_at-c.ensures q c.judge_at-once.result c.row_parts.result c.judge_at-once.ensures c.row_parts.ensures

pub judge_at-returns-in-Occurs : goal.judge_at-returns-in-Occurs
judge_at-returns-in-Occurs t c = let s = c.args.rule.now in let at = c.args.at in let g = c.requires.0 in let q : kind_of (get_or s at 0) ≡ OfRule Occurs = sym c.kind_of.ensures ∙ c.in-OfRule.is ∙ ap OfRule c.in-Occurs.is in at_occurs s at c.args.letters.now c.requires.1 _ c.counts_at-c-in-Occurs.ensures q c.letter_parts-one.result c.occurs_parts.result c.letter_parts-one.ensures c.occurs_parts.ensures

pub judge_repeat-judge_at-once-requires : goal.judge_repeat-judge_at-once-requires
judge_repeat-judge_at-once-requires t c = (omega arith, (c.requires.0, c.requires.1))

pub judge_repeat-returns-in-Star : goal.judge_repeat-returns-in-Star
judge_repeat-returns-in-Star t c = rw c.in-Star.is (repeated c.args.rule.now c.args.at c.args.letters.now c.requires.1 c.judge_at-once.result c.star_parts.result c.judge_at-once.ensures c.star_parts.ensures)

pub judge_repeat-returns-in-Plus : goal.judge_repeat-returns-in-Plus
judge_repeat-returns-in-Plus t c = rw c.in-Plus.is (repeated_once c.args.rule.now c.args.at c.args.letters.now c.requires.1 c.judge_at-once.result c.plus_parts.result c.judge_at-once.ensures c.plus_parts.ensures)
