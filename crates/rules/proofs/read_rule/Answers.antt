-- `rules::read_rule` meets its contract. Assumes nothing.
use Prim.Native.Nat.{◌≤◌}
use native.Mathlib.Omega.{arith}
use Rattle.std.proofs.lemmas.Result.{err_from_is_err_and}
use lib.ListN.{length}
use Rattle.rules.proofs.Finish.{told_long, told_bad, told_left, told_light, told_heavy}
use Rattle.rules.proofs.read_rule.Goals as goal

pub returns-then-rule-gt-LONGEST_RULE : goal.returns-then-rule-gt-LONGEST_RULE
returns-then-rule-gt-LONGEST_RULE c = told_long c.args.rule.now c.if-rule-gt-LONGEST_RULE.true

pub returns-then-end-rule : goal.returns-then-end-rule
returns-then-end-rule c = let s = c.args.rule.now in let h : length s ≤ 255 = omega arith in told_left s h _ c.in_ok-end.ensures c.if-end-rule.true

pub weight_at-w-requires : goal.weight_at-w-requires
weight_at-w-requires c = let g = c.in_ok-end.ensures in (g.0, c.in_ok-end.end, g.1)

pub returns-in_err-end : goal.returns-in_err-end
returns-in_err-end c =
    let s = c.args.rule.now in
    let h : length s ≤ 255 = omega arith in
    let p = err_from_is_err_and c.from_residual.result c.from_residual.ensures.1 in
    rw (p.1, p.2) (told_bad s h _ c.in_err-end.ensures)

pub returns-then-weight-le-WEIGHT_LIMIT : goal.returns-then-weight-le-WEIGHT_LIMIT
returns-then-weight-le-WEIGHT_LIMIT c = let s = c.args.rule.now in let h : length s ≤ 255 = omega arith in told_light s h c.in_ok-end.end c.in_ok-end.ensures c.if-end-rule.false c.weight_at-w.result c.weight_at-w.ensures c.if-weight-le-WEIGHT_LIMIT.true

pub returns-else-weight-le-WEIGHT_LIMIT : goal.returns-else-weight-le-WEIGHT_LIMIT
returns-else-weight-le-WEIGHT_LIMIT c = let s = c.args.rule.now in let h : length s ≤ 255 = omega arith in told_heavy s h c.in_ok-end.end c.in_ok-end.ensures c.if-end-rule.false c.weight_at-w.result c.weight_at-w.ensures c.if-weight-le-WEIGHT_LIMIT.false
