-- `cuts::letters_at` meets its contract: the count over a range, counted from its first letter. Assumes nothing.
use mathlib.Core.Path.{refl, ◌∙◌}
use Prim.Native.Nat.{◌+◌, ◌-◌}
use native.Mathlib.Omega.{arith}
use borrow.Author.Rules.{rules}
use borrow.Author.Tests.{tests}
use Rattle.std.proofs.lemmas.Iterator.{YieldsList-from_range}
use Rattle.std.proofs.lemmas.Iterator.Consumers.{YieldsList-from_filter, YieldsList-at, count_from_yields_List}
use Rattle.std.proofs.lemmas.List.Sums.{length-filter}
use Rattle.std.specs.List.{range_with_len}
use Rattle.bits.proofs.Ranks.{rank_le}
use Rattle.judge.specs.Parts.{yes}
use Rattle.judge.proofs.Occurrences.{counted}
use Rattle.judge.proofs.cuts.letters_at.Goals as goal

pub returns : goal.returns
returns c =
    let n =
    count_from_yields_List _ _ c.count.ensures.ran
    (YieldsList-from_filter _ (λ k. yes c.args.a.now k (k + 1)) (YieldsList-at c.filter.ensures.source (YieldsList-from_range c.args.i c.args.e (c.args.e - c.args.i) refl refl)) c.filter.ensures.closure (λ x b q k. search (rules, tests)))
    ∙ length-filter (λ k. yes c.args.a.now k (k + 1)) (range_with_len c.args.i (c.args.e - c.args.i))
    ∙ counted (λ k. yes c.args.a.now k (k + 1)) c.args.i (c.args.e - c.args.i) in
    let few = rank_le (λ k. yes c.args.a.now (c.args.i + k) (c.args.i + k + 1)) (c.args.e - c.args.i) in
    omega (arith, n, few, c.requires)
