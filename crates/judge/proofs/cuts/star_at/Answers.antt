-- `cuts::star_at` meets its contract: the part is empty, or some cut of it passes. Assumes nothing.
use native.Mathlib.Omega.{arith}
use mathlib.Core.Bool.{◌&&◌}
use borrow.Author.Rules.{rules}
use borrow.Author.Tests.{tests}
use Rattle.bits.proofs.Sayings.{says_map}
use Rattle.judge.specs.Parts.{yes}
use Rattle.judge.proofs.Tries.{says_some, both, first, second}
use mathlib.Core.Logic.{inr, ⊎_elim}
use Rattle.judge.proofs.cuts.star_at.Goals as goal

pub returns-else-i-e : goal.returns-else-i-e
returns-else-i-e c =
    says_map
    (λ t. inr (record { cut = t.cut; from = omega (arith, t.from); to = omega (arith, t.to); first = first _ _ t.passes; second = second _ _ t.passes }))
    (λ s. ⊎_elim (λ q. absurd (c.if-i-e.false q)) (λ t. record { cut = t.cut; from = omega (arith, t.from); to = omega (arith, t.to); passes = both _ _ t.first t.second }) s)
    (says_some (λ x. yes c.args.a.now c.args.i x && yes c.args.rest.now x c.args.e) _ _ _ _ c.any.ensures.ran (λ x b q k. search (rules, tests)))
