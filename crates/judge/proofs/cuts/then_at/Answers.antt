-- `cuts::then_at` meets its contract: some cut of the part passes. Assumes nothing.
use native.Mathlib.Omega.{arith}
use mathlib.Core.Bool.{◌&&◌}
use borrow.Author.Rules.{rules}
use borrow.Author.Tests.{tests}
use Rattle.bits.proofs.Sayings.{says_map}
use Rattle.judge.specs.Parts.{yes}
use Rattle.judge.proofs.Tries.{says_some, both, first, second}
use Rattle.judge.proofs.cuts.then_at.Goals as goal

pub returns : goal.returns
returns c =
    says_map
    (λ t. record { cut = t.cut; from = t.from; to = omega (arith, t.to); first = first _ _ t.passes; second = second _ _ t.passes })
    (λ t. record { cut = t.cut; from = t.from; to = omega (arith, t.to); passes = both _ _ t.first t.second })
    (says_some (λ x. yes c.args.a.now c.args.i x && yes c.args.b.now x c.args.e) _ _ _ _ c.any.ensures.ran (λ x b q k. search (rules, tests)))
