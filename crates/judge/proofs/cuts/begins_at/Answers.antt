-- `cuts::begins_at` meets its contract: some beginning of the part passes. Assumes nothing.
use native.Mathlib.Omega.{arith}
use borrow.Author.Rules.{rules}
use borrow.Author.Tests.{tests}
use Rattle.bits.proofs.Sayings.{says_map}
use Rattle.judge.specs.Parts.{yes}
use Rattle.judge.proofs.Tries.{says_some}
use Rattle.judge.proofs.cuts.begins_at.Goals as goal

pub returns : goal.returns
returns c =
    says_map
    (λ t. record { cut = t.cut; from = omega (arith, t.from); to = omega (arith, t.to); first = t.passes })
    (λ t. record { cut = t.cut; from = t.from; to = omega (arith, t.to); passes = t.first })
    (says_some (λ x. yes c.args.a.now c.args.i x) _ _ _ _ c.any.ensures.ran (λ x b q k. search (rules, tests)))
