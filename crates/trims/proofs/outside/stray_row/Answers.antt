-- `stray_row` asks of each state. Assumes nothing.
use mathlib.Core.Path.{refl}
use mathlib.Core.Bool.{true, false}
use borrow.Author.Rules.{rules}
use Rattle.std.proofs.lemmas.Iterator.{cases_from_any, YieldsList-from_range}
use Rattle.bits.specs.Says.{Says}
use Rattle.trims.proofs.Strays.{any_says}
use Rattle.trims.specs.inner.Outside.{StrayLabel}
use Rattle.trims.proofs.outside.stray_row.Goals as goal

pub returns : goal.returns
returns c = any_says (cases_from_any _ _ _ (λ k. Says true (StrayLabel c.args.table.now c.args.n c.args.p k)) (λ k. Says false (StrayLabel c.args.table.now c.args.n c.args.p k)) c.any.ensures.ran (YieldsList-from_range 0 64 64 refl refl) (λ k f m. search rules) (λ k f m. search rules))
