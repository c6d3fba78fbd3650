-- `stray_rows` asks of each state. Assumes nothing.
use mathlib.Core.Path.{refl}
use mathlib.Core.Bool.{true, false}
use borrow.Author.Rules.{rules}
use Rattle.std.proofs.lemmas.Iterator.{cases_from_any, YieldsList-from_range}
use Rattle.bits.specs.Says.{Says}
use Rattle.trims.proofs.Strays.{any_says}
use Rattle.trims.specs.inner.Outside.{StrayRow}
use Rattle.trims.proofs.outside.stray_rows.Goals as goal

pub returns : goal.returns
returns c = any_says (cases_from_any _ _ _ (λ k. Says true (StrayRow c.args.table.now c.args.n k)) (λ k. Says false (StrayRow c.args.table.now c.args.n k)) c.any.ensures.ran (YieldsList-from_range 0 64 64 refl refl) (λ k f m. search rules) (λ k f m. search rules))
