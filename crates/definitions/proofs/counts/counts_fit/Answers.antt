-- `definitions::counts_fit` meets its contract: it is the test, the first part first. Assumes nothing.
use mathlib.Core.Path.{sym, ap}
use mathlib.Core.Bool.{Bool, ◌&&◌}
use lib.Dec.{leb}
use borrow.Author.Tests.{le-leb, lt-leb}
use Rattle.definitions.specs.Encoding.{largest_count}
use Rattle.definitions.proofs.counts.counts_fit.Goals as goal

pub returns-then-low-high : goal.returns-then-low-high
returns-then-low-high c = sym (ap (λ (b : Bool). b && leb c.args.high largest_count) (le-leb _ _ c.if-low-high.true))

pub returns-else-low-high : goal.returns-else-low-high
returns-else-low-high c = sym (ap (λ (b : Bool). b && leb c.args.high largest_count) (lt-leb _ _ c.if-low-high.false))
