-- `bits::with_if` meets its contract. By the two cases of the flag.
-- Assumes nothing.
use mathlib.Core.Path.{sym, ap, ◌∙◌}
use Rattle.bits.specs.Sets.{add_if}
use Rattle.bits.proofs.with_if.Goals as goal

pub returns-then-yes : goal.returns-then-yes
returns-then-yes c = c.with.ensures ∙ ap (add_if c.args.w c.args.k) (sym c.if-yes.true)

pub returns : goal.returns
returns c = ap (add_if c.args.w c.args.k) (sym c.if-yes.false)
