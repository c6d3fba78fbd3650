-- `star_at` looks for what closes it, and for counts. Assumes nothing.
use Rattle.std.proofs.lemmas.Result.{err_from_is_err_and}
use mathlib.Core.Path.{refl}
use Rattle.grammar.specs.declared.signs.Head.TheVariants.{Counted}
use Rattle.grammar.specs.inner.Reading.{starred}
use Rattle.grammar.specs.inner.Wide.{bracket_head}
use Rattle.grammar.specs.inner.Places.{unheaded}
use Rattle.grammar.proofs.AfterOperand.{counted_head, counted_broken, star_closed, star_counted}
use Rattle.grammar.proofs.signs.star_at.Goals as goal

pub returns-then-stands : goal.returns-then-stands
returns-then-stands c = star_closed _ _ (c.stands.ensures.yes_holds c.if-stands.true)

pub returns-in_err-counts : goal.returns-in_err-counts
returns-in_err-counts c = let p = err_from_is_err_and c.from_residual.result c.from_residual.ensures.1 in rw (p.1, p.2) (star_counted _ _ (c.stands.ensures.no_fails c.if-stands.false) _ (unheaded _ refl (counted_broken c.counts_at.ensures _ c.in_err-counts.was)))

pub returns : goal.returns
returns c = star_counted _ _ (c.stands.ensures.no_fails c.if-stands.false) _ (counted_head (λ n. bracket_head (starred n)) Counted (λ i j. refl) c.counts_at.ensures _ c.in_ok-counts.was)
