-- `occurrence_at` takes counts if they follow. Assumes nothing.
use Rattle.std.proofs.lemmas.Result.{err_from_is_err_and}
use mathlib.Core.Path.{refl}
use Rattle.grammar.specs.declared.signs.Head.TheVariants.{Occurs}
use Rattle.grammar.specs.inner.Wide.{standing_head}
use Rattle.grammar.specs.inner.Places.{unheaded}
use Rattle.grammar.proofs.AfterOperand.{counted_head, counted_broken, no_occurrence, no_equals, by_equals}
use Rattle.grammar.proofs.signs.occurrence_at.Goals as goal

pub returns-then-not-stands : goal.returns-then-not-stands
returns-then-not-stands c = no_occurrence _ _ c.requires (c.stands.ensures.no_fails c.if-not-stands.true)

pub returns-then-not-stands-2 : goal.returns-then-not-stands-2
returns-then-not-stands-2 c = no_equals _ _ (c.stands.ensures.yes_holds c.if-not-stands.false) (c.stands-2.ensures.no_fails c.if-not-stands-2.true)

pub returns-in_err-counts : goal.returns-in_err-counts
returns-in_err-counts c = let p = err_from_is_err_and c.from_residual.result c.from_residual.ensures.1 in rw (p.1, p.2) (by_equals _ _ (c.stands.ensures.yes_holds c.if-not-stands.false) (c.stands-2.ensures.yes_holds c.if-not-stands-2.false) _ (unheaded _ refl (counted_broken c.counts_at.ensures _ c.in_err-counts.was)))

pub returns : goal.returns
returns c = by_equals _ _ (c.stands.ensures.yes_holds c.if-not-stands.false) (c.stands-2.ensures.yes_holds c.if-not-stands-2.false) _ (counted_head standing_head Occurs (λ i j. refl) c.counts_at.ensures _ c.in_ok-counts.was)
