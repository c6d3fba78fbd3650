-- `counts_at` takes both counts. Assumes nothing.
use Rattle.std.proofs.lemmas.Result.{err_from_is_err_and}
use mathlib.Core.Path.{refl, subst}
use mathlib.Core.List.{[], ◌∷◌}
use Rattle.grammar.specs.inner.Reading.{low}
use Rattle.grammar.specs.inner.Places.{WordEnds, no_counts}
use Rattle.grammar.proofs.CountsAt.{as_number, as_no_number, dots_broken, both_counts}
use Rattle.grammar.proofs.counts.counts_at.Goals as goal

pub word_end-requires : goal.word_end-requires
word_end-requires c = let x = as_number c.number_at.ensures _ c.in_ok-low.was in x.part.inside

pub high_at-requires : goal.high_at-requires
high_at-requires c = let x = as_number c.number_at.ensures _ c.in_ok-low.was in x.fits.small

pub returns-in_err-low : goal.returns-in_err-low
returns-in_err-low c = let p = err_from_is_err_and c.from_residual.result c.from_residual.ensures.1 in rw (p.1, p.2) (no_counts _ refl (as_no_number c.number_at.ensures _ c.in_err-low.was low))

pub returns-in_err-second : goal.returns-in_err-second
returns-in_err-second c = let p = err_from_is_err_and c.from_residual-in_err-second.result c.from_residual-in_err-second.ensures.1 in rw (p.1, p.2) (dots_broken _ _ _ _ (as_number c.number_at.ensures _ c.in_ok-low.was) _ (subst (WordEnds _ _ (46 ∷ 46 ∷ [])) c.in_err-second.was c.word_end.ensures))

pub returns : goal.returns
returns c = both_counts _ _ _ _ (as_number c.number_at.ensures _ c.in_ok-low.was) _ (subst (WordEnds _ _ (46 ∷ 46 ∷ [])) c.in_ok-second.was c.word_end.ensures) _ c.high_at.ensures
