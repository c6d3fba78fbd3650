-- `blocks::fill::place_at` meets its contract. Assumes nothing.
use mathlib.Core.Logic.{inl, inr}
use native.Mathlib.Omega.{arith}
use Rattle.automata.proofs.Shaping.{fits_first, fits_second}
use Rattle.blocks.proofs.Building.{fits_zero}
use Rattle.blocks.proofs.Placing.{placed_plain, placed_behind, both_nowhere, both_beside}
use Rattle.blocks.proofs.fill.place_at.Goals as goal
use Rattle.blocks.proofs.fill.place_at.Goals.{then-a-lt2-via-then-a-lt2, then-a-lt2-via-else-a-lt2+then-b-lt2}

pub shape_at-a-requires : goal.shape_at-a-requires
shape_at-a-requires c = fits_zero _ _ _ (fits_first _ _ _ c.requires.0 _ c.requires.1)

pub shape_at-b-requires : goal.shape_at-b-requires
shape_at-b-requires c = fits_zero _ _ _ (fits_second _ _ _ c.requires.0 _ c.requires.1 _ c.shape_at-a.ensures).0

pub returns-then-a-lt2 : goal.returns-then-a-lt2
returns-then-a-lt2 c = rw c.in-Both.is (both_nowhere _ _ _ _ _ c.shape_at-a.ensures c.shape_at-b.ensures (elim c.then-a-lt2.branch [
  | then-a-lt2-via-then-a-lt2 w ↦ inl (omega (arith, w.if-a-lt2.true))
  | then-a-lt2-via-else-a-lt2+then-b-lt2 w ↦ inr (omega (arith, w.if-b-lt2.true))
]))

pub returns-in-Then : goal.returns-in-Then
returns-in-Then c = placed_plain _ c.in-Then.is

pub returns-in-Either : goal.returns-in-Either
returns-in-Either c = placed_behind _ c.in-Either.is

pub returns-else-b-lt2 : goal.returns-else-b-lt2
returns-else-b-lt2 c = rw c.in-Both.is (both_beside _ _ _ _ _ c.shape_at-a.ensures c.shape_at-b.ensures (omega (arith, c.if-a-lt2.false)) (omega (arith, c.if-b-lt2.false)))
