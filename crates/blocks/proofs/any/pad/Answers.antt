-- `blocks::any::pad` meets its contract. Assumes nothing.
use mathlib.Core.Path.{refl}
use native.Mathlib.Omega.{arith}
use Rattle.blocks.proofs.Withins.{padded}
use Rattle.blocks.proofs.any.pad.Goals as goal

pub returns : goal.returns
returns c = λ t₀ x clean e fin b.
    padded t₀ _ _ _ _ _ _ _ x clean (omega arith) refl (omega arith) fin b c.any.ensures c.link.ensures
