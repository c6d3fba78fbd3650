-- `blocks::row::double` meets its contract. Assumes nothing.
use mathlib.Core.Path.{refl}
use native.Mathlib.Omega.{arith}
use Rattle.automata.proofs.Puts.{put_down, put_as}
use Rattle.blocks.proofs.Rowing.{doubled_same}
use Rattle.blocks.proofs.row.double.Goals as goal

pub loop-i-preserved : goal.loop-i-preserved
loop-i-preserved c = let inv = c.loop-i.invariant.2 in (
  omega arith,
  omega (arith, c.double_row.auto.t),
  put_as
      (put_down _ (omega arith) (omega arith) (omega arith) inv c.double_row.ensures (λ p q i. doubled_same _ _ _ _ _ p q (omega arith) inv (omega arith)))
      refl (omega arith) refl refl (λ p q i. refl),
)
