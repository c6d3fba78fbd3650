-- `blocks::product::product_part` meets its contract. Assumes nothing.
use mathlib.Core.Path.{refl}
use native.Mathlib.Omega.{arith}
use Rattle.blocks.proofs.Pairing.{met_at, met_paired}
use Rattle.automata.proofs.Puts.{put_step, put_as}
use Rattle.blocks.proofs.product.product_part.Goals as goal

pub loop-k-preserved : goal.loop-k-preserved
loop-k-preserved c = (
  omega arith,
  omega arith,
  omega (arith, c.put.auto.t),
  put_as (put_step (omega arith) (omega arith) c.loop-k.invariant.3 c.put.ensures (met_at _ _ _ _ _ _ _ c.get.ensures))
      refl refl refl (omega arith) (λ x q i. refl),
)

pub returns : goal.returns
returns c = put_as c.loop-k.invariant.3 refl refl refl (omega arith) (λ x q i. met_paired _ _ _ _ _ _ _ _ _ c.get-by.ensures (omega arith) (omega arith) (omega arith))
