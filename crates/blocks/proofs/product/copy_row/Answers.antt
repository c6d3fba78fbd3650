-- `blocks::product::copy_row` meets its contract. Assumes nothing.
use mathlib.Core.Path.{refl}
use native.Mathlib.Omega.{arith}
use Rattle.automata.proofs.Puts.{put_as, put_slice}
use Rattle.blocks.proofs.Pairing.{moved_slice}
use Rattle.blocks.proofs.product.copy_row.Goals as goal

pub returns : goal.returns
returns c = let copied = rw c.place-old.ensures at c.copy_from_slice.ensures.after in
    rw c.place-at.ensures (put_as (put_slice _ _ _ _ c.args.n _ (omega arith) (omega (arith, c.copy_from_slice.auto.self)) (omega arith) (omega arith))
    refl refl refl refl (λ p q i. moved_slice _ _ _ _ c.args.i _ p q copied (omega arith) (omega arith) (omega arith)))
