-- `backward::meets` meets its contract. The set and the row meet.
-- Assumes nothing.
use Prim.Native.Nat.{◌+◌}
use Rattle.bits.proofs.Sayings.{says_map}
use Rattle.bits.proofs.Resting.{meet_says}
use Rattle.passes.proofs.backward.meets.Goals as goal

pub returns : goal.returns
returns c = says_map (λ x. record { to = x.0; reads = x.2; kept = x.1 }) (λ x. (x.to, x.kept, x.reads)) (meet_says _ (c.type_inv.useful (c.args.base + c.args.t)).fits)
