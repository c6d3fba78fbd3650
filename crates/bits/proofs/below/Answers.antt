use Prim.Native.Nat.{ℕ, ◌-◌}
use mathlib.Core.Path.{sym, ap}
use native.Mathlib.Omega.{arith}
use lib.Pow.{pow_pos}
use Rattle.bits.specs.Word.{word_bits, all}
use Rattle.bits.proofs.Laws.{shl_one}
use Rattle.bits.proofs.below.Goals as goal

pub overflow_sub-result : goal.overflow_sub-result
overflow_sub-result c = let e = shl_one word_bits c.args.n (omega arith) in
    omega (arith, e, pow_pos c.args.n)

pub returns-then-n-eq64 : goal.returns-then-n-eq64
unfolding all
returns-then-n-eq64 c = ap all (sym c.if-n-eq64.true)

pub returns-else-n-eq64 : goal.returns-else-n-eq64
unfolding all
returns-else-n-eq64 c = ap (λ (x : ℕ). x - 1) (shl_one word_bits c.args.n (omega arith))
