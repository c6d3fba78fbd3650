-- The letters that the model has. Assumes nothing.
use Prim.Native.Nat.{ℕ, ◌+◌, ◌<◌}
use mathlib.Core.Path.{◌≡◌, refl, sym, subst}
use mathlib.Core.List.{List}
use native.Mathlib.Omega.{arith}
use lib.ListN.{get_or}
use Rattle.bits.specs.Word.{insert}
use Rattle.bits.specs.Sets.{Members}
use Rattle.bits.proofs.Members.{union_next, power}
use Rattle.levels.specs.Lent.{LentLetters}
use Rattle.levels.specs.inner.Passes.{Used, HasLetter}

pub used_turn : {w v : ℕ} (letters : List ℕ) (k : ℕ) → v ≡ insert w (get_or letters k 0) → Members w (Used letters k) → Members v (Used letters (k + 1))
unfolding insert
used_turn letters k e m = subst (λ (y : ℕ). Members y (Used letters (k + 1))) (sym e) (union_next {S = λ t x. x ≡ get_or letters t 0} m (power (get_or letters k 0)))

-- a state's letter is one of them
pub used_by : {n : ℕ} (letters : List ℕ) (t : ℕ) → t < n → Used letters n (get_or letters t 0)
used_by letters t h = record { at = t; below = h; holds = refl }

-- and it is there to be read
pub has_letter : {n t : ℕ} {letters : List ℕ} → LentLetters letters n → t < n → HasLetter letters t
has_letter {t = t} l h = record { state = omega (arith, l.few); inside = omega (arith, l.long); small = l.small t h }
