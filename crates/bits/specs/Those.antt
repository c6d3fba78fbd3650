-- A set by a test of its members. Assumes nothing: this is a definition.
use Rattle.std.specs.Prelude.{ℕ, ◌<◌, ◌≤◌, Bool, false, ◌≡◌}
use Rattle.bits.specs.Word.{bit}

-- below n the set has those that the test says yes to, and it has no other: `says k b` where the test may say b of k
pub record ThoseBelow (n : ℕ) (says : ℕ → Bool → Type 0) (set : ℕ) : Type 0 where
  pub each : (k : ℕ) → k < n → says k (bit set k)
  pub others : (k : ℕ) → n ≤ k → bit set k ≡ false
