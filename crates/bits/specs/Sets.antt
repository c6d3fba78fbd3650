-- Words as sets: who their members are, and what a set's members, or the numbers below one, stand for. Assumes nothing: these are definitions.
use Rattle.std.specs.Prelude.{ℕ, ◌<◌, Bool, true, false, T}
use Rattle.bits.specs.Word.{bit, insert}

-- k is a member of the word
abbrev pub In : ℕ → ℕ → Type 0
In w k = T (bit w k)

-- the members of the word are those that P holds of
pub record Members (w : ℕ) (P : ℕ → Type 0) : Type 0 where
  pub holds : (k : ℕ) → T (bit w k) → P k
  pub has : (k : ℕ) → P k → T (bit w k)

-- the word with k added if b says so
abbrev pub add_if : ℕ → ℕ → Bool → ℕ
add_if w k true = insert w k
add_if w k false = w

-- what some number that P holds of stands for
pub record Over (P S : ℕ → Type 0) : Type 0 where
  pub at : ℕ
  pub inside : P at
  pub holds : S at

-- what some number below k stands for
pub record Below (S : ℕ → ℕ → Type 0) (k i : ℕ) : Type 0 where
  pub at : ℕ
  pub below : at < k
  pub holds : S at i
