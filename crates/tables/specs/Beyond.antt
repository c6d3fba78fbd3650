-- What a call leaves of a slice that it writes the first entries of. Assumes nothing: this is a definition.
use Rattle.std.specs.Prelude.{ℕ, ◌≤◌, ◌≡◌, List, length, get_or}

-- the slice a is as long in b, and its entries from n on are as they were
pub record Beyond (n : ℕ) (a b : List ℕ) : Type 0 where
  pub size : length b ≡ length a
  pub rest : (i : ℕ) → n ≤ i → get_or b i 0 ≡ get_or a i 0
