-- The states that a trimmed table keeps, and their new numbers. Assumes nothing: these are definitions.
use Rattle.std.specs.Prelude.{ℕ, ◌^◌, ◌<◌, ◌≡◌, List}
use Rattle.bits.specs.Word.{bit, many}
use Rattle.bits.specs.Sets.{Members}
use Rattle.trims.specs.Paths.{Reach, Ends}

-- q stays: it is state 0, or it lies on a path from 0 to a final
pub data Kept (t : List ℕ) (n f q : ℕ) : Type 0 where
  start : q ≡ 0 → Kept t n f q
  passes : Reach t n q → Ends t n f q → Kept t n f q

-- k is the word of the states that stay
pub record KeptSet (t : List ℕ) (n f k : ℕ) : Type 0 where
  pub small : k < 2 ^ 64
  pub states : Members k (Kept t n f)

-- the new number of q: how many of the set are below it
unfoldable pub new_number : ℕ → ℕ → ℕ
new_number k q = many q (bit k)
