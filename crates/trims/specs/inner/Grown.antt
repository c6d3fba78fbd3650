-- The states that labels lead to from a set, forwards or backwards. Assumes nothing: these are definitions.
use Rattle.std.specs.Prelude.{ℕ, ◌<◌, ◌≢◌, Bool, cond, List, T}
use Rattle.bits.specs.Word.{bit}
use Rattle.automata.specs.Table.{cell}

-- a label leads from p to q; backwards, from q to p
pub record Beside (t : List ℕ) (back : Bool) (p q : ℕ) : Type 0 where
  pub label : cond back (cell t q p) (cell t p q) ≢ 0

-- q is in the set, or some labels away from it among n states
pub data Grown (t : List ℕ) (n : ℕ) (back : Bool) (start : ℕ) : ℕ → Type 0 where
  given : {q : ℕ} → T (bit start q) → Grown t n back start q
  grown : {p q : ℕ} → Grown t n back start p → q < n → Beside t back p q → Grown t n back start q
