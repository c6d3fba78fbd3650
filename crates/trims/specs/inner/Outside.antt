-- The tests of a lent table. Assumes nothing: these are definitions.
use Rattle.std.specs.Prelude.{ℕ, ◌<◌, ◌≤◌, ◌≡◌, ◌≢◌, ◌⊎◌, Bool, true, false, List, T}
use Rattle.bits.specs.Word.{bit}
use Rattle.bits.specs.Sets.{Over}
use Rattle.automata.specs.Table.{table_states, cell}
use Rattle.trims.specs.Stands.{Stands, Faulty}

-- a label leads from p to q, and one of them lies outside n states
pub record StrayLabel (t : List ℕ) (n p q : ℕ) : Type 0 where
  pub label : cell t p q ≢ 0
  pub outside : (n ≤ p) ⊎ (n ≤ q)

-- row p has such a label; some row has
abbrev pub StrayRow : List ℕ → ℕ → ℕ → Type 0
StrayRow t n p = Over (λ q. q < table_states) (StrayLabel t n p)

abbrev pub StrayRows : List ℕ → ℕ → Type 0
StrayRows t n = Over (λ p. p < table_states) (StrayRow t n)

-- a final lies outside them
abbrev pub StrayFinal : ℕ → ℕ → Type 0
StrayFinal n f = Over (λ q. q < table_states) (λ q. (n ≤ q) × T (bit f q))

-- the answer b says whether the table stands, and is right
pub record Judged (t : List ℕ) (n f : ℕ) (b : Bool) : Type 0 where
  pub good : b ≡ true → Stands t n f
  pub bad : b ≡ false → Faulty t n f
