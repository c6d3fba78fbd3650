-- Which tables can be trimmed, and what is wrong with the others. Assumes nothing: these are definitions.
use Rattle.std.specs.Prelude.{ℕ, ◌<◌, ◌≤◌, ◌≡◌, ◌≢◌, ◌⊎◌, List, T}
use Rattle.bits.specs.Word.{bit}
use Rattle.automata.specs.Table.{table_states, cell}

-- 1 to 64 states; the finals and the labels of the first 4,096 entries lie among them
pub record Stands (t : List ℕ) (n f : ℕ) : Type 0 where
  pub some : 1 ≤ n
  pub small : n ≤ table_states
  pub finals : (q : ℕ) → q < table_states → T (bit f q) → q < n
  pub labels : (p q : ℕ) → p < table_states → q < table_states → cell t p q ≢ 0 → (p < n) × (q < n)

-- refusal 24: no state, too many, a final or a label outside
pub data Faulty (t : List ℕ) (n f : ℕ) : Type 0 where
  no_state : n ≡ 0 → Faulty t n f
  too_many : table_states < n → Faulty t n f
  final_outside : (q : ℕ) → q < table_states → n ≤ q → T (bit f q) → Faulty t n f
  label_outside : (p q : ℕ) → p < table_states → q < table_states → (n ≤ p) ⊎ (n ≤ q) → cell t p q ≢ 0 → Faulty t n f
