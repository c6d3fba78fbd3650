-- Sets of final states, made from the operands' sets. Assumes nothing: these are definitions.
use Rattle.std.specs.Prelude.{ℕ, ◌/◌, ◌%◌, ◌<◌, Bool, ◌&&◌, ◌≡◌, ◌⊎◌, ◌↔◌, T}
use Rattle.bits.specs.Word.{bit}
use Rattle.automata.specs.Build.{UpF}
use Rattle.automata.specs.Table.{table_states}

-- r is the set f with each state moved up by k
pub record Raised (f k r : ℕ) : Type 0 where
  pub moved : (q : ℕ) → q < table_states → T (bit r q) ↔ UpF k (λ j. T (bit f j)) q

-- r is the set f, and 0 is in it too where no part is needed
pub record MaybeFirst (i f r : ℕ) : Type 0 where
  pub has : (q : ℕ) → T (bit r q) ↔ (T (bit f q) ⊎ ((q ≡ 0) × (i ≡ 0)))

-- both states of the pair q are in their sets; b has n states
unfoldable pub pair_final_of : ℕ → ℕ → ℕ → ℕ → Bool
pair_final_of a b n q = bit a (q / n) && bit b (q % n)
