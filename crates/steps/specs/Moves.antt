-- One step of a set of states under a letter, and a walk over letters from any set. Assumes nothing: these are definitions.
use Rattle.std.specs.Prelude.{ℕ, Bool, ◌&&◌, List, [], ◌∷◌}
use Rattle.bits.specs.Word.{bit, word, any}
use Rattle.automata.specs.Table.{table_states, cell}

-- the states that p reaches under the letter x
unfoldable pub row_of : List ℕ → ℕ → ℕ → ℕ
row_of t p x = word table_states (λ q. bit (cell t p q) x)

-- the states that some member of the set reaches under the letter x
unfoldable pub advanced : List ℕ → ℕ → ℕ → ℕ
advanced t set x = word table_states (λ q. any table_states (λ p. bit set p && bit (cell t p q) x))

-- whether a final is in the set
unfoldable pub meets : ℕ → ℕ → Bool
meets set finals = any table_states (λ q. bit set q && bit finals q)

-- where the letters lead from the set
abbrev pub walked : List ℕ → ℕ → List ℕ → ℕ
walked t set [] = set
walked t set (x ∷ w) = walked t (advanced t set x) w
