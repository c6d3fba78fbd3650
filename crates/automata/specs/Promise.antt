-- What a crate above may lean on of a rule's table. Assumes nothing: these are definitions.
use Rattle.std.specs.Prelude.{ℕ, ◌<◌, ◌≤◌, List, [], ◌∷◌, T}
use Rattle.definitions.specs.Definition1.{Rule}
use Rattle.definitions.specs.Definition2.{letter_count, Sat}
use Rattle.automata.specs.Table.{table_states, Table, Accepts}

-- the letters of w are letters
abbrev pub Letters : List ℕ → Type 0
Letters [] = Unit {0}
Letters (x ∷ w) = (x < letter_count) × Letters w

-- the table serves the rule: it has 1 to 64 states, accepts what Definition 2 accepts, its labels stay inside its states, and nothing enters state 0
pub record Serves (A : Table) (r : Rule) : Type 0 where
  pub some : 1 ≤ A.weight
  pub small : A.weight ≤ table_states
  pub sound : (w : List ℕ) → Letters w → Accepts A w → Sat r w
  pub complete : (w : List ℕ) → Letters w → Sat r w → Accepts A w
  pub inside : (p x q : ℕ) → T (A.edge p x q) → (p < A.weight) × (q < A.weight)
  pub unentered : (p x : ℕ) → T (A.edge p x 0) → ⊥
