-- Automata as relations over numbered states (source document 001, Definitions 4 and 5). Assumes nothing: these are definitions.
use Rattle.std.specs.Prelude.{ℕ, ◌≡◌, List, [], ◌∷◌}

-- the states are the numbers below the size, 0 is the first; letter x leads from p to q, q is final
pub record Auto : Type 1 where
  pub size : ℕ
  pub step : ℕ → ℕ → ℕ → Type 0
  pub final : ℕ → Type 0

-- w leads from p to q
unfoldable pub Leads : Auto → ℕ → List ℕ → ℕ → Type 0
Leads A p [] q = p ≡ q
Leads A p (x ∷ w) q = (m : ℕ) × A.step p x m × Leads A m w q

-- the automaton accepts w: it leads from state 0 to a final state
unfoldable pub Takes : Auto → List ℕ → Type 0
Takes A w = (q : ℕ) × Leads A 0 w q × A.final q
