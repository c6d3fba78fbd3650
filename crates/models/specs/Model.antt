-- A model of jobs, and its runs. Assumes nothing: these are definitions.
use Rattle.std.specs.Prelude.{ℕ, ◌<◌, Bool, List, [], ◌∷◌, map, T}

-- a model has at most this many states
abbrev pub model_states : ℕ
model_states = 64

-- its states are the numbers below `states`; each has a letter, may be initial, and has successors
pub record Model : Type 0 where
  pub states : ℕ
  pub letter : ℕ → ℕ
  pub initial : ℕ → Bool
  pub next : ℕ → ℕ → Bool

-- each state of the row is allowed by the one before it, the first by `ok`
abbrev pub Walk : Model → (ℕ → Bool) → List ℕ → Type 0
Walk M ok [] = Unit {0}
Walk M ok (s ∷ r) = (s < M.states) × T (ok s) × Walk M (M.next s) r

abbrev pub NonEmpty : List ℕ → Type 0
NonEmpty [] = ⊥
NonEmpty (s ∷ r) = Unit {0}

-- a run: one or more states, the first initial, each next a successor of the one before
abbrev pub Run : Model → List ℕ → Type 0
Run M r = NonEmpty r × Walk M M.initial r

-- the last state of a row that begins after state s
abbrev pub last_from : ℕ → List ℕ → ℕ
last_from s [] = s
last_from s (t ∷ r) = last_from t r

-- the state that a run ends in (of no run: 0)
abbrev pub last : List ℕ → ℕ
last r = last_from 0 r

-- the letters that a run spells
abbrev pub spelled : Model → List ℕ → List ℕ
spelled M r = map M.letter r
