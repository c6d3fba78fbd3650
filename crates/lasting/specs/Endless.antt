-- Runs that can be continued for ever, and the states from which an endless run leaves. Assumes nothing: these are definitions.
use Rattle.std.specs.Prelude.{ℕ, suc, ◌<◌, ◌^◌, ◌≡◌, Bool, List, T}
use Rattle.bits.specs.Sets.{Members}
use Rattle.models.specs.Model.{Model, Run, last}

-- an endless run over n states that leaves state s: a state for each number, the first is s, each next a successor of the one before
pub record EndlessWay (n : ℕ) (next : ℕ → ℕ → Bool) (s : ℕ) : Type 0 where
  pub way : ℕ → ℕ
  pub begins : way 0 ≡ s
  pub inside : (k : ℕ) → way k < n
  pub goes : (k : ℕ) → T (next (way k) (way (suc k)))

abbrev pub Endless : Model → ℕ → Type 0
Endless M s = EndlessWay M.states M.next s

-- a run that can be continued for ever: an endless run leaves its last state
abbrev pub LastingRun : Model → List ℕ → Type 0
LastingRun M r = Run M r × Endless M (last r)

-- the 64-bit word w is the set of the states, of n, from which an endless run leaves
pub record EndlessSet (n : ℕ) (next : ℕ → ℕ → Bool) (w : ℕ) : Type 0 where
  pub small : w < 2 ^ 64
  pub members : Members w (EndlessWay n next)

abbrev pub LastingSet : Model → ℕ → Type 0
LastingSet M w = EndlessSet M.states M.next w
