-- What a walker remembers of the letters that it took. Assumes nothing: these are definitions.
use Rattle.std.specs.Prelude.{ℕ, ◌≤◌, ◌≡◌, ◌↔◌, Bool, true, false, List, [], ◌∷◌, ◌++◌, length}
use Rattle.definitions.specs.Definition1.{Rule}
use Rattle.definitions.specs.Definition2.{Begins, Sat}
use Rattle.steps.specs.Moves.{meets}
use Rattle.walkers.specs.declared.Walker.{Walker}
use Rattle.walkers.specs.Steps.{start_of, flag, refusal, step_of}

-- a walker that was started with the finals and stepped over the table t any number of times took the letters l, and is v now;
-- a step that was refused, over whatever table, took none
pub data Took (t : List ℕ) (finals : ℕ) : List ℕ → Walker → Type 0 where
  fresh : {l : List ℕ} {v : Walker} → l ≡ [] → v ≡ start_of finals → Took t finals l v
  stepped : {l : List ℕ} {v : Walker} (u : List ℕ) (w : Walker) (x : ℕ) (b : Bool)
      → Took t finals u w → step_of t w x ≡ record { walker = v; says = flag b } → l ≡ u ++ (x ∷ []) → Took t finals l v
  refused : {l : List ℕ} {v : Walker} (t' : List ℕ) (w : Walker) (x n p : ℕ) → Took t finals l w → step_of t' w x ≡ record { walker = v; says = refusal n p } → Took t finals l v

-- n is the length of the shortest beginning of l that the rule accepts; the empty one is a beginning, and so is all of l
pub record Shortest (r : Rule) (l : List ℕ) (n : ℕ) : Type 0 where
  pub beginning : Begins (Sat r) l
  pub long : length beginning.w1 ≡ n
  pub least : (other : Begins (Sat r) l) → n ≤ length other.w1

-- what the walker v, which took the letters l, tells of them
pub record Remembers (r : Rule) (l : List ℕ) (v : Walker) : Type 0 where
  pub counts : v.taken ≡ length l
  pub matched_exactly : (v.matched ≡ true) ↔ Begins (Sat r) l
  pub first_shortest : v.matched ≡ true → Shortest r l v.first
  pub no_first : v.matched ≡ false → v.first ≡ 0
  -- and whether all of them match
  pub matches_now : (meets v.set v.finals ≡ true) ↔ Sat r l
