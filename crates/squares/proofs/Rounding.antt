-- A loop that stores an entry at each turn, and one round of a square. Assumes nothing.
use Prim.Native.Nat.{ℕ, ◌+◌, ◌<◌}
use native.Mathlib.Omega.{arith}
use native.Mathlib.Decide.{ℕ_discrete}
use mathlib.Core.Path.{◌≡◌, sym, ap, ◌∙◌}
use mathlib.Core.List.{List}
use lib.ListN.{length, get_or, set, length-set}
use lib.Seq.{get_or-set_same, get_or-set_other}
use Rattle.squares.specs.inner.Rounds.{Round, mixed}

-- an entry is stored at n, where every entry below n is right: so is every entry below n + 1
pub filled : (b : List ℕ) (f : ℕ → ℕ) (n v : ℕ) → n < length b → v ≡ f n → ((k : ℕ) → k < n → get_or b k 0 ≡ f k) → (k : ℕ) → k < n + 1 → get_or (set b n v) k 0 ≡ f k
filled b f n v l e h k m = go (ℕ_discrete k n)
  where
    go : Dec (k ≡ n) → get_or (set b n v) k 0 ≡ f k
    go (yes i) = ap (λ (x : ℕ). get_or (set b n v) x 0) i ∙ get_or-set_same b n v 0 l ∙ e ∙ ap f (sym i)
    go (no i) = get_or-set_other b n k v 0 i ∙ h k (omega arith)

pub round_none : {a b : List ℕ} (r : ℕ) → length b ≡ length a → Round r a b 0
round_none r e = record { size = e; new = λ i l. absurd (omega arith) }

pub round_turn : {a b : List ℕ} {r : ℕ} (n v : ℕ) → n < length b → v ≡ mixed r a n → Round r a b n → Round r a (set b n v) (n + 1)
round_turn {a} {b} {r} n v l e x = record { size = length-set b n v ∙ x.size; new = filled b (mixed r a) n v l e x.new }
