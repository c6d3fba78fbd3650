-- Counted parts, one part at a time. Assumes nothing.
use Prim.Native.Nat.{ℕ, zero, suc, ◌-◌, ◌≤◌}
use native.Mathlib.Omega.{arith}
use mathlib.Core.Path.{◌≡◌}
use mathlib.Core.Logic.{◌⊎◌, inl, inr}
use mathlib.Core.List.{List, []}
use Rattle.definitions.specs.Definition2.{Parts, InARow, CountedParts}

-- one part, and then those that are left
abbrev pub OnePartMore : (List ℕ → Type 0) → ℕ → ℕ → List ℕ → Type 0
OnePartMore P i j = Parts P (CountedParts (i - 1) j P)

module _ (P : List ℕ → Type 0) (i j : ℕ) (w : List ℕ) where
  pub none_counted : w ≡ [] → i ≡ 0 → CountedParts i j P w
  none_counted e z = record { k = 0; low = omega arith; high = omega arith; parts = e }

  pub part_counted : OnePartMore P i j w → CountedParts i (suc j) P w
  part_counted h =
      let l = h.second.low in
      let u = h.second.high in
      record { k = suc h.second.k; low = omega arith; high = omega arith; parts = record { w1 = h.w1; w2 = h.w2; whole = h.whole; first = h.first; second = h.second.parts } }

  pub counted_parts : CountedParts i (suc j) P w → ((w ≡ []) × (i ≡ 0)) ⊎ OnePartMore P i j w
  counted_parts h = go h.k h.low h.high h.parts
    where
      go : (k : ℕ) → i ≤ k → k ≤ suc j → InARow P k w → ((w ≡ []) × (i ≡ 0)) ⊎ OnePartMore P i j w
      go zero l u t = inl (t, omega arith)
      go (suc k) l u t = inr (record { w1 = t.w1; w2 = t.w2; whole = t.whole; first = t.first; second = record { k = k; low = omega arith; high = omega arith; parts = t.second } })

  pub none_at_all : CountedParts i 0 P w → (w ≡ []) × (i ≡ 0)
  none_at_all h = go h.k h.low h.high h.parts
    where
      go : (k : ℕ) → i ≤ k → k ≤ 0 → InARow P k w → (w ≡ []) × (i ≡ 0)
      go zero l u t = (t, omega arith)
      go (suc k) l u t = absurd (omega arith)
