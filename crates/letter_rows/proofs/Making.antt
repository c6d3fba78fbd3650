-- Arrays that a function of the place makes. Assumes nothing.
use Prim.Native.Nat.{ℕ, zero, suc, ◌+◌, ◌≤◌, ◌<◌}
use native.Mathlib.Omega.{arith}
use native.Mathlib.Decide.{ℕ_discrete}
use mathlib.Core.Path.{◌≡◌, sym, subst, ◌∙◌}
use mathlib.Core.List.{List}
use lib.ListN.{get_or}
use denote.Param.Members.{Mut, Called}
use Rattle.std.specs.Array.{IsFromFnResult, IsFromFnResultFrom}

module _ {F : Type 0} {g : Mut F (ℕ × Unit {0}) ℕ} {f : F} {h : ℕ → ℕ} (gives : (k y : ℕ) (q : F) → Called g f (k, tt) y q → (q ≡ f) × (y ≡ h k)) where
  made_at : (ys : List ℕ) (n i k : ℕ) → IsFromFnResultFrom g f ys i n → i ≤ k → k < i + n → get_or ys k 0 ≡ h k
  made_at ys zero i k x l m = absurd (omega arith)
  made_at ys (suc n) i k (q, y, e, c, x) l m =
      go (ℕ_discrete k i) (λ d. made_at ys n (i + 1) k (subst (λ (s : F). IsFromFnResultFrom g s ys (i + 1) n) (gives i y q c).0 x) (omega arith) (omega arith))
    where
      go : Dec (k ≡ i) → ((k ≡ i → ⊥) → get_or ys k 0 ≡ h k) → get_or ys k 0 ≡ h k
      go (yes d) _ = subst (λ (j : ℕ). get_or ys j 0 ≡ h j) (sym d) (e.1 0 ∙ (gives i y q c).1)
      go (no d) later = later d

  -- each entry is what the function gives at its place
  pub made : {ys : List ℕ} {n : ℕ} → IsFromFnResult g f ys n → (k : ℕ) → k < n → get_or ys k 0 ≡ h k
  made {ys} {n} x k l = made_at ys n 0 k x.each (omega arith) (omega arith)
