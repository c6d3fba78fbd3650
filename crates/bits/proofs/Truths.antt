-- Truth values as types: `T b` where b is a test's answer. Assumes nothing.
use Prim.Native.Nat.{ℕ, ◌<◌}
use mathlib.Core.Path.{◌≡◌, refl}
use mathlib.Core.Logic.{◌⊎◌, inl, inr, ◌↔◌}
use mathlib.Core.Bool.{Bool, true, false, ◌&&◌, ◌||◌}
use lib.Dec.{T}
use Rattle.bits.specs.Word.{any}
use Rattle.bits.proofs.Laws.{any_intro, any_elim}

pub and_T : (a b : Bool) → T (a && b) ↔ (T a × T b)
and_T true b = (λ t. (tt, t), λ h. h.1)
and_T false b = (λ t. absurd t, λ h. h.0)

pub or_T : (a b : Bool) → T (a || b) ↔ (T a ⊎ T b)
or_T true b = (λ t. inl tt, λ h. tt)
or_T false b = (λ t. inr t, elim [ inl t ↦ absurd t | inr t ↦ t ])

pub true_T : {b : Bool} → b ≡ true → T b
true_T e = rw e tt

pub T_true : (b : Bool) → T b → b ≡ true
T_true true t = refl
T_true false t = absurd t

pub no_false : (b : Bool) → (T b → ⊥) → b ≡ false
no_false true n = absurd (n tt)
no_false false n = refl

pub false_no : {b : Bool} → b ≡ false → T b → ⊥
false_no e t = rw e at t

-- two answers that say the same are the same
pub same_truth : (a b : Bool) → (T a → T b) → (T b → T a) → a ≡ b
same_truth true true f g = refl
same_truth true false f g = absurd (f tt)
same_truth false true f g = absurd (g tt)
same_truth false false f g = refl

-- some k below n, as a fact
pub any_T : (n : ℕ) (f : ℕ → Bool) → T (any n f) ↔ ((k : ℕ) × (k < n) × T (f k))
any_T n f = (
  λ t. let h = any_elim n f (T_true (any n f) t) in (h.0, h.1, true_T h.2),
  λ h. true_T (any_intro n f h.0 h.1 (T_true (f h.0) h.2)),
)
