-- How many of a set are below a number: it rises with each member, and takes each value below the whole. Assumes nothing.
use Prim.Native.Nat.{ℕ, zero, suc, ◌+◌, ◌<◌, ◌≤◌}
use native.Mathlib.Nat.{not-suc-le-zero, eq-or-lt_of_le, le_of_suc-le-suc, le_refl}
use native.Mathlib.Omega.{arith}
use mathlib.Core.Path.{◌≡◌, refl}
use mathlib.Core.Logic.{◌⊎◌, inl, inr, ⊎_elim}
use mathlib.Core.Bool.{Bool, true, false}
use lib.Dec.{T}
use Rattle.bits.specs.Word.{num, many}
use Rattle.bits.proofs.Laws.{lt_or_ge}
use Rattle.bits.proofs.Truths.{T_true}

-- one number more
pub rank_in : (f : ℕ → Bool) (q : ℕ) → f q ≡ true → many (suc q) f ≡ suc (many q f)
unfolding many
rank_in f q e = rw e (omega arith)

pub rank_out : (f : ℕ → Bool) (q : ℕ) → f q ≡ false → many (suc q) f ≡ many q f
unfolding many
rank_out f q e = rw e (omega arith)

rank_up : (f : ℕ → Bool) (q : ℕ) → many q f ≤ many (suc q) f
unfolding many
rank_up f q = omega arith

pub rank_mono : (f : ℕ → Bool) (p q : ℕ) → p ≤ q → many p f ≤ many q f
rank_mono f p zero l = let e : p ≡ 0 = omega arith in rw e (le_refl (many 0 f))
rank_mono f p (suc q) l = ⊎_elim (λ e. rw e (le_refl (many (suc q) f))) (λ h. omega (arith, rank_mono f p q (le_of_suc-le-suc h), rank_up f q)) (eq-or-lt_of_le l)

-- a member is counted from the next number on
pub rank_less : (f : ℕ → Bool) (p q : ℕ) → T (f p) → p < q → many p f < many q f
rank_less f p q t l = omega (arith, rank_in f p (T_true (f p) t), rank_mono f (suc p) q l)

pub rank_once : (f : ℕ → Bool) (p q : ℕ) → T (f p) → T (f q) → many p f ≡ many q f → p ≡ q
rank_once f p q s t e =
    ⊎_elim (λ l. absurd (omega (arith, rank_less f p q s l)))
    (λ l. ⊎_elim (λ m. absurd (omega (arith, rank_less f q p t m))) (λ m. omega arith) (lt_or_ge q p)) (lt_or_ge p q)

pub rank_le : (f : ℕ → Bool) (q : ℕ) → many q f ≤ q
unfolding many
rank_le f zero = le_refl 0
rank_le f (suc q) = go (f q) (rank_le f q)
  where
    go : (b : Bool) → many q f ≤ q → num b + many q f ≤ suc q
    go true h = omega arith
    go false h = omega arith

-- the member that has number i
pub record Member (f : ℕ → Bool) (n i q : ℕ) : Type 0 where
  pub inside : q < n
  pub member : T (f q)
  pub rank : many q f ≡ i

pub rank_onto : (f : ℕ → Bool) (n i : ℕ) → i < many n f → (q : ℕ) × Member f n i q
unfolding many
rank_onto f zero i l = absurd (not-suc-le-zero l)
rank_onto f (suc n) i l = go (f n) refl (rank_onto f n i) (lt_or_ge i (many n f))
  where
    go : (b : Bool) → f n ≡ b → (i < many n f → (q : ℕ) × Member f n i q) → (i < many n f) ⊎ (many n f ≤ i) → (q : ℕ) × Member f (suc n) i q
    go b e ih (inl h) = let m = ih h in (m.0, record { inside = omega (arith, m.1.inside); member = m.1.member; rank = m.1.rank })
    go true e ih (inr h) = (n, record { inside = le_refl (suc n); member = rw e tt; rank = omega (arith, rank_in f n e) })
    go false e ih (inr h) = absurd (omega (arith, rank_out f n e))
