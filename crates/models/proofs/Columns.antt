-- The columns of a stored model: 64 entries, and what stands at each. Assumes nothing.
use Prim.Native.Nat.{ℕ, zero, suc, ◌+◌, ◌≤◌, ◌<◌}
use native.Mathlib.Nat.{not-suc-le-zero, le_of_suc-le-suc, eq-or-lt_of_le}
use native.Mathlib.Omega.{arith}
use mathlib.Core.Path.{◌≡◌, refl, sym, ap, subst, ◌∙◌}
use mathlib.Core.Logic.{⊎_elim}
use mathlib.Core.List.{List}
use lib.Dec.{ltb}
use lib.ListN.{length, get_or, set, replicate, length-set, get_or-eq_default}
use lib.Seq.{ext_get_or, get_or-set_same, get_or-set_other}
use borrow.Author.Tests.{lt-ltb, le-ltb}
use Rattle.bits.proofs.Laws.{lt_or_ge}
use Rattle.models.specs.Stored.{entries, or_zero, column}
use Rattle.models.specs.Model.{model_states}

length_entries : (m : ℕ) (v : ℕ → ℕ) → length (entries m v) ≡ m
unfolding entries
length_entries zero v = refl
length_entries (suc m) v = ap suc (length_entries m (λ k. v (suc k)))

entries_at : (m : ℕ) (v : ℕ → ℕ) (i : ℕ) → i < m → get_or (entries m v) i 0 ≡ v i
unfolding entries
entries_at zero v i l = absurd (not-suc-le-zero l)
entries_at (suc m) v zero l = refl
entries_at (suc m) v (suc i) l = entries_at m (λ k. v (suc k)) i (le_of_suc-le-suc l)

pub column_long : (n : ℕ) (v : ℕ → ℕ) → length (column n v) ≡ model_states
unfolding column
column_long n v = length_entries model_states (λ k. or_zero (ltb k n) (v k))

entry : (n : ℕ) (v : ℕ → ℕ) (i : ℕ) → i < model_states → get_or (column n v) i 0 ≡ or_zero (ltb i n) (v i)
unfolding column
entry n v i l = entries_at 64 (λ k. or_zero (ltb k n) (v k)) i l

pub column_at : (n : ℕ) (v : ℕ → ℕ) (i : ℕ) → n ≤ model_states → i < n → get_or (column n v) i 0 ≡ v i
column_at n v i h l = entry n v i (omega arith) ∙ simp (lt-ltb _ _ l)

pub column_past : (n : ℕ) (v : ℕ → ℕ) (i : ℕ) → n ≤ i → get_or (column n v) i 0 ≡ 0
column_past n v i h =
    ⊎_elim (λ l. entry n v i l ∙ simp (le-ltb _ _ h)) (λ l. get_or-eq_default (column n v) 0 (rw column_long l)) (lt_or_ge i 64)

-- ---- a loop that stores v 0, v 1, ..

pub column_none : (v : ℕ → ℕ) → replicate model_states 0 ≡ column 0 v
unfolding column entries
column_none v = refl

column_next : (k a : ℕ) (v : ℕ → ℕ) → k < model_states → a ≡ v k → set (column k v) k a ≡ column (k + 1) v
column_next k a v l e =
    ext_get_or 0 (set (column k v) k a) (column (k + 1) v) (length-set (column k v) k a ∙ column_long k v ∙ sym (column_long (k + 1) v)) (λ i m. at i)
  where
    old : (i : ℕ) → (i ≡ k → ⊥) → get_or (set (column k v) k a) i 0 ≡ get_or (column k v) i 0
    old i z = get_or-set_other (column k v) k i a 0 z

    new : get_or (set (column k v) k a) k 0 ≡ v k
    new = get_or-set_same (column k v) k a 0 (rw column_long l) ∙ e

    at : (i : ℕ) → get_or (set (column k v) k a) i 0 ≡ get_or (column (k + 1) v) i 0
    at i =
        ⊎_elim (λ h. old i (λ z. omega arith) ∙ column_at k v i (omega arith) h ∙ sym (column_at (k + 1) v i (omega arith) (omega arith)))
        (λ h. ⊎_elim (λ e. subst (λ (j : ℕ). get_or (set (column k v) k a) j 0 ≡ get_or (column (k + 1) v) j 0) e (new ∙ sym (column_at (k + 1) v k (omega arith) (omega arith))))
        (λ m. old i (λ z. omega arith) ∙ column_past k v i h ∙ sym (column_past (k + 1) v i (omega arith))) (eq-or-lt_of_le h)) (lt_or_ge i k)

-- a turn of the loop
pub column_turn : (k a : ℕ) (v : ℕ → ℕ) (l : List ℕ) → k < model_states → l ≡ column k v → a ≡ v k → set l k a ≡ column (k + 1) v
column_turn k a v l h i e = ap (λ (l : List ℕ). set l k a) i ∙ column_next k a v h e
