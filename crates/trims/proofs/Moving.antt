-- Moving labels to new numbers. Assumes nothing.
use Prim.Native.Nat.{ℕ, ◌+◌, ◌<◌, ◌≤◌}
use native.Mathlib.Omega.{arith}
use mathlib.Core.Path.{◌≡◌, sym, ap₂, ◌∙◌}
use mathlib.Core.Logic.{◌⊎◌, inl, inr}
use mathlib.Core.Bool.{and-false}
use mathlib.Core.List.{List}
use lib.Dec.{ltb}
use lib.ListN.{get_or, length}
use borrow.Author.Tests.{lt-ltb, le-ltb}
use Rattle.bits.proofs.Laws.{lt_or_ge}
use Rattle.automata.specs.Table.{cell}
use Rattle.automata.specs.inner.Cells.{In, Put}
use Rattle.trims.specs.inner.Moves.{Rising, moved_label_of}

module _ (t from : List ℕ) (i j : ℕ) where
  pub moved_row_none : length from ≤ i → 0 ≡ moved_label_of t from i j
  unfolding moved_label_of
  moved_row_none l = rw (le-ltb i (length from) l)

  pub moved_column_none : length from ≤ j → 0 ≡ moved_label_of t from i j
  unfolding moved_label_of
  moved_column_none l = rw (le-ltb j (length from) l, and-false (ltb i (length from)))

  pub moved_here : i < length from → j < length from → moved_label_of t from i j ≡ cell t (get_or from i 0) (get_or from j 0)
  unfolding moved_label_of
  moved_here a b = rw (lt-ltb i (length from) a, lt-ltb j (length from) b)

  -- read at two places that are i and j
  pub moved_read : (p q : ℕ) → p < length from → q < length from → p ≡ i → q ≡ j → cell t (get_or from p 0) (get_or from q 0) ≡ moved_label_of t from i j
  moved_read p q a b x y =
      ap₂ (λ (m n : ℕ). cell t (get_or from m 0) (get_or from n 0)) x y ∙ sym (moved_here (omega arith) (omega arith))

-- what is read has not been written yet
module _ (t u from : List ℕ) (i j : ℕ) where
  moved_same : (i < length from → j < length from → cell u (get_or from i 0) (get_or from j 0) ≡ cell t (get_or from i 0) (get_or from j 0))
      → (i < length from) ⊎ (length from ≤ i) → (j < length from) ⊎ (length from ≤ j) → moved_label_of u from i j ≡ moved_label_of t from i j
  moved_same h (inl a) (inl b) = moved_here u from i j a b ∙ h a b ∙ sym (moved_here t from i j a b)
  moved_same h (inr a) _ = sym (moved_row_none u from i j a) ∙ moved_row_none t from i j a
  moved_same h (inl a) (inr b) = sym (moved_column_none u from i j b) ∙ moved_column_none t from i j b

  -- in row i, up to column j
  pub moved_in_row : {g : ℕ → ℕ → ℕ} → Rising from → Put t u i (i + 1) 0 j g → moved_label_of u from i j ≡ moved_label_of t from i j
  moved_in_row r x =
      moved_same
      (λ a b. x.old (get_or from i 0) (get_or from j 0) (r.inside j b) (λ k. omega (arith, r.rises j b)))
      (lt_or_ge i (length from)) (lt_or_ge j (length from))

-- in row i, once the rows up to i are written
pub moved_rows : (t u from : List ℕ) (k i : ℕ) {g : ℕ → ℕ → ℕ} → Rising from → Put t u 0 i 0 k g → (p q : ℕ) → In i (i + 1) 0 k p q → moved_label_of u from p q ≡ moved_label_of t from p q
moved_rows t u from k i r x p q h =
    moved_same t u from p q
    (λ a b. x.old (get_or from p 0) (get_or from q 0) (r.inside q b) (λ k. omega (arith, r.rises p a)))
    (lt_or_ge p (length from)) (lt_or_ge q (length from))
