-- What fills the answers: rows that say P, by a test, and `[*]` from the last row down. Assumes nothing.
use mathlib.Core.Path.{◌≡◌, refl, ap, sym, subst, subst⁻¹, ◌∙◌}
use mathlib.Core.Bool.{Bool, ◌||◌}
use mathlib.Core.Logic.{⊎_elim, inl, inr, ◌≢◌}
use mathlib.Core.List.{List}
use Prim.Native.Nat.{ℕ, zero, suc, ◌+◌, ◌-◌, ◌≤◌, ◌<◌}
use native.Mathlib.Nat.{eq-or-lt_of_le}
use native.Mathlib.Omega.{arith}
use denote.Param.Members.{Mut}
use Rattle.std.specs.Fn.{Called}
use Rattle.std.specs.Array.{IsFromFnResult, IsFromFnResultFrom}
use lib.Dec.{eqb}
use lib.ListN.{length, get_or, set, length-set}
use lib.Seq.{get_or-set_same, get_or-set_other}
use borrow.Author.Tests.{eqb-true, eqb-false}
use Rattle.bits.specs.Says.{Says}
use Rattle.bits.specs.Word.{bit, insert}
use Rattle.bits.proofs.Laws.{bit_zero, bit_insert}
use Rattle.bits.specs.Those.{ThoseBelow}
use Rattle.judge.specs.Parts.{side, yes, RowOf, Filled, FilledBy}
use Rattle.judge.specs.inner.Cut.{StarAt}
use Rattle.bits.proofs.Sayings.{said_no, says_map}

-- an array that is made element by element: each has what the closure's answers have
module _ {F : Type 0} {g : Mut F (ℕ × Unit {0}) ℕ} (Q : ℕ → ℕ → Type 0) (f : F) (n : ℕ) (gives : (i y : ℕ) (q : F) → i < n → Called g f (i, tt) y q → (q ≡ f) × Q i y) where
  made_from : (a : List ℕ) (k i : ℕ) (p : F) → p ≡ f → i + k ≤ n → IsFromFnResultFrom g p a i k → (j : ℕ) → i ≤ j → j < i + k → Q j (get_or a j 0)
  made_from a zero i p e w h j lo hi = absurd (omega arith)
  made_from a (suc k) i p e w h j lo hi =
      let c = gives i h.1 h.0 (omega arith) (subst (λ (x : F). Called g x (i, tt) h.1 h.0) e h.3) in
      ⊎_elim
      (λ (z : i ≡ j). subst (λ (m : ℕ). Q m (get_or a m 0)) z (subst (Q i) (sym (h.2.1 0)) c.1))
      (λ (l : i < j). made_from a k (i + 1) h.0 c.0 (omega arith) h.4 j (omega arith) (omega arith))
      (eq-or-lt_of_le lo)

  pub rows_made : {a : List ℕ} → IsFromFnResult g f a n → (i : ℕ) → i < n → Q i (get_or a i 0)
  rows_made {a} h i l = made_from a n 0 f refl (omega arith) h.each i (omega arith) (omega arith)

-- rows that say P, and rows that are what a test says
pub filled_rows : {P : ℕ → ℕ → Type 0} {a : List ℕ} → ((i : ℕ) → i < side → RowOf (P i) (get_or a i 0)) → Filled P a
unfolding yes
filled_rows h = record { says = λ i e li le. (h i li).says e le }

-- the rows below n are what the test says
pub record RowsTo (says : ℕ → ℕ → Bool → Type 0) (a : List ℕ) (n : ℕ) : Type 0 where
  pub wide : length a ≡ side
  pub rows : (i : ℕ) → i < n → ThoseBelow side (says i) (get_or a i 0)

module _ {says : ℕ → ℕ → Bool → Type 0} where
  pub rows_none : {a : List ℕ} → length a ≡ side → RowsTo says a 0
  rows_none w = record { wide = w; rows = λ i l. absurd (omega arith) }

  pub rows_one : {a : List ℕ} {n row : ℕ} → RowsTo says a n → n < side → ThoseBelow side (says n) row → RowsTo says (set a n row) (n + 1)
  rows_one {a} {n} {row} h l r =
      let in-range : n < length a = omega (arith, h.wide) in
      record {
        wide = length-set a n row ∙ h.wide;
        rows = λ i m. let le : i ≤ n = omega arith in
            ⊎_elim
            (λ (q : i ≡ n). subst⁻¹ (λ (k : ℕ). ThoseBelow side (says k) (get_or (set a n row) k 0)) q (subst⁻¹ (ThoseBelow side (says n)) (get_or-set_same a n row 0 in-range) r))
            (λ (k : i < n). let ne : i ≢ n = omega arith in subst⁻¹ (ThoseBelow side (says i)) (get_or-set_other a n i row 0 ne) (h.rows i k))
            (eq-or-lt_of_le le);
      }

  pub rows_done : {a : List ℕ} {n : ℕ} → side ≤ n → RowsTo says a n → FilledBy says a
  unfolding yes
  rows_done l h = record { each = λ i e li le. (h.rows i (omega arith)).each e le }

-- what a test says that tells whether P holds
pub filled_by : {P : ℕ → ℕ → Type 0} {says : ℕ → ℕ → Bool → Type 0} {a : List ℕ} → FilledBy says a → ((i e : ℕ) (b : Bool) → i < side → e < side → says i e b → Says b (P i e)) → Filled P a
filled_by h k = record { says = λ i e li le. k i e _ li le (h.each i e li le) }

pub row_by : {P : ℕ → Type 0} {says : ℕ → Bool → Type 0} {row : ℕ} → ThoseBelow side says row → ((e : ℕ) (b : Bool) → e < side → says e b → Says b (P e)) → RowOf P row
row_by h k = record { says = λ e l. k e _ l (h.each e l) }

-- a row with no bit, and one with a single bit
pub no_bit : {P : ℕ → Type 0} → ((e : ℕ) → P e → ⊥) → RowOf P 0
no_bit {P} n = record { says = λ e _. said_no (bit_zero e) (n e) }

pub one_bit : {P : ℕ → Type 0} {n row : ℕ} → row ≡ insert 0 n → P n → ((e : ℕ) → P e → e ≡ n) → RowOf P row
one_bit {P} {n} {row} q here only =
    record { says = λ e _. subst⁻¹ (λ (b : Bool). Says b (P e)) (ap (λ (w : ℕ). bit w e) q ∙ bit_insert 0 n e ∙ ap (λ (b : Bool). b || eqb e n) (bit_zero e)) (at e) }
  where
    at : (e : ℕ) → Says (eqb e n) (P e)
    at e = record { yes_holds = λ q. subst⁻¹ P (eqb-true e n q) here; no_fails = λ q p. eqb-false e n q (only e p) }

-- `[*]` is filled from the last row: the rows from n on say what their own row and the later ones are to say
pub record StarsFrom (a r : List ℕ) (n : ℕ) : Type 0 where
  pub wide : length r ≡ side
  pub rows : (i : ℕ) → n ≤ i → i < side → RowOf (StarAt a r i) (get_or r i 0)

-- a cell of `[*]` reads later rows only
module _ (a r : List ℕ) (n row i e : ℕ) (l : n ≤ i) where
  later : (m : ℕ) → i < m → yes (set r n row) m e ≡ yes r m e
  unfolding yes
  later m lt = let ne : m ≢ n = omega arith in ap (λ (x : ℕ). bit x e) (get_or-set_other r n m row 0 ne)

  star_set : StarAt a r i e → StarAt a (set r n row) i e
  star_set s = ⊎_elim (λ q. inl q) (λ t. inr (record { cut = t.cut; from = t.from; to = t.to; first = t.first; second = later t.cut t.from ∙ t.second })) s

  set_star : StarAt a (set r n row) i e → StarAt a r i e
  set_star s = ⊎_elim (λ q. inl q) (λ t. inr (record { cut = t.cut; from = t.from; to = t.to; first = t.first; second = sym (later t.cut t.from) ∙ t.second })) s

row_set : (a r : List ℕ) (n row i : ℕ) → n ≤ i → {x : ℕ} → RowOf (StarAt a r i) x → RowOf (StarAt a (set r n row) i) x
row_set a r n row i l h = record { says = λ e s. says_map (star_set a r n row i e l) (set_star a r n row i e l) (h.says e s) }

pub stars_none : {a r : List ℕ} → length r ≡ side → StarsFrom a r side
stars_none w = record { wide = w; rows = λ i l h. absurd (omega arith) }

pub stars_one : {a r : List ℕ} {n row : ℕ} → 0 < n → n ≤ side → StarsFrom a r n → RowOf (StarAt a r (n - 1)) row → StarsFrom a (set r (n - 1) row) (n - 1)
stars_one {a} {r} {n} {row} pos small h here =
    let in-range : n - 1 < length r = omega (arith, h.wide) in
    record {
      wide = length-set r (n - 1) row ∙ h.wide;
      rows = λ i l m.
          ⊎_elim
          (λ (q : n - 1 ≡ i). subst (λ (k : ℕ). RowOf (StarAt a (set r (n - 1) row) k) (get_or (set r (n - 1) row) k 0)) q
          (subst⁻¹ (RowOf (StarAt a (set r (n - 1) row) (n - 1))) (get_or-set_same r (n - 1) row 0 in-range) (row_set a r (n - 1) row (n - 1) (omega arith) here)))
          (λ (k : n - 1 < i). let ne : i ≢ n - 1 = omega arith in
          subst⁻¹ (RowOf (StarAt a (set r (n - 1) row) i)) (get_or-set_other r (n - 1) i row 0 ne) (row_set a r (n - 1) row i l (h.rows i (omega arith) m)))
          (eq-or-lt_of_le l);
    }

pub stars_done : {a r : List ℕ} {n : ℕ} → n ≤ 0 → StarsFrom a r n → Filled (StarAt a r) r
unfolding yes
stars_done l h = record { says = λ i e li le. (h.rows i (omega arith) li).says e le }
