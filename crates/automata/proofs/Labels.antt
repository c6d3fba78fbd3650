-- What the builder's word operations mean, letter by letter. Assumes nothing.
use Prim.Native.Nat.{ℕ, zero, suc, ◌+◌, ◌-◌, ◌/◌, ◌%◌, ◌<◌, ◌≤◌}
use native.Mathlib.Omega.{arith}
use native.Mathlib.Decide.{ℕ_discrete}
use mathlib.Core.Path.{◌≡◌}
use mathlib.Core.Logic.{◌⊎◌, inl, inr, ⊎_map, ◌↔◌}
use mathlib.Core.Bool.{Bool, true, false, cond}
use mathlib.Core.List.{List}
use lib.Bits.{bit_and, bit_or}
use lib.Dec.{T}
use borrow.Author.Tests.{lt-ltb, le-ltb}
use Rattle.bits.specs.Word.{bit}
use Rattle.bits.proofs.Laws.{bit_of_or, bit_of_and, bit_zero}
use Rattle.automata.specs.Table.{cell}
use Rattle.automata.specs.inner.Cells.{linked, overlapped, chosen, paired}
use Rattle.bits.proofs.Truths.{and_T, or_T}

-- the letter x is in the word w
abbrev pub Has : ℕ → ℕ → Type 0
Has w x = T (bit w x)

pub has_none : (x : ℕ) → Has 0 x → ⊥
has_none x t = rw (bit_zero x) at t

pub has_or : (v w x : ℕ) → Has (bit_or v w) x ↔ (Has v x ⊎ Has w x)
has_or v w x = rw (bit_of_or v w x) (or_T (bit v x) (bit w x))

pub has_and : (v w x : ℕ) → Has (bit_and v w) x ↔ (Has v x × Has w x)
has_and v w x = rw (bit_of_and v w x) (and_T (bit v x) (bit w x))

-- w is added where c holds
pub has_cond : (c : Bool) (v w x : ℕ) → Has (cond c (bit_or v w) v) x ↔ (Has v x ⊎ (T c × Has w x))
has_cond true v w x = let e = has_or v w x in (λ t. ⊎_map (λ h. h) (λ h. (tt, h)) (e.0 t), λ h. e.1 (⊎_map (λ k. k) (λ k. k.1) h))
has_cond false v w x = (inl, elim [ inl h ↦ h | inr h ↦ absurd h.0 ])

module _ (t : List ℕ) where
  -- a final row gets what leaves src
  pub has_linked : (src f p q x : ℕ) → Has (linked t src f p q) x ↔ (Has (cell t p q) x ⊎ (T (bit f p) × Has (cell t src q) x))
  unfolding linked
  has_linked src f p q x = has_cond (bit f p) (cell t p q) (cell t src q) x

  -- by way of a final, from p to it and from src to q
  pub record Way (f a src k p q x : ℕ) : Type 0 where
    pub by : ℕ
    pub inside : by < k
    pub ends : T (bit f (a + by))
    pub first : Has (cell t p (a + by)) x
    pub second : Has (cell t src q) x

  pub overlapped_out : (f a src k p q x : ℕ) → Has (overlapped t f a src k p q) x → Has (cell t p q) x ⊎ Way f a src k p q x
  unfolding overlapped
  overlapped_out f a src zero p q x h = inl h
  overlapped_out f a src (suc k) p q x h =
      go ((has_cond (bit f (a + k)) (overlapped t f a src k p q) (bit_and (cell t p (a + k)) (cell t src q)) x).0 h) (overlapped_out f a src k p q x)
    where
      wider : Has (cell t p q) x ⊎ Way f a src k p q x → Has (cell t p q) x ⊎ Way f a src (suc k) p q x
      wider (inl h) = inl h
      wider (inr h) = let l = h.inside in inr (record { by = h.by; inside = omega arith; ends = h.ends; first = h.first; second = h.second })

      go : Has (overlapped t f a src k p q) x ⊎ (T (bit f (a + k)) × Has (bit_and (cell t p (a + k)) (cell t src q)) x)
          → (Has (overlapped t f a src k p q) x → Has (cell t p q) x ⊎ Way f a src k p q x) → Has (cell t p q) x ⊎ Way f a src (suc k) p q x
      go (inl h) ih = wider (ih h)
      go (inr h) ih =
          let e = (has_and (cell t p (a + k)) (cell t src q) x).0 h.1 in
          inr (record { by = k; inside = omega arith; ends = h.0; first = e.0; second = e.1 })

  pub overlapped_in : (f a src k p q x : ℕ) → Has (cell t p q) x ⊎ Way f a src k p q x → Has (overlapped t f a src k p q) x
  unfolding overlapped
  overlapped_in f a src zero p q x (inl h) = h
  overlapped_in f a src zero p q x (inr h) = let l = h.inside in absurd (omega arith)
  overlapped_in f a src (suc k) p q x h =
      (has_cond (bit f (a + k)) (overlapped t f a src k p q) (bit_and (cell t p (a + k)) (cell t src q)) x).1 (go h (overlapped_in f a src k p q x))
    where
      way : (w : Way f a src (suc k) p q x) → Dec (w.by ≡ k) → (Has (cell t p q) x ⊎ Way f a src k p q x → Has (overlapped t f a src k p q) x)
          → Has (overlapped t f a src k p q) x ⊎ (T (bit f (a + k)) × Has (bit_and (cell t p (a + k)) (cell t src q)) x)
      way w (yes e) ih = inr (rw e at w.ends, (has_and (cell t p (a + k)) (cell t src q) x).1 (rw e at w.first, w.second))
      way w (no n) ih =
          let l = w.inside in inl (ih (inr (record { by = w.by; inside = omega arith; ends = w.ends; first = w.first; second = w.second })))

      go : Has (cell t p q) x ⊎ Way f a src (suc k) p q x → (Has (cell t p q) x ⊎ Way f a src k p q x → Has (overlapped t f a src k p q) x)
          → Has (overlapped t f a src k p q) x ⊎ (T (bit f (a + k)) × Has (bit_and (cell t p (a + k)) (cell t src q)) x)
      go (inl h) ih = inl (ih (inl h))
      go (inr w) ih = way w (ℕ_discrete w.by k) ih

  -- the new first state gets what leaves base + 1 left of b, and what leaves b from b on
  pub chosen_left : (base b p q x : ℕ) → q < b → Has (chosen t base b p q) x ↔ (Has (cell t p q) x ⊎ Has (cell t (base + 1) q) x)
  unfolding chosen
  chosen_left base b p q x l = rw (lt-ltb q b l) (has_or (cell t p q) (cell t (base + 1) q) x)

  pub chosen_right : (base b p q x : ℕ) → b ≤ q → Has (chosen t base b p q) x ↔ (Has (cell t p q) x ⊎ Has (cell t b q) x)
  unfolding chosen
  chosen_right base b p q x l = rw (le-ltb q b l) (has_or (cell t p q) (cell t b q) x)

  -- a pair's label
  pub has_paired : (base n second p q x : ℕ)
      → Has (paired t base n second p q) x
      ↔ (Has (cell t ((p - base) / n) ((q - base) / n)) x × Has (cell t (second + (p - base) % n) (second + (q - base) % n)) x)
  unfolding paired
  has_paired base n second p q x = has_and (cell t ((p - base) / n) ((q - base) / n)) (cell t (second + (p - base) % n) (second + (q - base) % n)) x
