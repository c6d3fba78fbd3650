-- Pairs from which a final is d states away, and what the backward pass has shown. Assumes nothing.
use Prim.Native.Nat.{ℕ, zero, suc, ◌+◌, ◌≤◌}
use mathlib.Core.Path.{◌≡◌, refl, sym, subst}
use mathlib.Core.Bool.{Bool}
use mathlib.Core.Logic.{◌≢◌}
use mathlib.Core.List.{List, [], ◌∷◌}
use native.Mathlib.Omega.{arith}
use native.Mathlib.Decide.{dec_le}
use lib.Dec.{T}
use lib.ListN.{length}
use Rattle.automata.specs.Table.{Table, Goes}
use Rattle.models.specs.Model.{Model, Walk, spelled}
use Rattle.levels.specs.inner.Passes.{Way, onto, Level, view, Marked, Left}
use Rattle.levels.proofs.Level.{Fair, ends}

-- what is left, as a row of states
pub left_of : (M : Model) (A : Table) (ok : ℕ → Bool) (r : List ℕ) (q f : ℕ) → Walk M ok r → Goes A q (spelled M r) f → T (A.final f) → Left M A ok (length r) q
left_of M A ok [] q f w g h = subst (λ (x : ℕ). T (A.final x)) (sym g) h
left_of M A ok (t ∷ r) q f w g h = (t, g.0, w.0, w.1, g.1, left_of M A (M.next t) r g.0 f w.2 g.2 h)

-- a way to a pair and what is left from it: a way to a final
pub through : (M : Model) (A : Table) (d i : ℕ) {s q : ℕ} → Way M A i s q → Left M A (M.next s) d q → (k : ℕ) → k ≡ i + d
    → (t : ℕ) × (f : ℕ) × Way M A k t f × T (A.final f)
through M A zero i {s} {q} w h k e =
    let z : i ≡ k = omega arith in
    (s, q, subst (λ (x : ℕ). Way M A x s q) z w, h)
through M A (suc d) i w h k e = through M A d (suc i) (onto w h.2 h.3 h.4) h.5 k (omega arith)

-- marks of k levels, where no way to a final is shorter than k
pub record Nearest (M : Model) (A : Table) (k : ℕ) (m : ℕ → ℕ → ℕ) : Type 0 where
  pub levels : Level M A k m
  pub shortest : (i s q : ℕ) → Way M A i s q → T (A.final q) → k ≤ i

-- such are the marks that the forward pass ends with
pub nearest : (M : Model) (A : Table) → Fair M A → (k c : ℕ) (m : List ℕ) → Marked M A k c m → Nearest M A k (view m)
nearest M A fair k c m x = record { levels = x.levels; shortest = λ i s q w f. go i s q w f (dec_le k i) }
  where
    go : (i s q : ℕ) → Way M A i s q → T (A.final q) → Dec (k ≤ i) → k ≤ i
    go i s q w f (yes h) = h
    go i s q w f (no h) =
        let n = ends M A fair w in
        let y : (view m s q ≢ 0) × (view m s q ≤ i) = x.levels.complete w (omega arith) in
        let z : view m s q ≡ k = x.last_only s q (omega (arith, fair.few)) (omega (arith, fair.small)) y.0 f in
        absurd (omega arith)

module _ (M : Model) (A : Table) (fair : Fair M A)
    (k : ℕ) (m : ℕ → ℕ → ℕ) (x : Nearest M A k m) where
  l : Level M A k m
  l = x.levels

  -- on a way of k states to a final every pair is marked by its place
  pub placed : {i s q : ℕ} → Way M A i s q → (d : ℕ) → Left M A (M.next s) d q → k ≡ i + d → m s q ≡ i
  placed {i} {s} {q} w d h e =
      let n = ends M A fair w in
      let c : (m s q ≢ 0) × (m s q ≤ i) = l.complete w (omega arith) in
      let v : Way M A (m s q) s q = l.sound s q (omega arith) (omega arith) c.0 in
      let f = through M A d (m s q) v h (m s q + d) refl in
      let y : k ≤ m s q + d = x.shortest (m s q + d) f.0 f.1 f.2 f.3 in
      omega arith
