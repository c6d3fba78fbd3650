-- What the code tests when it picks a state is that the state can be next. Assumes nothing.
use Prim.Native.Nat.{ℕ, suc, ◌<◌}
use mathlib.Core.Path.{◌≡◌, refl, subst, ◌∙◌}
use mathlib.Core.Bool.{Bool}
use mathlib.Core.Logic.{◌≢◌, ◌↔◌}
use mathlib.Core.List.{List, [], ◌∷◌, ◌++◌}
use native.Mathlib.Omega.{arith}
use lib.Dec.{T}
use lib.ListN.{length, length-append}
use Rattle.automata.specs.Table.{Table, Goes}
use Rattle.models.specs.Model.{Model, Walk, NonEmpty, last, spelled}
use Rattle.levels.specs.inner.Passes.{Way, Left, Useful}
use Rattle.levels.proofs.Way.{way_of_run, goes_append, last_append}
use Rattle.levels.proofs.Level.{Fair, ends}
use Rattle.levels.proofs.Useful.{Nearest, placed}
use Rattle.levels.proofs.Pick.{Chosen, Can, walk_more}

full : (r : List ℕ) (t : ℕ) → NonEmpty (r ++ t ∷ [])
full [] t = tt
full (s ∷ r) t = tt

module _ (M : Model) (A : Table) (fair : Fair M A)
    (k : ℕ) (m : ℕ → ℕ → ℕ) (near : Nearest M A k m)
    (u : ℕ → ℕ → ℕ) (useful : Useful M A k m 1 u)
    (d : ℕ) (r : List ℕ) (ok : ℕ → Bool) (Q : ℕ → Type 0) (c : Chosen M A k (suc d) r ok Q) where
  -- the pair that a state leads to after r is reached by a way
  reached : (t q p : ℕ) → t < M.states → T (ok t) → Q q → T (A.edge q (M.letter t) p) → Way M A (suc (length r)) t p
  reached t q p h o x e =
      let w : Walk M M.initial (r ++ t ∷ []) = walk_more M A M.initial r (t ∷ []) c.walk (h, rw c.next_ok o, tt) in
      let g : Goes A 0 (spelled M (r ++ t ∷ [])) p = goes_append M A 0 q p r (t ∷ []) (c.sound q x) (p, e, refl) in
      let y = way_of_run M A (r ++ t ∷ []) (full r t, w) p g in
      let z : length (r ++ t ∷ []) ≡ suc (length r) = length-append r (t ∷ []) ∙ omega arith in
      subst (λ (s : ℕ). Way M A (suc (length r)) s p) (last_append 0 r (t ∷ [])) (subst (λ (i : ℕ). Way M A i (last (r ++ t ∷ [])) p) z y)

  -- what the code tests of (t, p) is that a final is d states further on
  pub tested : (t q p : ℕ) → t < M.states → T (ok t) → Q q → T (A.edge q (M.letter t) p)
      → ((m t p ≡ suc (length r)) × (u t p ≢ 0)) ↔ Left M A (M.next t) d p
  unfolding Useful
  tested t q p h o x e =
      let w = reached t q p h o x e in
      let n = ends M A fair w in (
        λ y. (useful t p (omega arith) (omega arith) (omega (arith, y.0)) d (omega (arith, y.0, c.size))).0 y.1,
        λ y. let z : m t p ≡ suc (length r) = placed M A fair k m near w d y (omega (arith, c.size)) in
            (z, (useful t p (omega arith) (omega arith) (omega arith) d (omega (arith, c.size))).1 y),
      )

  -- so a state can be next exactly if it passes for some p
  pub can_of : (t q p : ℕ) → t < M.states → T (ok t) → Q q → T (A.edge q (M.letter t) p) → m t p ≡ suc (length r) → u t p ≢ 0 → Can M A ok Q d t
  can_of t q p h o x e a b = record { state = h; allowed = o; old = q; new = p; held = x; reads = e; on = (tested t q p h o x e).0 (a, b) }

  pub of_can : (t : ℕ) (y : Can M A ok Q d t) → (m t y.new ≡ suc (length r)) × (u t y.new ≢ 0)
  of_can t y = (tested t y.old y.new y.state y.allowed y.held y.reads).1 y.on
