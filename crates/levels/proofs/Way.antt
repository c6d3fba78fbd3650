-- Ways through the pairs, grown at the end, against runs. Assumes nothing.
use Prim.Native.Nat.{ℕ, suc, ◌+◌, ◌<◌}
use mathlib.Core.Path.{◌≡◌, refl, sym, subst}
use mathlib.Core.List.{List, [], ◌∷◌, ◌++◌}
use native.Mathlib.Omega.{arith}
use lib.Dec.{T}
use lib.ListN.{length, length-append}
use Rattle.automata.specs.Table.{Table, Goes}
use Rattle.models.specs.Model.{Model, Walk, Run, last_from, last, spelled}
use Rattle.levels.specs.Right.{Reached}
use Rattle.levels.specs.inner.Passes.{Way, start, onto}

pub last_append : (s : ℕ) (r u : List ℕ) → last_from s (r ++ u) ≡ last_from (last_from s r) u
last_append s [] u = refl
last_append s (t ∷ r) u = last_append t r u

module _ (M : Model) (A : Table) where
  pub extend : {k s q m : ℕ} (r : List ℕ) → Way M A k s q → Walk M (M.next s) r → Goes A q (spelled M r) m → (n : ℕ) → n ≡ k + length r → Way M A n (last_from s r) m
  extend {k} {s} {q} {m} [] w a g n e =
      let h : k ≡ n = omega arith in
      subst (λ (x : ℕ). Way M A x s m) h (subst (λ (x : ℕ). Way M A k s x) g w)
  extend {k = k} {s = s} {q = q} {m = m} (t ∷ r) w a g n e = extend {k = suc k} r (onto w a.0 a.1 g.1) a.2 g.2 n (omega arith)

  pub way_of_run : (r : List ℕ) → Run M r → (q : ℕ) → Goes A 0 (spelled M r) q → Way M A (length r) (last r) q
  way_of_run [] a q g = absurd a.0
  way_of_run (s ∷ r) a q g = extend r (start a.1.0 a.1.1 g.1) a.1.2 g.2 (length (s ∷ r)) (omega arith)

  pub walk_append : (s : ℕ) (r u : List ℕ) → Walk M (M.next s) r → Walk M (M.next (last_from s r)) u → Walk M (M.next s) (r ++ u)
  walk_append s [] u a b = b
  walk_append s (t ∷ r) u a b = (a.0, a.1, walk_append t r u a.2 b)

  pub goes_append : (p q m : ℕ) (r u : List ℕ) → Goes A p (spelled M r) q → Goes A q (spelled M u) m → Goes A p (spelled M (r ++ u)) m
  goes_append p q m [] u a b = subst (λ (x : ℕ). Goes A x (spelled M u) m) (sym a) b
  goes_append p q m (t ∷ r) u a b = (a.0, a.1, goes_append a.0 q m r u a.2 b)

  pub run_append : (r u : List ℕ) → Run M r → Walk M (M.next (last r)) u → Run M (r ++ u)
  run_append [] u a b = absurd a.0
  run_append (s ∷ r) u a b = (tt, (a.1.0, a.1.1, walk_append s r u a.1.2 b))

  longer : {k s q t m : ℕ} → Reached Run M A (λ n. n ≡ k) s q → t < M.states → T (M.next s t) → T (A.edge q (M.letter t) m) → Reached Run M A (λ n. n ≡ suc k) t m
  longer {k} {s} {q} {t} {m} x a b c =
      record {
        run = x.run ++ t ∷ [];
        is_run = run_append x.run (t ∷ []) x.is_run (a, rw x.ends b, tt);
        inside = rw (length-append, x.inside) (omega arith);
        ends = last_append 0 x.run (t ∷ []);
        goes = goes_append 0 q m x.run (t ∷ []) x.goes (m, c, refl);
      }

  -- the run of length k that a way stands for
  pub run_of_way : {k s q : ℕ} → Way M A k s q → Reached Run M A (λ n. n ≡ k) s q
  run_of_way (start {s = s} {q = q} a b c) = record { run = s ∷ []; is_run = (tt, (a, b, tt)); inside = refl; ends = refl; goes = (q, c, refl) }
  run_of_way (onto w a b c) = longer (run_of_way w) a b c
