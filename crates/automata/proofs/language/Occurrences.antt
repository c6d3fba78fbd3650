-- `[=i..j]`. Assumes nothing.
use Prim.Native.Nat.{ℕ, suc, ◌+◌, ◌≤◌, ◌<◌}
use native.Mathlib.Omega.{arith}
use mathlib.Core.Path.{◌≡◌, refl}
use mathlib.Core.Logic.{◌↔◌}
use mathlib.Core.Bool.{Bool, true, false, not, cond}
use mathlib.Core.List.{List, [], ◌∷◌}
use lib.Dec.{T}
use Rattle.definitions.specs.Definition2.{satisfying, CountedLetters}
use Rattle.automata.specs.Build.{Satisfied, at_first, so_far, OccursStep, OccursFinal, enough, occurs_a}
use Rattle.automata.proofs.language.Lang.{Acc, Edge, Good}

-- the state tells the count
satisfied_lt : (c p j : ℕ) → Satisfied c p → c ≤ j → p < j + 2
satisfied_lt c p j (at_first e d) l = omega arith
satisfied_lt c p j (so_far e) l = omega arith

pub satisfied_once : (c d p : ℕ) → Satisfied c p → Satisfied d p → d ≡ c
satisfied_once c d p (at_first e e') (at_first g g') = omega arith
satisfied_once c d p (at_first e e') (so_far g) = absurd (omega arith)
satisfied_once c d p (so_far e) (at_first g g') = absurd (omega arith)
satisfied_once c d p (so_far e) (so_far g) = omega arith

yes_one : (b : Bool) → T b → ◌≡◌ {A = ℕ} (cond b 1 0) 1
yes_one true t = refl
yes_one false t = absurd t

no_none : (b : Bool) → T (not b) → ◌≡◌ {A = ℕ} (cond b 1 0) 0
no_none true t = absurd t
no_none false t = refl

module _ (i j : ℕ) (f : ℕ → Bool) where
  occurs_edge : (p x q : ℕ) → OccursStep f j p x q → Edge (j + 2) p q
  occurs_edge p x q (OccursStep.stays c a l t e) = let d = satisfied_lt c p j a l in omega arith
  occurs_edge p x q (OccursStep.rises c a l t e) = let d = satisfied_lt c p j a (omega arith) in omega arith

  occurs_fin : (q : ℕ) → OccursFinal i j q → q < j + 2
  occurs_fin q (enough c a l h) = satisfied_lt c q j a h

  pub good_occurs : Good (occurs_a i j f)
  good_occurs = record { pos = omega arith; edge = occurs_edge; fin = occurs_fin }

  out : (w : List ℕ) (c p : ℕ) → Satisfied c p → Acc (occurs_a i j f) p w → (i ≤ c + satisfying f w) × (c + satisfying f w ≤ j)
  out [] c p a (enough d b l k) = let e = satisfied_once c d p a b in omega arith
  out (x ∷ w) c p a (q, OccursStep.stays d b l t e, r) =
      let u = satisfied_once c d p a b in let h = out w d q (so_far e) r in let n = no_none (f x) t in omega arith
  out (x ∷ w) c p a (q, OccursStep.rises d b l t e, r) =
      let u = satisfied_once c d p a b in let h = out w (suc d) q (so_far (omega arith)) r in let n = yes_one (f x) t in omega arith

  back : (w : List ℕ) (c p : ℕ) → Satisfied c p → i ≤ c + satisfying f w → c + satisfying f w ≤ j → Acc (occurs_a i j f) p w
  back [] c p a l k = enough c a (omega arith) (omega arith)
  back (x ∷ w) c p a l k = go (f x) (λ t. t) (λ t. t) (back w)
    where
      go : (b : Bool) → (T b → T (f x)) → (T (not b) → T (not (f x)))
          → ((d q : ℕ) → Satisfied d q → i ≤ d + satisfying f w → d + satisfying f w ≤ j → Acc (occurs_a i j f) q w) → Acc (occurs_a i j f) p (x ∷ w)
      go true y n r = let e = yes_one (f x) (y tt) in (2 + c, OccursStep.rises c a (omega arith) (y tt) refl, r (suc c) (2 + c) (so_far (omega arith)) (omega arith) (omega arith))
      go false y n r = let e = no_none (f x) (n tt) in (1 + c, OccursStep.stays c a (omega arith) (n tt) refl, r c (1 + c) (so_far refl) (omega arith) (omega arith))

  pub occurs_lang : (w : List ℕ) → Acc (occurs_a i j f) 0 w ↔ CountedLetters i j f w
  occurs_lang w = (
    λ a. let h = out w 0 0 (at_first refl refl) a in record { low = omega arith; high = omega arith },
    λ h. let l = h.low in let u = h.high in back w 0 0 (at_first refl refl) (omega arith) (omega arith),
  )
