-- The characters of a word, one after another. Assumes nothing.
use Prim.Native.Nat.{ℕ, suc, ◌+◌, ◌≤◌, ◌<◌}
use native.Mathlib.Omega.{arith}
use native.Mathlib.Nat.{add-zero}
use native.Mathlib.Numerals.{add-one}
use mathlib.Core.Path.{◌≡◌, sym, ap, subst, ◌∙◌}
use mathlib.Core.List.{List, [], ◌∷◌, ◌++◌}
use lib.ListN.{length, get_or, take, drop, take-append-drop}
use lib.Seq.{take-suc, take_all, drop-cons}
use Rattle.grammar.specs.inner.Reading.{scan}
use Rattle.grammar.specs.inner.Places.{At, Part, Fails, signs}
use Rattle.grammar.proofs.Standing.{over_at, other_sign, no_part, char_part, parts, part_first}

-- a fault after some of the word's characters is a fault of the word
module _ (s : List ℕ) where
  after : (u v : List ℕ) (at m p : ℕ) → Part s at u m → Fails s m (signs v) p → Fails s at (signs (u ++ v)) p
  after [] v at m p x f ms k = let e : m ≡ at = let a = x.ends in omega arith in ap (λ (n : ℕ). scan (drop n s) (signs v ++ ms) k n) (sym e) ∙ f ms k
  after (c ∷ u) v at m p x f ms k = let i = part_first s x in over_at s i.0 (signs (u ++ v) ++ ms) k ∙ after u v (at + 1) m p i.1 f ms (k tt)

  first_other : (c : ℕ) (v : List ℕ) (at : ℕ) → (At s at c → ⊥) → Fails s at (signs (c ∷ v)) at
  first_other c v at x ms k = other_sign s at c x (signs v ++ ms) k

  module _ (w : List ℕ) (at i : ℕ) (x : Part s at (take i w) (at + i)) where
    pub word_stops : i < length w → (At s (at + i) (get_or w i 0) → ⊥) → Fails s at (signs w) (at + i)
    word_stops h n = subst (λ (l : List ℕ). Fails s at (signs l) (at + i)) (ap (λ (t : List ℕ). take i w ++ t) (sym (drop-cons w i 0 h)) ∙ take-append-drop i w) (after (take i w) (get_or w i 0 ∷ drop (suc i) w) at (at + i) (at + i) x (first_other (get_or w i 0) (drop (suc i) w) (at + i) n))

    pub word_on : i < length w → At s (at + i) (get_or w i 0) → Part s at (take (i + 1) w) (at + (i + 1))
    word_on h y =
        let q : at + i + 1 ≡ at + (i + 1) = omega arith in
        subst (λ (l : List ℕ). Part s at l (at + (i + 1))) (sym (take-suc w i 0 h) ∙ ap (λ (k : ℕ). take k w) (sym (add-one i))) (subst (λ (e : ℕ). Part s at (take i w ++ (get_or w i 0 ∷ [])) e) q (parts s (take i w) (get_or w i 0 ∷ []) x (char_part s y)))

    pub word_done : i ≡ length w → Part s at w (at + length w)
    word_done e = subst (λ (n : ℕ). Part s at w (at + n)) e (subst (λ (l : List ℕ). Part s at l (at + i)) (take_all i w (omega arith)) x)

  pub word_begun : (at : ℕ) → at ≤ length s → Part s at [] (at + 0)
  word_begun at h = rw add-zero (no_part s at h)
