-- Definition 2 as a program that decides it, so that examples can be computed. Assumes nothing.
use Prim.Native.Nat.{ℕ, zero, suc, ◌≤◌, ◌<◌}
use native.Mathlib.Omega.{arith}
use mathlib.Core.Path.{◌≡◌, refl, ap}
use mathlib.Core.Logic.{◌⊎◌, inl, inr, ⊎_map}
use mathlib.Core.Bool.{Bool, true, false, ◌&&◌, ◌||◌}
use mathlib.Core.List.{List, [], ◌∷◌, ◌++◌, cons≢nil}
use lib.ListN.{length, length-append}
use lib.Dec.{T, leb, leb→le, le→leb}
use Rattle.bits.specs.Word.{any}
use Rattle.bits.proofs.Truths.{and_T, or_T, any_T}
use Rattle.definitions.specs.declared.kinds.Pair.TheVariants.{Then, Overlap, Either, Within, Both}
use Rattle.definitions.specs.declared.kinds.Repeat.TheVariants.{Star, Plus}
use Rattle.definitions.specs.Definition1.{Rule, letter, empty, two, again, counted, occurs}
use Rattle.definitions.specs.Definition2.{holds, Sat, OneLetter, Parts, Overlaps, Begins, Repeats, none, more, InARow, CountedParts, satisfying}
use Rattle.definitions.proofs.Maps.{map_parts, map_overlaps, map_repeats, map_begins, map_counted}

-- Q is asked of every rest, P of every beginning
abbrev pub parts_b : (List ℕ → Bool) → (List ℕ → Bool) → List ℕ → Bool
parts_b P Q [] = P [] && Q []
parts_b P Q (x ∷ w) = (P [] && Q (x ∷ w)) || parts_b (λ u. P (x ∷ u)) Q w

abbrev pub overlaps_b : (List ℕ → Bool) → (List ℕ → Bool) → List ℕ → Bool
overlaps_b P Q [] = false
overlaps_b P Q (x ∷ w) = (P (x ∷ []) && Q (x ∷ w)) || overlaps_b (λ u. P (x ∷ u)) Q w

-- k is at least the length
abbrev pub repeats_b : (List ℕ → Bool) → ℕ → List ℕ → Bool
repeats_b P zero [] = true
repeats_b P zero (x ∷ w) = false
repeats_b P (suc k) [] = true
repeats_b P (suc k) (x ∷ w) = parts_b (λ u. P (x ∷ u)) (repeats_b P k) w

abbrev pub one_b : (ℕ → Bool) → List ℕ → Bool
one_b f [] = false
one_b f (x ∷ []) = f x
one_b f (x ∷ y ∷ w) = false

abbrev pub empty_b : List ℕ → Bool
empty_b [] = true
empty_b (x ∷ w) = false

abbrev pub row_b : (List ℕ → Bool) → ℕ → List ℕ → Bool
row_b P zero w = empty_b w
row_b P (suc k) w = parts_b P (row_b P k) w

abbrev pub counted_b : ℕ → ℕ → (List ℕ → Bool) → List ℕ → Bool
counted_b i j P w = any (suc j) (λ k. leb i k && row_b P k w)

abbrev pub verdict : Rule → List ℕ → Bool
verdict empty w = empty_b w
verdict (letter f) w = one_b (holds f) w
verdict (two Then a b) w = parts_b (verdict a) (verdict b) w
verdict (two Overlap a b) w = overlaps_b (verdict a) (verdict b) w
verdict (two Either a b) w = verdict a w || verdict b w
verdict (two Within a b) w = (verdict a w && parts_b (verdict b) (λ u. true) w) || (verdict b w && parts_b (verdict a) (λ u. true) w)
verdict (two Both a b) w = verdict a w && verdict b w
verdict (again Star a) w = repeats_b (verdict a) (length w) w
verdict (again Plus a) w = parts_b (verdict a) (λ u. repeats_b (verdict a) (length u) u) w
verdict (counted i j a) w = counted_b i j (verdict a) w
verdict (occurs i j f) w = leb i (satisfying (holds f) w) && leb (satisfying (holds f) w) j

abbrev Ts : (List ℕ → Bool) → List ℕ → Type 0
Ts P w = T (P w)

parts_out : (P Q : List ℕ → Bool) (w : List ℕ) → T (parts_b P Q w) → Parts (Ts P) (Ts Q) w
parts_out P Q [] t = let h = (and_T (P []) (Q [])).0 t in record { w1 = []; w2 = []; whole = refl; first = h.0; second = h.1 }
parts_out P Q (x ∷ w) t = go ((or_T (P [] && Q (x ∷ w)) (parts_b (λ u. P (x ∷ u)) Q w)).0 t) (parts_out (λ u. P (x ∷ u)) Q w)
  where
    go : T (P [] && Q (x ∷ w)) ⊎ T (parts_b (λ u. P (x ∷ u)) Q w) → (T (parts_b (λ u. P (x ∷ u)) Q w) → Parts (λ u. T (P (x ∷ u))) (Ts Q) w) → Parts (Ts P) (Ts Q) (x ∷ w)
    go (inl s) r = let h = (and_T (P []) (Q (x ∷ w))).0 s in record { w1 = []; w2 = x ∷ w; whole = refl; first = h.0; second = h.1 }
    go (inr s) r = let h = r s in record { w1 = x ∷ h.w1; w2 = h.w2; whole = ap (λ t. x ∷ t) h.whole; first = h.first; second = h.second }

parts_in : (P Q : List ℕ → Bool) (u v : List ℕ) → T (P u) → T (Q v) → T (parts_b P Q (u ++ v))
parts_in P Q [] [] a b = (and_T (P []) (Q [])).1 (a, b)
parts_in P Q [] (x ∷ v) a b = (or_T (P [] && Q (x ∷ v)) (parts_b (λ u. P (x ∷ u)) Q v)).1 (inl ((and_T (P []) (Q (x ∷ v))).1 (a, b)))
parts_in P Q (x ∷ u) v a b = (or_T (P [] && Q (x ∷ (u ++ v))) (parts_b (λ u. P (x ∷ u)) Q (u ++ v))).1 (inr (parts_in (λ u. P (x ∷ u)) Q u v a b))

overlaps_out : (P Q : List ℕ → Bool) (w : List ℕ) → T (overlaps_b P Q w) → Overlaps (Ts P) (Ts Q) w
overlaps_out P Q [] t = absurd t
overlaps_out P Q (x ∷ w) t = go ((or_T (P (x ∷ []) && Q (x ∷ w)) (overlaps_b (λ u. P (x ∷ u)) Q w)).0 t) (overlaps_out (λ u. P (x ∷ u)) Q w)
  where
    go : T (P (x ∷ []) && Q (x ∷ w)) ⊎ T (overlaps_b (λ u. P (x ∷ u)) Q w) → (T (overlaps_b (λ u. P (x ∷ u)) Q w) → Overlaps (λ u. T (P (x ∷ u))) (Ts Q) w) → Overlaps (Ts P) (Ts Q) (x ∷ w)
    go (inl s) r = let h = (and_T (P (x ∷ [])) (Q (x ∷ w))).0 s in record { w1 = []; x = x; w2 = w; whole = refl; first = h.0; second = h.1 }
    go (inr s) r = let h = r s in record { w1 = x ∷ h.w1; x = h.x; w2 = h.w2; whole = ap (λ t. x ∷ t) h.whole; first = h.first; second = h.second }

overlaps_in : (P Q : List ℕ → Bool) (u : List ℕ) (x : ℕ) (v : List ℕ) → T (P (u ++ (x ∷ []))) → T (Q (x ∷ v)) → T (overlaps_b P Q (u ++ (x ∷ v)))
overlaps_in P Q [] x v a b = (or_T (P (x ∷ []) && Q (x ∷ v)) (overlaps_b (λ u. P (x ∷ u)) Q v)).1 (inl ((and_T (P (x ∷ [])) (Q (x ∷ v))).1 (a, b)))
overlaps_in P Q (y ∷ u) x v a b = (or_T (P (y ∷ []) && Q (y ∷ (u ++ (x ∷ v)))) (overlaps_b (λ u. P (y ∷ u)) Q (u ++ (x ∷ v)))).1 (inr (overlaps_in (λ u. P (y ∷ u)) Q u x v a b))

repeats_out : (P : List ℕ → Bool) (k : ℕ) (w : List ℕ) → T (repeats_b P k w) → Repeats (Ts P) w
repeats_out P zero [] t = none
repeats_out P zero (x ∷ w) t = absurd t
repeats_out P (suc k) [] t = none
repeats_out P (suc k) (x ∷ w) t =
    let h = parts_out (λ u. P (x ∷ u)) (repeats_b P k) w t in
    more (x ∷ h.w1) h.w2 (ap (λ t. x ∷ t) h.whole) cons≢nil h.first (repeats_out P k h.w2 h.second)

repeats_in : (P : List ℕ → Bool) (k : ℕ) (w : List ℕ) → length w ≤ k → Repeats (Ts P) w → T (repeats_b P k w)
repeats_in P zero w l none = tt
repeats_in P (suc k) w l none = tt
repeats_in P k w l (more [] v e n a r) = absurd (n refl)
repeats_in P zero w l (more (x ∷ u) v e n a r) = absurd (omega (arith, ap length e))
repeats_in P (suc k) w l (more (x ∷ u) v e n a r) =
    rw e (parts_in (λ u. P (x ∷ u)) (repeats_b P k) u v a (repeats_in P k v (omega (arith, ap length e, length-append u v)) r))

one_out : (f : ℕ → Bool) (w : List ℕ) → T (one_b f w) → OneLetter f w
one_out f [] t = absurd t
one_out f (x ∷ []) t = record { x = x; whole = refl; fits = t }
one_out f (x ∷ y ∷ w) t = absurd t

empty_out : (w : List ℕ) → T (empty_b w) → w ≡ []
empty_out [] t = refl
empty_out (x ∷ w) t = absurd t

begins_out : (P : List ℕ → Bool) (w : List ℕ) → T (parts_b P (λ u. true) w) → Begins (Ts P) w
begins_out P w t = let h = parts_out P (λ u. true) w t in record { w1 = h.w1; w2 = h.w2; whole = h.whole; first = h.first }

begins_in : (P : List ℕ → Bool) (w : List ℕ) → Begins (Ts P) w → T (parts_b P (λ u. true) w)
begins_in P w h = rw h.whole (parts_in P (λ u. true) h.w1 h.w2 h.first tt)

row_out : (P : List ℕ → Bool) (k : ℕ) (w : List ℕ) → T (row_b P k w) → InARow (Ts P) k w
row_out P zero w t = empty_out w t
row_out P (suc k) w t = map_parts (Ts P) (Ts P) (Ts (row_b P k)) (InARow (Ts P) k) (λ u t. t) (row_out P k) w (parts_out P (row_b P k) w t)

row_in : (P : List ℕ → Bool) (k : ℕ) (w : List ℕ) → InARow (Ts P) k w → T (row_b P k w)
row_in P zero w h = rw h tt
row_in P (suc k) w h = rw h.whole (parts_in P (row_b P k) h.w1 h.w2 h.first (row_in P k h.w2 h.second))

module _ (i j : ℕ) where
  counted_out : (P : List ℕ → Bool) (w : List ℕ) → T (counted_b i j P w) → CountedParts i j (Ts P) w
  counted_out P w t =
      let h = (any_T (suc j) (λ k. leb i k && row_b P k w)).0 t in
      let b = (and_T (leb i h.0) (row_b P h.0 w)).0 h.2 in
      let l = h.1 in
      record { k = h.0; low = leb→le i h.0 b.0; high = omega arith; parts = row_out P h.0 w b.1 }

  counted_in : (P : List ℕ → Bool) (w : List ℕ) → CountedParts i j (Ts P) w → T (counted_b i j P w)
  counted_in P w h =
      let l = h.high in
      let k : h.k < suc j = omega arith in
      (any_T (suc j) (λ k. leb i k && row_b P k w)).1 (h.k, k, (and_T (leb i h.k) (row_b P h.k w)).1 (le→leb i h.k h.low, row_in P h.k w h.parts))

  letters_out : (n : ℕ) → T (leb i n && leb n j) → (i ≤ n) × (n ≤ j)
  letters_out n t = let b = (and_T (leb i n) (leb n j)).0 t in (leb→le i n b.0, leb→le n j b.1)

  letters_in : (n : ℕ) → i ≤ n → n ≤ j → T (leb i n && leb n j)
  letters_in n l h = (and_T (leb i n) (leb n j)).1 (le→leb i n l, le→leb n j h)

-- verdict decides Sat
pub verdict_sat : (r : Rule) (w : List ℕ) → T (verdict r w) → Sat r w
unfolding Sat
verdict_sat empty w t = empty_out w t
verdict_sat (letter f) w t = one_out (holds f) w t
verdict_sat (two Then a b) w t = map_parts (Ts (verdict a)) (Sat a) (Ts (verdict b)) (Sat b) (verdict_sat a) (verdict_sat b) w (parts_out (verdict a) (verdict b) w t)
verdict_sat (two Overlap a b) w t = map_overlaps (Ts (verdict a)) (Sat a) (Ts (verdict b)) (Sat b) (verdict_sat a) (verdict_sat b) w (overlaps_out (verdict a) (verdict b) w t)
verdict_sat (two Either a b) w t = ⊎_map (verdict_sat a w) (verdict_sat b w) ((or_T (verdict a w) (verdict b w)).0 t)
verdict_sat (two Within a b) w t = ⊎_map
    (λ s. let h = (and_T (verdict a w) (parts_b (verdict b) (λ u. true) w)).0 s in (verdict_sat a w h.0, map_begins (Ts (verdict b)) (Sat b) (verdict_sat b) w (begins_out (verdict b) w h.1)))
    (λ s. let h = (and_T (verdict b w) (parts_b (verdict a) (λ u. true) w)).0 s in (verdict_sat b w h.0, map_begins (Ts (verdict a)) (Sat a) (verdict_sat a) w (begins_out (verdict a) w h.1)))
    ((or_T (verdict a w && parts_b (verdict b) (λ u. true) w) (verdict b w && parts_b (verdict a) (λ u. true) w)).0 t)
verdict_sat (two Both a b) w t = let h = (and_T (verdict a w) (verdict b w)).0 t in (verdict_sat a w h.0, verdict_sat b w h.1)
verdict_sat (again Star a) w t = map_repeats (Ts (verdict a)) (Sat a) (verdict_sat a) w (repeats_out (verdict a) (length w) w t)
verdict_sat (again Plus a) w t =
    map_parts (Ts (verdict a)) (Sat a) (λ u. T (repeats_b (verdict a) (length u) u)) (Repeats (Sat a)) (verdict_sat a) (λ u s. map_repeats (Ts (verdict a)) (Sat a) (verdict_sat a) u (repeats_out (verdict a) (length u) u s)) w
    (parts_out (verdict a) (λ u. repeats_b (verdict a) (length u) u) w t)
verdict_sat (counted i j a) w t = map_counted (Ts (verdict a)) (Sat a) (verdict_sat a) i j w (counted_out i j (verdict a) w t)
verdict_sat (occurs i j f) w t = let h = letters_out i j (satisfying (holds f) w) t in record { low = h.0; high = h.1 }

pub sat_verdict : (r : Rule) (w : List ℕ) → Sat r w → T (verdict r w)
unfolding Sat
sat_verdict empty w e = rw e tt
sat_verdict (letter f) w h = rw h.whole h.fits
sat_verdict (two Then a b) w h = rw h.whole (parts_in (verdict a) (verdict b) h.w1 h.w2 (sat_verdict a h.w1 h.first) (sat_verdict b h.w2 h.second))
sat_verdict (two Overlap a b) w h = rw h.whole (overlaps_in (verdict a) (verdict b) h.w1 h.x h.w2 (sat_verdict a (h.w1 ++ (h.x ∷ [])) h.first) (sat_verdict b (h.x ∷ h.w2) h.second))
sat_verdict (two Either a b) w h = (or_T (verdict a w) (verdict b w)).1 (⊎_map (sat_verdict a w) (sat_verdict b w) h)
sat_verdict (two Within a b) w h = (or_T (verdict a w && parts_b (verdict b) (λ u. true) w) (verdict b w && parts_b (verdict a) (λ u. true) w)).1 (⊎_map
    (λ s. (and_T (verdict a w) (parts_b (verdict b) (λ u. true) w)).1 (sat_verdict a w s.0, begins_in (verdict b) w (map_begins (Sat b) (Ts (verdict b)) (sat_verdict b) w s.1)))
    (λ s. (and_T (verdict b w) (parts_b (verdict a) (λ u. true) w)).1 (sat_verdict b w s.0, begins_in (verdict a) w (map_begins (Sat a) (Ts (verdict a)) (sat_verdict a) w s.1))) h)
sat_verdict (two Both a b) w h = (and_T (verdict a w) (verdict b w)).1 (sat_verdict a w h.0, sat_verdict b w h.1)
sat_verdict (again Star a) w h = repeats_in (verdict a) (length w) w (omega arith) (map_repeats (Sat a) (Ts (verdict a)) (sat_verdict a) w h)
sat_verdict (again Plus a) w h = rw h.whole (parts_in (verdict a) (λ u. repeats_b (verdict a) (length u) u) h.w1 h.w2 (sat_verdict a h.w1 h.first)
    (repeats_in (verdict a) (length h.w2) h.w2 (omega arith) (map_repeats (Sat a) (Ts (verdict a)) (sat_verdict a) h.w2 h.second)))
sat_verdict (counted i j a) w h = counted_in i j (verdict a) w (map_counted (Sat a) (Ts (verdict a)) (sat_verdict a) i j w h)
sat_verdict (occurs i j f) w h = letters_in i j (satisfying (holds f) w) h.low h.high
