-- `[*i..j]`. Assumes nothing.
use Prim.Native.Nat.{ℕ, zero, suc, ◌-◌, ◌≤◌, ◌<◌}
use native.Mathlib.Omega.{arith}
use native.Mathlib.Nat.{suc-mul}
use mathlib.Core.Path.{◌≡◌, refl, sym}
use mathlib.Core.Logic.{◌⊎◌, inl, inr, ◌↔◌}
use mathlib.Core.List.{List, [], ◌∷◌, append-nil, cons≢nil}
use Rattle.definitions.specs.Definition2.{CountedParts}
use Rattle.rules.specs.Weight.{row_weight}
use Rattle.definitions.proofs.Maps.{map_parts}
use Rattle.definitions.proofs.PartsInARow.{OnePartMore, none_counted, part_counted, counted_parts, none_at_all}
use Rattle.automata.specs.Auto.{Auto}
use Rattle.automata.specs.Build.{then_a, maybe_a, none_a, last_a, row_a}
use Rattle.automata.proofs.language.Lang.{Acc, Good}
use Rattle.automata.proofs.language.Thens.{good_then, then_lang}

-- where no part is needed, the empty sequence is accepted too, and no other
module _ (i : ℕ) (C : Auto) (gC : Good C) where
  maybe_fin : (q : ℕ) → C.final q ⊎ ((q ≡ 0) × (i ≡ 0)) → q < C.size
  maybe_fin q (inl f) = gC.fin q f
  maybe_fin q (inr e) = omega (arith, gC.pos)

  good_maybe : Good (maybe_a i C)
  good_maybe = record { pos = gC.pos; edge = gC.edge; fin = maybe_fin }

  off_0 : (q : ℕ) → 0 < q → C.final q ⊎ ((q ≡ 0) × (i ≡ 0)) → C.final q
  off_0 q l (inl f) = f
  off_0 q l (inr e) = absurd (omega arith)

  without : (q : ℕ) → 0 < q → (w : List ℕ) → Acc (maybe_a i C) q w → Acc C q w
  without q l [] f = off_0 q l f
  without q l (x ∷ w) (r, s, a) = (r, s, without r (gC.edge q x r s).no0 w a)

  with_it : (q : ℕ) (w : List ℕ) → Acc C q w → Acc (maybe_a i C) q w
  with_it q [] f = inl f
  with_it q (x ∷ w) (r, s, a) = (r, s, with_it r w a)

  maybe_out : (w : List ℕ) → Acc (maybe_a i C) 0 w → ((w ≡ []) × (i ≡ 0)) ⊎ Acc C 0 w
  maybe_out [] (inl f) = inr f
  maybe_out [] (inr e) = inl (refl, e.1)
  maybe_out (x ∷ w) (q, s, a) = inr (q, s, without q (gC.edge 0 x q s).no0 w a)

  maybe_in : (w : List ℕ) → ((w ≡ []) × (i ≡ 0)) ⊎ Acc C 0 w → Acc (maybe_a i C) 0 w
  maybe_in w (inl e) = rw e.0 (inr (refl, e.1))
  maybe_in w (inr a) = with_it 0 w a

module _ (A : Auto) (gA : Good A) where
  good_none : (i : ℕ) → Good (none_a i)
  good_none i = record { pos = omega arith; edge = λ p x q. elim [ ]; fin = λ q e. omega arith }

  good_last : (i : ℕ) → Good (last_a i A)
  good_last i = record { pos = gA.pos; edge = gA.edge; fin = λ q f. gA.fin q f.0 }

  pub good_row : (i j : ℕ) → Good (row_a i j A)
  good_row i zero = good_none i
  good_row i (suc zero) = good_maybe i (last_a i A) (good_last i)
  good_row i (suc (suc j)) = good_maybe i (then_a A (row_a (i - 1) (suc j) A)) (good_then A (row_a (i - 1) (suc j) A) gA (good_row (i - 1) (suc j)))

  pub row_size : (i j : ℕ) → (row_a i j A).size ≡ row_weight j A.size
  row_size i zero = refl
  row_size i (suc zero) = omega arith
  row_size i (suc (suc j)) = omega (arith, row_size (i - 1) (suc j), suc-mul (suc j) A.size)

  -- no copy
  none_lang : (i : ℕ) (w : List ℕ) → Acc (none_a i) 0 w ↔ CountedParts i 0 (Acc A 0) w
  none_lang i [] = (λ a. none_counted (Acc A 0) i 0 [] refl a.1, λ h. (refl, (none_at_all (Acc A 0) i 0 [] h).1))
  none_lang i (x ∷ w) = (λ a. absurd a.1, λ h. absurd (cons≢nil (none_at_all (Acc A 0) i 0 (x ∷ w) h).0))

  -- the last copy: it is the only part
  last_out : (i p : ℕ) (w : List ℕ) → Acc (last_a i A) p w → Acc A p w × (i ≤ 1)
  last_out i p [] f = f
  last_out i p (x ∷ w) (q, s, a) = let h = last_out i q w a in ((q, s, h.0), h.1)

  last_in : (i p : ℕ) (w : List ℕ) → Acc A p w → i ≤ 1 → Acc (last_a i A) p w
  last_in i p [] f l = (f, l)
  last_in i p (x ∷ w) (q, s, a) l = (q, s, last_in i q w a l)

  last_part : (i : ℕ) (w : List ℕ) → Acc (last_a i A) 0 w ↔ OnePartMore (Acc A 0) i 0 w
  last_part i w = (
    λ a. let h = last_out i 0 w a in record { w1 = w; w2 = []; whole = sym (append-nil w); first = h.0; second = none_counted (Acc A 0) (i - 1) 0 [] refl (omega arith) },
    λ h. let n = none_at_all (Acc A 0) (i - 1) 0 h.w2 h.second in last_in i 0 w (rw (h.whole, n.0, append-nil) h.first) (omega arith),
  )

  -- what comes first is C: the one step of the induction
  step : (i j : ℕ) (C : Auto) → Good C → ((w : List ℕ) → Acc C 0 w ↔ OnePartMore (Acc A 0) i j w) → (w : List ℕ) → Acc (maybe_a i C) 0 w ↔ CountedParts i (suc j) (Acc A 0) w
  step i j C gC e w = (λ a. out (maybe_out i C gC w a), λ h. maybe_in i C gC w (back (counted_parts (Acc A 0) i j w h)))
    where
      out : ((w ≡ []) × (i ≡ 0)) ⊎ Acc C 0 w → CountedParts i (suc j) (Acc A 0) w
      out (inl n) = none_counted (Acc A 0) i (suc j) w n.0 n.1
      out (inr a) = part_counted (Acc A 0) i j w ((e w).0 a)

      back : ((w ≡ []) × (i ≡ 0)) ⊎ OnePartMore (Acc A 0) i j w → ((w ≡ []) × (i ≡ 0)) ⊎ Acc C 0 w
      back (inl n) = inl n
      back (inr t) = inr ((e w).1 t)

  pub row_lang : (i j : ℕ) (w : List ℕ) → Acc (row_a i j A) 0 w ↔ CountedParts i j (Acc A 0) w
  row_lang i zero w = none_lang i w
  row_lang i (suc zero) w = step i 0 (last_a i A) (good_last i) (last_part i) w
  row_lang i (suc (suc j)) w =
      step i (suc j) (then_a A (row_a (i - 1) (suc j) A)) (good_then A (row_a (i - 1) (suc j) A) gA (good_row (i - 1) (suc j))) (λ v. through v (row_lang (i - 1) (suc j))) w
    where
      through : (v : List ℕ) → ((u : List ℕ) → Acc (row_a (i - 1) (suc j) A) 0 u ↔ CountedParts (i - 1) (suc j) (Acc A 0) u)
          → Acc (then_a A (row_a (i - 1) (suc j) A)) 0 v ↔ OnePartMore (Acc A 0) i (suc j) v
      through v ih =
          let e = then_lang A (row_a (i - 1) (suc j) A) gA (good_row (i - 1) (suc j)) v in (
            λ a. map_parts (Acc A 0) (Acc A 0) (Acc (row_a (i - 1) (suc j) A) 0) (CountedParts (i - 1) (suc j) (Acc A 0)) (λ u a. a) (λ u a. (ih u).0 a) v (e.0 a),
            λ h. e.1 (map_parts (Acc A 0) (Acc A 0) (CountedParts (i - 1) (suc j) (Acc A 0)) (Acc (row_a (i - 1) (suc j) A) 0) (λ u a. a) (λ u a. (ih u).1 a) v h),
          )
