-- Laws of `scan`: a step of it at a place of the bytes, the faults, and that it passes over what stands spelled.
-- Assumes nothing.
use Prim.Native.Nat.{ℕ, ◌+◌, ◌<◌, ◌≤◌}
use native.Mathlib.Numerals.{add-one}
use native.Mathlib.Omega.{arith}
use mathlib.Core.Path.{◌≡◌, ap, ◌∙◌}
use mathlib.Core.Bool.{Bool}
use mathlib.Core.List.{List, [], ◌∷◌}
use lib.ListN.{length, get_or, drop, drop_of_length-le}
use lib.Seq.{drop-cons}
use borrow.Author.Tests.{le-leb, lt-leb, eq-eqb, ne_eqb}
use Rattle.definitions.specs.Definition1.{Formula, prop, neg, join}
use Rattle.systems.specs.declared.kinds.SystemKind.{SystemKind}
use Rattle.systems.specs.declared.kinds.SystemKind.TheVariants.{Next}
use Rattle.systems.specs.declared.Refusal.{Refusal}
use Rattle.systems.specs.declared.Refusal.TheVariants.{Ended, NoProposition}
use Rattle.systems.specs.Kinds.{kind_of}
use Rattle.systems.specs.Reading.{last_variable, variable_count, Outcome, fault, Need, mark, formula, body, Rest, scan, misplaced, take_next, take_formula}
use Rattle.systems.specs.inner.Places.{Here, BodyHere, FormulaAt, a_prop, a_next, a_yea, a_nay, a_neg, a_join}
use Rattle.systems.specs.inner.Walks.{shown, Fails, MarkHere}

module _ (s : List ℕ) where
  -- a byte is there
  byte : (at : ℕ) → at < length s → drop at s ≡ get_or s at 0 ∷ drop (at + 1) s
  byte at h = rw (add-one, drop-cons s at 0)

  pub ended : (at : ℕ) (n : Need) → length s ≤ at → Fails s at n (Ended at)
  ended at n h ns k = ap (λ (l : List ℕ). scan l (n ∷ ns) k at) (drop_of_length-le s h)

  pub left_over : (at : ℕ) (o : Outcome) → at < length s → scan (drop at s) [] o at ≡ fault 6 at
  left_over at o h = ap (λ (l : List ℕ). scan l [] o at) (byte at h)

  pub whole : (at : ℕ) (o : Outcome) → length s ≤ at → scan (drop at s) [] o at ≡ o
  whole at o h = ap (λ (l : List ℕ). scan l [] o at) (drop_of_length-le s h)

  -- a mark
  pub over_mark : {m at e : ℕ} → MarkHere s m at e → (ns : List Need) (k : Unit {0} → Rest ns) → scan (drop at s) (mark m ∷ ns) k at ≡ scan (drop e s) ns (k tt) e
  over_mark {m} {at} {e} h ns k = ap (λ (l : List ℕ). scan l (mark m ∷ ns) k at) (byte at h.inside) ∙ rw (eq-eqb _ _ h.byte, h.ends)

  pub no_mark : (m at : ℕ) (x : Refusal) → at < length s → (get_or s at 0 ≡ m → ⊥) → shown x ≡ misplaced (kind_of (get_or s at 0)) at → Fails s at (mark m) x
  no_mark m at x h n e ns k = ap (λ (l : List ℕ). scan l (mark m ∷ ns) k at) (byte at h) ∙ rw (ne_eqb _ _ n, e)

  -- a byte of a known kind is there
  pub seen_formula : {at : ℕ} {κ : SystemKind} → Here s at κ → (next : Bool) (ns : List Need) (k : Formula → Rest ns) → scan (drop at s) (formula next ∷ ns) k at ≡ take_formula κ next (scan (drop (at + 1) s)) ns k at
  seen_formula {at} {κ} h next ns k = ap (λ (l : List ℕ). scan l (formula next ∷ ns) k at) (byte at h.inside) ∙ ap (λ (q : SystemKind). take_formula q next (scan (drop (at + 1) s)) ns k at) h.says

  pub seen_next : {at : ℕ} → Here s at Next → {next : Bool} {b : Bool} → next ≡ b → (ns : List Need) (k : Formula → Rest ns) → scan (drop at s) (formula next ∷ ns) k at ≡ take_next b (scan (drop (at + 1) s)) ns k at
  seen_next {at} h {next} {b} e ns k = seen_formula h next ns k ∙ ap (λ (q : Bool). take_next q (scan (drop (at + 1) s)) ns k at) e

  -- a body byte is there
  pub over_body : {at i e : ℕ} → BodyHere s at i e → (ns : List Need) (k : ℕ → Rest ns) → scan (drop at s) (body ∷ ns) k at ≡ scan (drop e s) ns (k i) e
  over_body {at} {i} {e} h ns k =
      let q = h.byte in
      let l : get_or s at 0 ≤ last_variable = rw q h.small in
      ap (λ (l : List ℕ). scan l (body ∷ ns) k at) (byte at h.inside) ∙ rw (le-leb _ _ l, q, h.ends)

  pub bad_body : (at : ℕ) → at < length s → last_variable < get_or s at 0 → Fails s at body (NoProposition at)
  bad_body at h l ns k = ap (λ (l : List ℕ). scan l (body ∷ ns) k at) (byte at h) ∙ rw (lt-leb _ _ l)

  -- what stands spelled is passed over
  pub over_formula : {next : Bool} {at e : ℕ} {f : Formula} → FormulaAt s next at f e → (ns : List Need) (k : Formula → Rest ns) → scan (drop at s) (formula next ∷ ns) k at ≡ scan (drop e s) ns (k f) e
  over_formula {next} (a_prop h b) ns k = seen_formula h next ns k ∙ over_body b ns (λ j. k (prop j))
  over_formula {next} (a_next t h b) ns k = seen_next h t ns k ∙ over_body b ns (λ j. k (prop (variable_count + j)))
  over_formula {next} (a_yea h q) ns k = seen_formula h next ns k ∙ rw q
  over_formula {next} (a_nay h q) ns k = seen_formula h next ns k ∙ rw q
  over_formula {next} (a_neg h r) ns k = seen_formula h next ns k ∙ over_formula r ns (λ g. k (neg g))
  over_formula {next} (a_join {j = j} {f = f} h a b) ns k =
      seen_formula h next ns k ∙ over_formula a (formula next ∷ ns) (λ x y. k (join j x y)) ∙ over_formula b ns (λ y. k (join j f y))

  -- what stands spelled has a byte, and is inside
  pub formula_ends : {next : Bool} {at e : ℕ} {f : Formula} → FormulaAt s next at f e → (at < e) × (e ≤ length s)
  formula_ends (a_prop h b) = omega arith
  formula_ends (a_next t h b) = omega arith
  formula_ends (a_yea h q) = omega arith
  formula_ends (a_nay h q) = omega arith
  formula_ends (a_neg h r) = let i = formula_ends r in omega arith
  formula_ends (a_join h a b) = let i = formula_ends a in let i' = formula_ends b in omega arith
