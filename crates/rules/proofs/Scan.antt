-- Laws of `scan`: a step of it at a place of the bytes, the faults, and that it passes over what stands spelled.
-- Assumes nothing.
use Prim.Native.Nat.{ℕ, ◌+◌, ◌<◌, ◌≤◌}
use native.Mathlib.Numerals.{add-one}
use native.Mathlib.Omega.{arith}
use mathlib.Core.Path.{◌≡◌, ap, ◌∙◌}
use mathlib.Core.Bool.{false}
use mathlib.Core.List.{List, ◌∷◌}
use lib.ListN.{length, get_or, drop, drop_of_length-le}
use lib.Seq.{drop-cons}
use borrow.Author.Tests.{le-leb, lt-leb}
use Rattle.definitions.specs.declared.kinds.Kind.{Kind}
use Rattle.definitions.specs.declared.Refusal.TheVariants.{Ended, NoProposition, BadCounts}
use Rattle.definitions.specs.Definition1.{Formula, prop, neg, join, Rule, letter, two, again, counted, occurs}
use Rattle.rules.specs.Reading.{Need, rule, formula, body, counts, Rest, scan, take_rule, take_formula}
use Rattle.definitions.specs.Encoding.{CountsFit, counts_do_fit}
use Rattle.rules.specs.Places.{HasCounts, Here, FormulaAt, a_prop, a_yea, a_nay, a_neg, a_join, RuleAt, a_letter, a_empty, a_two, a_again, a_counted, an_occurs}
use Rattle.rules.specs.Walks.{Fails}
use Rattle.rules.proofs.Fitting.{fit_true}

module _ (s : List ℕ) where
  -- a byte is there
  byte : (at : ℕ) → at < length s → drop at s ≡ get_or s at 0 ∷ drop (at + 1) s
  byte at h = rw (add-one, drop-cons s at 0)

  pub two_bytes : (at : ℕ) → at + 1 < length s → drop at s ≡ get_or s at 0 ∷ get_or s (at + 1) 0 ∷ drop (at + 2) s
  two_bytes at h =
      let e : at + 1 + 1 ≡ at + 2 = omega arith in
      byte at (omega arith) ∙ ap (λ (l : List ℕ). get_or s at 0 ∷ l) (byte (at + 1) h ∙ ap (λ (j : ℕ). get_or s (at + 1) 0 ∷ drop j s) e)

  pub ended : (at : ℕ) (n : Need) → length s ≤ at → Fails s at n (Ended at)
  ended at n h ns k = ap (λ (l : List ℕ). scan l (n ∷ ns) k at) (drop_of_length-le s h)

  -- a byte of a known kind is there
  pub seen_formula : {at : ℕ} {κ : Kind} → Here s at κ → (ns : List Need) (k : Formula → Rest ns) → scan (drop at s) (formula ∷ ns) k at ≡ take_formula κ (scan (drop (at + 1) s)) ns k at
  seen_formula {at} {κ} h ns k = ap (λ (l : List ℕ). scan l (formula ∷ ns) k at) (byte at h.inside) ∙ ap (λ (q : Kind). take_formula q (scan (drop (at + 1) s)) ns k at) h.says

  pub seen_rule : {at : ℕ} {κ : Kind} → Here s at κ → (ns : List Need) (k : Rule → Rest ns) → scan (drop at s) (rule ∷ ns) k at ≡ take_rule κ (scan (drop (at + 1) s)) ns k at
  seen_rule {at} {κ} h ns k = ap (λ (l : List ℕ). scan l (rule ∷ ns) k at) (byte at h.inside) ∙ ap (λ (q : Kind). take_rule q (scan (drop (at + 1) s)) ns k at) h.says

  -- a body byte is there
  pub good_body : (at : ℕ) → at < length s → get_or s at 0 ≤ 5 → (ns : List Need) (k : ℕ → Rest ns) → scan (drop at s) (body ∷ ns) k at ≡ scan (drop (at + 1) s) ns (k (get_or s at 0)) (at + 1)
  good_body at h l ns k = ap (λ (l : List ℕ). scan l (body ∷ ns) k at) (byte at h) ∙ rw (le-leb _ _ l)

  pub bad_body : (at : ℕ) → at < length s → 5 < get_or s at 0 → Fails s at body (NoProposition at)
  bad_body at h l ns k = ap (λ (l : List ℕ). scan l (body ∷ ns) k at) (byte at h) ∙ rw (lt-leb _ _ l)

  -- two counts are there
  pub good_counts : (at : ℕ) → at + 1 < length s → CountsFit (get_or s at 0) (get_or s (at + 1) 0) → (ns : List Need) (k : ℕ × ℕ → Rest ns)
      → scan (drop at s) (counts ∷ ns) k at ≡ scan (drop (at + 2) s) ns (k (get_or s at 0, get_or s (at + 1) 0)) (at + 2)
  good_counts at h f ns k = ap (λ (l : List ℕ). scan l (counts ∷ ns) k at) (two_bytes at h) ∙ rw (fit_true _ _ f)

  pub bad_counts : (at : ℕ) → at + 1 < length s → counts_do_fit (get_or s at 0) (get_or s (at + 1) 0) ≡ false → Fails s at counts (BadCounts at)
  bad_counts at h f ns k = ap (λ (l : List ℕ). scan l (counts ∷ ns) k at) (two_bytes at h) ∙ rw f

  pub cut_counts : (at : ℕ) → at < length s → length s ≤ at + 1 → Fails s at counts (Ended (at + 1))
  cut_counts at h l ns k = ap (λ (l : List ℕ). scan l (counts ∷ ns) k at) (byte at h ∙ ap (λ (l : List ℕ). get_or s at 0 ∷ l) (drop_of_length-le s l))

  -- the counts after a kind byte
  pub over_counts : {at i j : ℕ} → HasCounts s at i j → (ns : List Need) (k : ℕ × ℕ → Rest ns) → scan (drop (at + 1) s) (counts ∷ ns) k (at + 1) ≡ scan (drop (at + 3) s) ns (k (i, j)) (at + 3)
  over_counts {at} {i} {j} c ns k =
      let e : at + 1 + 1 ≡ at + 2 = omega arith in
      let e' : at + 1 + 2 ≡ at + 3 = omega arith in
      let p = c.first in
      let q : get_or s (at + 1 + 1) 0 ≡ j = ap (λ (n : ℕ). get_or s n 0) e ∙ c.second in
      let h = c.inside in
      good_counts (at + 1) (omega arith) (rw (p, q) c.fit) ns k ∙ rw (p, q, e')

  -- what stands spelled is passed over
  pub over_formula : {at e : ℕ} {f : Formula} → FormulaAt s at f e → (ns : List Need) (k : Formula → Rest ns) → scan (drop at s) (formula ∷ ns) k at ≡ scan (drop e s) ns (k f) e
  over_formula (a_prop {at} h l b le q) ns k =
      seen_formula h ns k ∙ good_body (at + 1) l (rw b le) ns (λ j. k (prop j)) ∙ rw (b, q)
  over_formula (a_yea h q) ns k = seen_formula h ns k ∙ rw q
  over_formula (a_nay h q) ns k = seen_formula h ns k ∙ rw q
  over_formula (a_neg h r) ns k = seen_formula h ns k ∙ over_formula r ns (λ g. k (neg g))
  over_formula (a_join {j = j} {f = f} h a b) ns k =
      seen_formula h ns k ∙ over_formula a (formula ∷ ns) (λ x y. k (join j x y)) ∙ over_formula b ns (λ y. k (join j f y))

  pub over_rule : {at e : ℕ} {r : Rule} → RuleAt s at r e → (ns : List Need) (k : Rule → Rest ns) → scan (drop at s) (rule ∷ ns) k at ≡ scan (drop e s) ns (k r) e
  over_rule (a_letter h r) ns k = seen_rule h ns k ∙ over_formula r ns (λ g. k (letter g))
  over_rule (a_empty h q) ns k = seen_rule h ns k ∙ rw q
  over_rule (a_again {p = p} h r) ns k = seen_rule h ns k ∙ over_rule r ns (λ x. k (again p x))
  over_rule (a_two {p = p} {a = a} h x y) ns k =
      seen_rule h ns k ∙ over_rule x (rule ∷ ns) (λ u v. k (two p u v)) ∙ over_rule y ns (λ v. k (two p a v))
  over_rule (a_counted {i = i} {j = j} h c x) ns k = seen_rule h ns k ∙ over_counts c (rule ∷ ns) (λ v a. k (counted v.0 v.1 a)) ∙ over_rule x ns (λ a. k (counted i j a))
  over_rule (an_occurs {i = i} {j = j} h c x) ns k = seen_rule h ns k ∙ over_counts c (formula ∷ ns) (λ v f. k (occurs v.0 v.1 f)) ∙ over_formula x ns (λ f. k (occurs i j f))

  -- what stands spelled has a byte, and is inside
  pub formula_ends : {at e : ℕ} {f : Formula} → FormulaAt s at f e → (at < e) × (e ≤ length s)
  formula_ends (a_prop h l b le q) = omega arith
  formula_ends (a_yea h q) = omega arith
  formula_ends (a_nay h q) = omega arith
  formula_ends (a_neg h r) = let i = formula_ends r in omega arith
  formula_ends (a_join h a b) = let i = formula_ends a in let i' = formula_ends b in omega arith

  pub rule_ends : {at e : ℕ} {r : Rule} → RuleAt s at r e → (at < e) × (e ≤ length s)
  rule_ends (a_letter h r) = let i = formula_ends r in omega arith
  rule_ends (a_empty h q) = omega arith
  rule_ends (a_again h r) = let i = rule_ends r in omega arith
  rule_ends (a_two h x y) = let i = rule_ends x in let i' = rule_ends y in omega arith
  rule_ends (a_counted h c x) = let i = rule_ends x in omega arith
  rule_ends (an_occurs h c x) = let i = formula_ends x in omega arith
