-- What stands at a place is read off its kind byte; so at most one formula, and one rule, stands there, up to one end. Assumes nothing.
use Prim.Native.Nat.{ℕ, ◌+◌, ◌<◌, ◌≤◌}
use native.Mathlib.Omega.{arith}
use mathlib.Core.Path.{◌≡◌, refl, sym, ap, subst, ◌∙◌}
use mathlib.Core.Bool.{Bool, true, false, cond}
use mathlib.Core.List.{List, [], ◌∷◌}
use lib.Dec.{leb}
use lib.ListN.{length, get_or, drop}
use Rattle.definitions.specs.declared.kinds.FormulaKind.TheVariants.{Proposition, Truth, Falsity, Not, Join}
use Rattle.definitions.specs.declared.kinds.RuleKind.{RuleKind}
use Rattle.definitions.specs.declared.kinds.RuleKind.TheVariants.{Letter, Empty, Two, Again, Counted, Occurs}
use Rattle.definitions.specs.declared.kinds.FormulaKind.{FormulaKind}
use Rattle.definitions.specs.declared.kinds.Kind.{Kind}
use Rattle.definitions.specs.declared.kinds.Kind.TheVariants.{OfFormula, OfRule, Unknown}
use Rattle.definitions.specs.declared.Refusal.{Refusal}
use Rattle.std.specs.Prelude.{Result, Ok, Err}
use Rattle.definitions.specs.Definition1.{Formula, prop, yea, nay, neg, join, Rule, letter, empty, two, again, counted, occurs}
use Rattle.definitions.specs.Kinds.{kind_of}
use Rattle.rules.specs.Reading.{good, fault, Need, body, Rest, scan}
use Rattle.rules.specs.Places.{HasCounts, Here, FormulaAt, a_prop, a_yea, a_nay, a_neg, a_join, RuleAt, a_letter, a_empty, a_two, a_again, a_counted, an_occurs}
use Rattle.rules.specs.Walks.{FormulaRead, RuleRead, shown}
use Rattle.rules.proofs.Scan.{over_formula, over_rule}

-- what a formula's kind byte tells of the formula that stands there
abbrev pub FormulaInv : List ℕ → ℕ → FormulaKind → Formula → ℕ → Type 0
FormulaInv s at Proposition f e = (f ≡ prop (get_or s (at + 1) 0)) × (at + 1 < length s) × (get_or s (at + 1) 0 ≤ 5) × (at + 1 + 1 ≡ e)
FormulaInv s at Truth f e = (f ≡ yea) × (at + 1 ≡ e)
FormulaInv s at Falsity f e = (f ≡ nay) × (at + 1 ≡ e)
FormulaInv s at Not f e = (a : Formula) × (f ≡ neg a) × FormulaAt s (at + 1) a e
FormulaInv s at (Join j) f e = (a : Formula) × (b : Formula) × (m : ℕ) × (f ≡ join j a b) × FormulaAt s (at + 1) a m × FormulaAt s m b e

abbrev pub FormulaInv' : List ℕ → ℕ → Kind → Formula → ℕ → Type 0
FormulaInv' s at (OfFormula k) f e = FormulaInv s at k f e
FormulaInv' s at (OfRule k) f e = ⊥
FormulaInv' s at Unknown f e = ⊥

abbrev pub RuleInv : List ℕ → ℕ → RuleKind → Rule → ℕ → Type 0
RuleInv s at Letter r e = (f : Formula) × (r ≡ letter f) × FormulaAt s (at + 1) f e
RuleInv s at Empty r e = (r ≡ empty) × (at + 1 ≡ e)
RuleInv s at (Two p) r e = (a : Rule) × (b : Rule) × (m : ℕ) × (r ≡ two p a b) × RuleAt s (at + 1) a m × RuleAt s m b e
RuleInv s at (Again p) r e = (a : Rule) × (r ≡ again p a) × RuleAt s (at + 1) a e
RuleInv s at Counted r e = (a : Rule) × (r ≡ counted (get_or s (at + 1) 0) (get_or s (at + 2) 0) a) × HasCounts s at (get_or s (at + 1) 0) (get_or s (at + 2) 0) × RuleAt s (at + 3) a e
RuleInv s at Occurs r e = (f : Formula) × (r ≡ occurs (get_or s (at + 1) 0) (get_or s (at + 2) 0) f) × HasCounts s at (get_or s (at + 1) 0) (get_or s (at + 2) 0) × FormulaAt s (at + 3) f e

abbrev pub RuleInv' : List ℕ → ℕ → Kind → Rule → ℕ → Type 0
RuleInv' s at (OfRule k) r e = RuleInv s at k r e
RuleInv' s at (OfFormula k) r e = ⊥
RuleInv' s at Unknown r e = ⊥

module _ (s : List ℕ) where
  as_f : {at : ℕ} {κ : Kind} (f : Formula) (e : ℕ) → Here s at κ → FormulaInv' s at κ f e → FormulaInv' s at (kind_of (get_or s at 0)) f e
  as_f {at} f e h i = subst (λ (κ : Kind). FormulaInv' s at κ f e) (sym h.says) i

  as_r : {at : ℕ} {κ : Kind} (r : Rule) (e : ℕ) → Here s at κ → RuleInv' s at κ r e → RuleInv' s at (kind_of (get_or s at 0)) r e
  as_r {at} r e h i = subst (λ (κ : Kind). RuleInv' s at κ r e) (sym h.says) i

  formula_inv : {at e : ℕ} {f : Formula} → FormulaAt s at f e → FormulaInv' s at (kind_of (get_or s at 0)) f e
  formula_inv (a_prop {e = e} h l b le q) = as_f _ e h (ap prop (sym b), l, rw b le, q)
  formula_inv (a_yea {e = e} h q) = as_f _ e h (refl, q)
  formula_inv (a_nay {e = e} h q) = as_f _ e h (refl, q)
  formula_inv (a_neg {e = e} h d) = as_f _ e h (_, refl, d)
  formula_inv (a_join {e = e} h d d') = as_f _ e h (_, _, _, refl, d, d')

  -- the counts are the two bytes
  counts_are : {A B : Type 0} (made : ℕ → ℕ → A → B) (a : A) {at i j : ℕ} → HasCounts s at i j → made i j a ≡ made (get_or s (at + 1) 0) (get_or s (at + 2) 0) a
  counts_are made a c = let p = c.first in let q = c.second in cc

  same_counts : {at i j : ℕ} → HasCounts s at i j → HasCounts s at (get_or s (at + 1) 0) (get_or s (at + 2) 0)
  same_counts c = record { inside = c.inside; first = refl; second = refl; fit = rw (c.first, c.second) c.fit }

  rule_inv : {at e : ℕ} {r : Rule} → RuleAt s at r e → RuleInv' s at (kind_of (get_or s at 0)) r e
  rule_inv (a_letter {e = e} h d) = as_r _ e h (_, refl, d)
  rule_inv (a_empty {e = e} h q) = as_r _ e h (refl, q)
  rule_inv (a_two {e = e} h d d') = as_r _ e h (_, _, _, refl, d, d')
  rule_inv (a_again {e = e} h d) = as_r _ e h (_, refl, d)
  rule_inv (a_counted {e = e} {a = a} h c d) = as_r _ e h (a, counts_are counted a c, same_counts c, d)
  rule_inv (an_occurs {e = e} {f = f} h c d) = as_r _ e h (f, counts_are occurs f c, same_counts c, d)

  -- the same, where the kind is known
  pub formula_of : (κ : Kind) {at e : ℕ} {f : Formula} → FormulaAt s at f e → kind_of (get_or s at 0) ≡ κ → FormulaInv' s at κ f e
  formula_of κ {at} {e} {f} d q = subst (λ (κ : Kind). FormulaInv' s at κ f e) q (formula_inv d)

  pub rule_of_lem : (κ : Kind) {at e : ℕ} {r : Rule} → RuleAt s at r e → kind_of (get_or s at 0) ≡ κ → RuleInv' s at κ r e
  rule_of_lem κ {at} {e} {r} d q = subst (λ (κ : Kind). RuleInv' s at κ r e) q (rule_inv d)

  -- a place that is spelled has a byte
  pub formula_inside : {at e : ℕ} {f : Formula} → FormulaAt s at f e → at < length s
  formula_inside (a_prop h l b le q) = h.inside
  formula_inside (a_yea h q) = h.inside
  formula_inside (a_nay h q) = h.inside
  formula_inside (a_neg h d) = h.inside
  formula_inside (a_join h d d') = h.inside

  pub rule_inside : {at e : ℕ} {r : Rule} → RuleAt s at r e → at < length s
  rule_inside (a_letter h d) = h.inside
  rule_inside (a_empty h q) = h.inside
  rule_inside (a_two h d d') = h.inside
  rule_inside (a_again h d) = h.inside
  rule_inside (a_counted h c d) = h.inside
  rule_inside (an_occurs h c d) = h.inside

  -- at most one
  pub formula_once : {at e : ℕ} {f : Formula} → FormulaAt s at f e → (f' : Formula) (e' : ℕ) → FormulaAt s at f' e' → (f ≡ f') × (e ≡ e')
  formula_once (a_prop h l b le q) f' e' d = let i = formula_of (OfFormula Proposition) d h.says in (ap prop (sym b) ∙ sym i.0, sym q ∙ i.3)
  formula_once (a_yea h q) f' e' d = let i = formula_of (OfFormula Truth) d h.says in (sym i.0, sym q ∙ i.1)
  formula_once (a_nay h q) f' e' d = let i = formula_of (OfFormula Falsity) d h.says in (sym i.0, sym q ∙ i.1)
  formula_once (a_neg h x) f' e' d =
      let i = formula_of (OfFormula Not) d h.says in
      let o = formula_once x i.0 e' i.2 in
      (ap neg o.0 ∙ sym i.1, o.1)
  formula_once (a_join {j = j} h x y) f' e' d =
      let i = formula_of (OfFormula (Join j)) d h.says in
      let o = formula_once x i.0 i.2 i.4 in
      let o' = formula_once y i.1 e' (rw o.1 i.5) in
      (cc, o'.1)

  pub rule_once : {at e : ℕ} {r : Rule} → RuleAt s at r e → (r' : Rule) (e' : ℕ) → RuleAt s at r' e' → (r ≡ r') × (e ≡ e')
  rule_once (a_letter h x) r' e' d =
      let i = rule_of_lem (OfRule Letter) d h.says in
      let o = formula_once x i.0 e' i.2 in
      (ap letter o.0 ∙ sym i.1, o.1)
  rule_once (a_empty h q) r' e' d = let i = rule_of_lem (OfRule Empty) d h.says in (sym i.0, sym q ∙ i.1)
  rule_once (a_again {p = p} h x) r' e' d =
      let i = rule_of_lem (OfRule (Again p)) d h.says in
      let o = rule_once x i.0 e' i.2 in
      (cc, o.1)
  rule_once (a_two {p = p} h x y) r' e' d =
      let i = rule_of_lem (OfRule (Two p)) d h.says in
      let o = rule_once x i.0 i.2 i.4 in
      let o' = rule_once y i.1 e' (rw o.1 i.5) in
      (cc, o'.1)
  rule_once (a_counted {at = at} {a = a} h c x) r' e' d =
      let i = rule_of_lem (OfRule Counted) d h.says in
      let o = rule_once x i.0 e' i.3 in
      (counts_are counted a c ∙ ap (counted (get_or s (at + 1) 0) (get_or s (at + 2) 0)) o.0 ∙ sym i.1, o.1)
  rule_once (an_occurs {at = at} {f = f} h c x) r' e' d =
      let i = rule_of_lem (OfRule Occurs) d h.says in
      let o = formula_once x i.0 e' i.3 in
      (counts_are occurs f c ∙ ap (occurs (get_or s (at + 1) 0) (get_or s (at + 2) 0)) o.0 ∙ sym i.1, o.1)

-- no refusal is what every reading on comes to
not_6_5 : (x : Refusal) (e : ℕ) → fault 6 e ≡ shown x → fault 5 e ≡ shown x → ⊥
not_6_5 x e p q = let z : ◌≡◌ {A = ℕ} 6 5 = cc in omega arith

not_good : (r : Rule) (x : Refusal) → good r ≡ shown x → ⊥
not_good r x p = let z : ◌≡◌ {A = ℕ} 0 1 = cc in omega arith

not_on : (bs : List ℕ) (e : ℕ) (r : Rule) (x : Refusal) → fault 6 e ≡ shown x → scan bs [] r (e + 1) ≡ shown x → ⊥
not_on [] e r x p q = not_good r x q
not_on (b ∷ bs) e r x p q = let z : e ≡ e + 1 = cc in omega arith

stuck : (l : List ℕ) (e : ℕ) (x : Refusal) → ((ns : List Need) (k : Rest ns) → scan l ns k e ≡ shown x) → ⊥
stuck [] e x p = not_good empty x (p [] empty)
stuck (b ∷ bs) e x p = go (leb b 5) (p (body ∷ []) (λ i. empty))
  where
    go : (t : Bool) → cond t (scan bs [] empty (e + 1)) (fault 5 e) ≡ shown x → ⊥
    go true q = not_on bs e empty x (p [] empty) q
    go false q = not_6_5 x e (p [] empty) q

module _ (s : List ℕ) (at : ℕ) where
  -- where a formula stands, reading it comes to its end
  pub formula_read : (r : Result ℕ Refusal) → FormulaRead s at r → (f : Formula) (e : ℕ) → FormulaAt s at f e → r ≡ Ok e
  formula_read (Ok e') (f', d') f e d = ap Ok (formula_once s d' f e d).1
  formula_read (Err x) p f e d = absurd (stuck (drop e s) e x (λ ns k. sym (over_formula s d ns (λ g. k)) ∙ p ns (λ g. k)))

  pub rule_read : (r : Result ℕ Refusal) → RuleRead s at r → (r' : Rule) (e : ℕ) → RuleAt s at r' e → r ≡ Ok e
  rule_read (Ok e') (r, d') r' e d = ap Ok (rule_once s d' r' e d).1
  rule_read (Err x) p r' e d = absurd (stuck (drop e s) e x (λ ns k. sym (over_rule s d ns (λ g. k)) ∙ p ns (λ g. k)))
