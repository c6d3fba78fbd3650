-- What the readers promise, put together from what their calls promise: one law for each arm. Assumes nothing.
use Prim.Native.Nat.{ℕ, ◌+◌}
use native.Mathlib.Omega.{arith}
use mathlib.Core.Path.{◌≡◌, refl, subst, ◌∙◌}
use mathlib.Core.List.{List, ◌∷◌}
use lib.ListN.{get_or}
use Rattle.definitions.specs.declared.kinds.Junction.{Junction}
use Rattle.definitions.specs.declared.kinds.FormulaKind.TheVariants.{Proposition, Truth, Falsity, Not, Join}
use Rattle.definitions.specs.declared.kinds.Pair.{Pair}
use Rattle.definitions.specs.declared.kinds.Repeat.{Repeat}
use Rattle.definitions.specs.declared.kinds.RuleKind.{RuleKind}
use Rattle.definitions.specs.declared.kinds.RuleKind.TheVariants.{Letter, Empty, Two, Again, Counted, Occurs}
use Rattle.definitions.specs.declared.kinds.FormulaKind.{FormulaKind}
use Rattle.definitions.specs.declared.kinds.Kind.TheVariants.{OfFormula, OfRule, Unknown}
use Rattle.definitions.specs.declared.Refusal.{Refusal}
use Rattle.definitions.specs.declared.Refusal.TheVariants.{UnknownKind, WrongSort}
use Rattle.std.specs.Prelude.{Result, Ok, Err}
use Rattle.definitions.specs.Definition1.{prop, yea, nay, neg, join, letter, empty, two, again, counted, occurs}
use Rattle.definitions.specs.Encoding.{CountsFit}
use Rattle.rules.specs.Reading.{rule, formula}
use Rattle.rules.specs.Places.{HasCounts, FormulaAt, RuleAt, Here, a_prop, a_yea, a_nay, a_neg, a_join, a_letter, a_empty, a_two, a_again, a_counted, an_occurs}
use Rattle.rules.specs.Walks.{BodyRead, CountsRead, FormulaRead, RuleRead}
use Rattle.rules.proofs.Scan.{seen_formula, seen_rule, over_counts, over_formula, over_rule}

module _ (s : List ℕ) (at : ℕ) where
  pub f_unknown : Here s at Unknown → FormulaRead s at (Err (UnknownKind at))
  f_unknown h ns k = seen_formula s h ns k

  pub f_wrong : (r : RuleKind) → Here s at (OfRule r) → FormulaRead s at (Err (WrongSort at))
  f_wrong r h ns k = seen_formula s h ns k

  pub f_prop : Here s at (OfFormula Proposition) → (r : Result ℕ Refusal) → BodyRead s (at + 1) r → FormulaRead s at r
  f_prop h (Ok e) (l, le, q) = (prop (get_or s (at + 1) 0), a_prop h l refl le q)
  f_prop h (Err x) f = λ ns k. seen_formula s h ns k ∙ f ns (λ i. k (prop i))

  pub f_yea : Here s at (OfFormula Truth) → FormulaRead s at (Ok (at + 1))
  f_yea h = (yea, a_yea h refl)

  pub f_nay : Here s at (OfFormula Falsity) → FormulaRead s at (Ok (at + 1))
  f_nay h = (nay, a_nay h refl)

  pub f_neg : Here s at (OfFormula Not) → (r : Result ℕ Refusal) → FormulaRead s (at + 1) r → FormulaRead s at r
  f_neg h (Ok e) (f, d) = (neg f, a_neg h d)
  f_neg h (Err x) p = λ ns k. seen_formula s h ns k ∙ p ns (λ f. k (neg f))

  pub f_join_bad : (j : Junction) → Here s at (OfFormula (Join j)) → (x : Refusal) → FormulaRead s (at + 1) (Err x) → FormulaRead s at (Err x)
  f_join_bad j h x p ns k = seen_formula s h ns k ∙ p (formula ∷ ns) (λ f g. k (join j f g))

  pub f_join : (j : Junction) → Here s at (OfFormula (Join j)) → (m : ℕ) → FormulaRead s (at + 1) (Ok m) → (r : Result ℕ Refusal) → FormulaRead s m r → FormulaRead s at r
  f_join j h m (f, d) (Ok e) (g, d') = (join j f g, a_join h d d')
  f_join j h m (f, d) (Err x) p = λ ns k. seen_formula s h ns k ∙ over_formula s d (formula ∷ ns) (λ f g. k (join j f g)) ∙ p ns (λ g. k (join j f g))

  pub r_unknown : Here s at Unknown → RuleRead s at (Err (UnknownKind at))
  r_unknown h ns k = seen_rule s h ns k

  pub r_wrong : (f : FormulaKind) → Here s at (OfFormula f) → RuleRead s at (Err (WrongSort at))
  r_wrong f h ns k = seen_rule s h ns k

  pub r_letter : Here s at (OfRule Letter) → (r : Result ℕ Refusal) → FormulaRead s (at + 1) r → RuleRead s at r
  r_letter h (Ok e) (f, d) = (letter f, a_letter h d)
  r_letter h (Err x) p = λ ns k. seen_rule s h ns k ∙ p ns (λ f. k (letter f))

  pub r_empty : Here s at (OfRule Empty) → RuleRead s at (Ok (at + 1))
  r_empty h = (empty, a_empty h refl)

  pub r_again : (p : Repeat) → Here s at (OfRule (Again p)) → (r : Result ℕ Refusal) → RuleRead s (at + 1) r → RuleRead s at r
  r_again p h (Ok e) (a, d) = (again p a, a_again h d)
  r_again p h (Err x) f = λ ns k. seen_rule s h ns k ∙ f ns (λ a. k (again p a))

  pub r_two_bad : (p : Pair) → Here s at (OfRule (Two p)) → (x : Refusal) → RuleRead s (at + 1) (Err x) → RuleRead s at (Err x)
  r_two_bad p h x f ns k = seen_rule s h ns k ∙ f (rule ∷ ns) (λ a b. k (two p a b))

  pub r_two : (p : Pair) → Here s at (OfRule (Two p)) → (m : ℕ) → RuleRead s (at + 1) (Ok m) → (r : Result ℕ Refusal) → RuleRead s m r → RuleRead s at r
  r_two p h m (a, d) (Ok e) (b, d') = (two p a b, a_two h d d')
  r_two p h m (a, d) (Err x) f = λ ns k. seen_rule s h ns k ∙ over_rule s d (rule ∷ ns) (λ a b. k (two p a b)) ∙ f ns (λ b. k (two p a b))

  -- the counts were read, and the operand begins after them
  has_counts : (m : ℕ) → CountsRead s (at + 1) (Ok m) → HasCounts s at (get_or s (at + 1) 0) (get_or s (at + 2) 0) × (m ≡ at + 3)
  has_counts m (l, f, q) =
      let e : at + 1 + 1 ≡ at + 2 = omega arith in
      (record { inside = omega arith; first = refl; second = refl; fit = subst (λ (n : ℕ). CountsFit (get_or s (at + 1) 0) (get_or s n 0)) e f }, omega arith)

  pub r_counted_bad : Here s at (OfRule Counted) → (x : Refusal) → CountsRead s (at + 1) (Err x) → RuleRead s at (Err x)
  r_counted_bad h x f ns k = seen_rule s h ns k ∙ f (rule ∷ ns) (λ c a. k (counted c.0 c.1 a))

  pub r_counted : Here s at (OfRule Counted) → (m : ℕ) → CountsRead s (at + 1) (Ok m) → (r : Result ℕ Refusal) → RuleRead s m r → RuleRead s at r
  r_counted h m g (Ok e) (a, d) = let c = has_counts m g in (counted _ _ a, a_counted h c.0 (subst (λ (n : ℕ). RuleAt s n a e) c.1 d))
  r_counted h m g (Err x) f = λ ns k.
      let c = has_counts m g in
      seen_rule s h ns k ∙ over_counts s c.0 (rule ∷ ns) (λ c a. k (counted c.0 c.1 a)) ∙ subst (λ (n : ℕ). RuleRead s n (Err x)) c.1 f ns (λ a. k (counted _ _ a))

  pub r_occurs_bad : Here s at (OfRule Occurs) → (x : Refusal) → CountsRead s (at + 1) (Err x) → RuleRead s at (Err x)
  r_occurs_bad h x f ns k = seen_rule s h ns k ∙ f (formula ∷ ns) (λ c a. k (occurs c.0 c.1 a))

  pub r_occurs : Here s at (OfRule Occurs) → (m : ℕ) → CountsRead s (at + 1) (Ok m) → (r : Result ℕ Refusal) → FormulaRead s m r → RuleRead s at r
  r_occurs h m g (Ok e) (a, d) = let c = has_counts m g in (occurs _ _ a, an_occurs h c.0 (subst (λ (n : ℕ). FormulaAt s n a e) c.1 d))
  r_occurs h m g (Err x) f = λ ns k.
      let c = has_counts m g in
      seen_rule s h ns k ∙ over_counts s c.0 (formula ∷ ns) (λ c a. k (occurs c.0 c.1 a)) ∙ subst (λ (n : ℕ). FormulaRead s n (Err x)) c.1 f ns (λ a. k (occurs _ _ a))
