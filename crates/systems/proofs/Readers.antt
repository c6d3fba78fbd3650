-- What the readers promise, put together from what their calls promise: one law for each arm. Assumes nothing.
use Prim.Native.Nat.{ℕ, ◌+◌}
use mathlib.Core.Path.{◌≡◌, refl, sym, subst, ◌∙◌}
use mathlib.Core.Bool.{Bool, true, false}
use mathlib.Core.List.{List, ◌∷◌}
use lib.ListN.{get_or}
use Rattle.std.specs.Prelude.{Result, Ok, Err}
use Rattle.definitions.specs.declared.kinds.Junction.{Junction}
use Rattle.definitions.specs.declared.kinds.FormulaKind.TheVariants.{Proposition, Truth, Falsity, Not, Join}
use Rattle.definitions.specs.Definition1.{prop, yea, nay, neg, join}
use Rattle.systems.specs.declared.kinds.SystemKind.TheVariants.{Plain, Next, Elsewhere, Nothing}
use Rattle.systems.specs.declared.Refusal.{Refusal}
use Rattle.systems.specs.declared.Refusal.TheVariants.{UnknownKind, WrongSort}
use Rattle.systems.specs.Kinds.{initial_mark, step_mark}
use Rattle.systems.specs.Reading.{variable_count, mark, formula}
use Rattle.systems.specs.inner.Places.{Here, FormulaAt, a_prop, a_next, a_yea, a_nay, a_neg, a_join}
use Rattle.systems.specs.inner.Walks.{MarkHere, MarkRead, BodyRead, FormulaRead, StartRead}
use Rattle.systems.proofs.Scan.{over_mark, seen_formula, seen_next, over_formula}

module _ (s : List ℕ) (next : Bool) (at : ℕ) where
  pub f_nothing : Here s at Nothing → FormulaRead s next at (Err (UnknownKind at))
  f_nothing h ns k = seen_formula s h next ns k

  pub f_elsewhere : Here s at Elsewhere → FormulaRead s next at (Err (WrongSort at))
  f_elsewhere h ns k = seen_formula s h next ns k

  pub f_no_next : Here s at Next → next ≡ false → FormulaRead s next at (Err (WrongSort at))
  f_no_next h e ns k = seen_next s h e ns k

  pub f_next : Here s at Next → next ≡ true → (r : Result ℕ Refusal) → BodyRead s (at + 1) r → FormulaRead s next at r
  f_next h t (Ok e) b = (prop (variable_count + get_or s (at + 1) 0), a_next t h b)
  f_next h t (Err x) f = λ ns k. seen_next s h t ns k ∙ f ns (λ i. k (prop (variable_count + i)))

  pub f_prop : Here s at (Plain Proposition) → (r : Result ℕ Refusal) → BodyRead s (at + 1) r → FormulaRead s next at r
  f_prop h (Ok e) b = (prop (get_or s (at + 1) 0), a_prop h b)
  f_prop h (Err x) f = λ ns k. seen_formula s h next ns k ∙ f ns (λ i. k (prop i))

  pub f_yea : Here s at (Plain Truth) → FormulaRead s next at (Ok (at + 1))
  f_yea h = (yea, a_yea h refl)

  pub f_nay : Here s at (Plain Falsity) → FormulaRead s next at (Ok (at + 1))
  f_nay h = (nay, a_nay h refl)

  pub f_neg : Here s at (Plain Not) → (r : Result ℕ Refusal) → FormulaRead s next (at + 1) r → FormulaRead s next at r
  f_neg h (Ok e) (f, d) = (neg f, a_neg h d)
  f_neg h (Err x) p = λ ns k. seen_formula s h next ns k ∙ p ns (λ f. k (neg f))

  pub f_join_bad : (j : Junction) → Here s at (Plain (Join j)) → (x : Refusal) → FormulaRead s next (at + 1) (Err x) → FormulaRead s next at (Err x)
  f_join_bad j h x p ns k = seen_formula s h next ns k ∙ p (formula next ∷ ns) (λ f g. k (join j f g))

  pub f_join : (j : Junction) → Here s at (Plain (Join j)) → (m : ℕ) → FormulaRead s next (at + 1) (Ok m) → (r : Result ℕ Refusal) → FormulaRead s next m r → FormulaRead s next at r
  f_join j h m (f, d) (Ok e) (g, d') = (join j f g, a_join h d d')
  f_join j h m (f, d) (Err x) p = λ ns k. seen_formula s h next ns k ∙ over_formula s d (formula next ∷ ns) (λ f g. k (join j f g)) ∙ p ns (λ g. k (join j f g))

-- ---- up to the step's formula

module _ (s : List ℕ) where
  pub s_no_mark : (x : Refusal) → MarkRead s initial_mark 0 (Err x) → StartRead s (Err x)
  s_no_mark x p ns k = p (formula false ∷ mark step_mark ∷ ns) k

  pub s_no_first : (a : ℕ) → MarkRead s initial_mark 0 (Ok a) → (x : Refusal) → FormulaRead s false a (Err x) → StartRead s (Err x)
  s_no_first a h x p ns k = over_mark s h (formula false ∷ mark step_mark ∷ ns) k ∙ p (mark step_mark ∷ ns) (k tt)

  pub s_second : (a : ℕ) → MarkRead s initial_mark 0 (Ok a) → (m : ℕ) → FormulaRead s false a (Ok m) → (r : Result ℕ Refusal) → MarkRead s step_mark m r → StartRead s r
  s_second a h m (f, d) (Ok e) h' =
      let q : a ≡ 1 = sym h.ends in
      (f, record { m = m; first_mark = subst (λ (n : ℕ). MarkHere s initial_mark 0 n) q h; first = subst (λ (n : ℕ). FormulaAt s false n f m) q d; second_mark = h' })
  s_second a h m (f, d) (Err x) p = λ ns k. over_mark s h (formula false ∷ mark step_mark ∷ ns) k ∙ over_formula s d (mark step_mark ∷ ns) (k tt) ∙ p ns (k tt f)
