-- What the formula evaluator promises, put together from what its calls promise: one law for each arm. Assumes nothing.
use Prim.Native.Nat.{ℕ, ◌+◌}
use mathlib.Core.Path.{◌≡◌, refl, sym, ap, ◌∙◌}
use mathlib.Core.Bool.{Bool, true, false, not}
use mathlib.Core.List.{List}
use native.Mathlib.Omega.{arith}
use lib.ListN.{get_or}
use Rattle.bits.specs.Word.{bit}
use Rattle.definitions.specs.declared.kinds.Junction.{Junction}
use Rattle.definitions.specs.declared.kinds.FormulaKind.TheVariants.{Proposition, Truth, Falsity, Not, Join}
use Rattle.definitions.specs.declared.kinds.Kind.TheVariants.{OfFormula}
use Rattle.formulas.specs.declared.Held.{Held}
use Rattle.definitions.specs.Definition1.{Formula}
use Rattle.definitions.specs.Definition2.{holds, joined}
use Rattle.definitions.specs.Kinds.{kind_of}
use Rattle.formulas.specs.Labels.{HoldsAs}
use Rattle.rules.proofs.PlacesOnce.{formula_of}

module _ (s : List ℕ) (at x : ℕ) where
  pub h_prop : kind_of (get_or s at 0) ≡ OfFormula Proposition → (b : Bool) → b ≡ bit x (get_or s (at + 1) 0) → HoldsAs s at x (record { holds = b; end = at + 2 })
  unfolding holds
  h_prop q b p f e d =
      let i = formula_of s (OfFormula Proposition) d q in
      let n = i.3 in
      (p ∙ ap (λ (g : Formula). holds g x) (sym i.0), omega arith)

  pub h_yea : kind_of (get_or s at 0) ≡ OfFormula Truth → HoldsAs s at x (record { holds = true; end = at + 1 })
  unfolding holds
  h_yea q f e d = let i = formula_of s (OfFormula Truth) d q in (ap (λ (g : Formula). holds g x) (sym i.0), i.1)

  pub h_nay : kind_of (get_or s at 0) ≡ OfFormula Falsity → HoldsAs s at x (record { holds = false; end = at + 1 })
  unfolding holds
  h_nay q f e d = let i = formula_of s (OfFormula Falsity) d q in (ap (λ (g : Formula). holds g x) (sym i.0), i.1)

  pub h_neg : kind_of (get_or s at 0) ≡ OfFormula Not → (a : Held) → HoldsAs s (at + 1) x a → HoldsAs s at x (record { holds = not a.holds; end = a.end })
  unfolding holds
  h_neg q a ih f e d =
      let i = formula_of s (OfFormula Not) d q in
      let o = ih i.0 e i.2 in
      (ap not o.0 ∙ ap (λ (g : Formula). holds g x) (sym i.1), o.1)

  pub h_join : (j : Junction) → kind_of (get_or s at 0) ≡ OfFormula (Join j) → (a b : Held) → HoldsAs s (at + 1) x a → HoldsAs s a.end x b → (r : Bool) → r ≡ joined j a.holds b.holds → HoldsAs s at x (record { holds = r; end = b.end })
  unfolding holds
  h_join j q a b ih ih' r p f e d =
      let i = formula_of s (OfFormula (Join j)) d q in
      let o = ih i.0 i.2 i.4 in
      let o' = ih' i.1 e (rw o.1 i.5) in
      (p ∙ rw (o.0, o'.0) refl ∙ ap (λ (g : Formula). holds g x) (sym i.3), o'.1)
