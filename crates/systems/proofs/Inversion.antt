-- For a walk over a formula that is known to stand: what its kind byte tells of it and of its operands. Assumes nothing.
use Prim.Native.Nat.{ℕ, ◌+◌, ◌<◌, ◌≤◌}
use native.Mathlib.Omega.{arith}
use mathlib.Core.Path.{◌≡◌, refl, sym, ap, subst}
use mathlib.Core.Bool.{Bool}
use mathlib.Core.List.{List}
use lib.ListN.{length, get_or}
use Rattle.definitions.specs.declared.kinds.FormulaKind.{FormulaKind}
use Rattle.definitions.specs.declared.kinds.FormulaKind.TheVariants.{Proposition, Truth, Falsity, Not, Join}
use Rattle.definitions.specs.declared.kinds.Junction.{Junction}
use Rattle.definitions.specs.Definition1.{Formula, prop, yea, nay, neg, join}
use Rattle.systems.specs.declared.kinds.SystemKind.{SystemKind}
use Rattle.systems.specs.declared.kinds.SystemKind.TheVariants.{Plain, Next, Elsewhere, Nothing}
use Rattle.systems.specs.Kinds.{kind_of}
use Rattle.systems.specs.Reading.{variable_count}
use Rattle.systems.specs.inner.Places.{Here, BodyHere, FormulaAt, a_prop, a_next, a_yea, a_nay, a_neg, a_join, GoodFormula}
use Rattle.systems.proofs.Scan.{formula_ends}

-- what a formula's kind byte tells of the formula that stands there
abbrev pub PlainInv : List ℕ → Bool → ℕ → FormulaKind → Formula → ℕ → Type 0
PlainInv s next at Proposition f e = (f ≡ prop (get_or s (at + 1) 0)) × BodyHere s (at + 1) (get_or s (at + 1) 0) e
PlainInv s next at Truth f e = (f ≡ yea) × (at + 1 ≡ e)
PlainInv s next at Falsity f e = (f ≡ nay) × (at + 1 ≡ e)
PlainInv s next at Not f e = (a : Formula) × (f ≡ neg a) × FormulaAt s next (at + 1) a e
PlainInv s next at (Join j) f e = (a : Formula) × (b : Formula) × (m : ℕ) × (f ≡ join j a b) × FormulaAt s next (at + 1) a m × FormulaAt s next m b e

abbrev pub Inv : List ℕ → Bool → ℕ → SystemKind → Formula → ℕ → Type 0
Inv s next at (Plain k) f e = PlainInv s next at k f e
Inv s next at Next f e = (f ≡ prop (variable_count + get_or s (at + 1) 0)) × BodyHere s (at + 1) (get_or s (at + 1) 0) e
Inv s next at Elsewhere f e = ⊥
Inv s next at Nothing f e = ⊥

module _ (s : List ℕ) where
  -- the variable is the byte
  same_body : {at i e : ℕ} → BodyHere s at i e → BodyHere s at (get_or s at 0) e
  same_body {at} {i} {e} b = record { inside = b.inside; byte = refl; small = rw b.byte b.small; ends = b.ends }

  module _ (next : Bool) where
    told_by : {at : ℕ} {κ : SystemKind} (f : Formula) (e : ℕ) → Here s at κ → Inv s next at κ f e → Inv s next at (kind_of (get_or s at 0)) f e
    told_by {at} f e h i = subst (λ (κ : SystemKind). Inv s next at κ f e) (sym h.says) i

    inverted : {at e : ℕ} {f : Formula} → FormulaAt s next at f e → Inv s next at (kind_of (get_or s at 0)) f e
    inverted (a_prop {e = e} h b) = told_by _ e h (ap prop (sym b.byte), same_body b)
    inverted (a_next {e = e} t h b) = told_by _ e h (ap (λ (i : ℕ). prop (variable_count + i)) (sym b.byte), same_body b)
    inverted (a_yea {e = e} h q) = told_by _ e h (refl, q)
    inverted (a_nay {e = e} h q) = told_by _ e h (refl, q)
    inverted (a_neg {e = e} h d) = told_by _ e h (_, refl, d)
    inverted (a_join {e = e} h d d') = told_by _ e h (_, _, _, refl, d, d')

    -- the same, where the kind is known
    pub formula_of : (κ : SystemKind) {at e : ℕ} {f : Formula} → FormulaAt s next at f e → kind_of (get_or s at 0) ≡ κ → Inv s next at κ f e
    formula_of κ {at} {e} {f} d q = subst (λ (κ : SystemKind). Inv s next at κ f e) q (inverted d)

    -- a place that is spelled has a byte
    pub formula_inside : {at e : ℕ} {f : Formula} → FormulaAt s next at f e → at < length s
    formula_inside d = let l = formula_ends s d in omega arith

module _ (s : List ℕ) (next : Bool) (at : ℕ) (g : GoodFormula s next at) where
  pub formula_here : at < length s
  formula_here = formula_inside s next g.2

  pub not_elsewhere : kind_of (get_or s at 0) ≡ Elsewhere → ⊥
  not_elsewhere q = formula_of s next Elsewhere g.2 q

  pub not_nothing : kind_of (get_or s at 0) ≡ Nothing → ⊥
  not_nothing q = formula_of s next Nothing g.2 q

  pub good_next : kind_of (get_or s at 0) ≡ Next → BodyHere s (at + 1) (get_or s (at + 1) 0) g.1
  good_next q = (formula_of s next Next g.2 q).1

  pub good_body : kind_of (get_or s at 0) ≡ Plain Proposition → BodyHere s (at + 1) (get_or s (at + 1) 0) g.1
  good_body q = (formula_of s next (Plain Proposition) g.2 q).1

  pub good_neg : kind_of (get_or s at 0) ≡ Plain Not → GoodFormula s next (at + 1)
  good_neg q = let i = formula_of s next (Plain Not) g.2 q in (i.0, g.1, i.2)

  pub good_left : (j : Junction) → kind_of (get_or s at 0) ≡ Plain (Join j) → GoodFormula s next (at + 1)
  good_left j q = let i = formula_of s next (Plain (Join j)) g.2 q in (i.0, i.2, i.4)

  -- the second operand stands where the first ends, two bytes on or more
  pub good_right : (j : Junction) → kind_of (get_or s at 0) ≡ Plain (Join j) → (m : ℕ) → ((f : Formula) (e : ℕ) → FormulaAt s next (at + 1) f e → m ≡ e) → GoodFormula s next m × (at + 2 ≤ m)
  good_right j q m ends =
      let i = formula_of s next (Plain (Join j)) g.2 q in
      let o = ends i.0 i.2 i.4 in
      let l = formula_ends s i.4 in
      (rw o (i.1, g.1, i.5), omega arith)
