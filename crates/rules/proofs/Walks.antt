-- For every walk over a formula or a rule that is known to stand: what its kind byte tells of its operands. Assumes nothing.
use Prim.Native.Nat.{ℕ, ◌+◌, ◌<◌, ◌≤◌}
use native.Mathlib.Omega.{arith}
use mathlib.Core.Path.{◌≡◌, refl}
use mathlib.Core.List.{List}
use lib.ListN.{length, get_or}
use Rattle.definitions.specs.declared.kinds.FormulaKind.{FormulaKind}
use Rattle.definitions.specs.declared.kinds.FormulaKind.TheVariants.{Proposition, Not, Join}
use Rattle.definitions.specs.declared.kinds.Junction.{Junction}
use Rattle.definitions.specs.declared.kinds.RuleKind.{RuleKind}
use Rattle.definitions.specs.declared.kinds.Pair.{Pair}
use Rattle.definitions.specs.declared.kinds.Repeat.{Repeat}
use Rattle.definitions.specs.declared.kinds.RuleKind.TheVariants.{Letter, Two, Again, Counted, Occurs}
use Rattle.definitions.specs.declared.kinds.Kind.{Kind}
use Rattle.definitions.specs.declared.kinds.Kind.TheVariants.{OfFormula, OfRule, Unknown}
use Rattle.definitions.specs.declared.counts.Counts.{Counts}
use Rattle.definitions.specs.Definition1.{Rule}
use Rattle.definitions.specs.Kinds.{kind_of}
use Rattle.definitions.specs.Encoding.{CountsFit}
use Rattle.definitions.specs.Encoding.{CountsAs}
use Rattle.rules.specs.Places.{HasCounts, RuleAt, GoodFormula, GoodRule, FormulaEnds}
use Rattle.rules.proofs.Scan.{rule_ends, formula_ends}
use Rattle.rules.proofs.PlacesOnce.{rule_of_lem, rule_inside, formula_of, formula_inside}

module _ (s : List ℕ) (at : ℕ) (g : GoodRule s at) where
  pub rule_here : at < length s
  rule_here = rule_inside s g.2

  pub not_unknown : kind_of (get_or s at 0) ≡ Unknown → ⊥
  not_unknown q = rule_of_lem s Unknown g.2 q

  pub not_formula : (f : FormulaKind) → kind_of (get_or s at 0) ≡ OfFormula f → ⊥
  not_formula f q = rule_of_lem s (OfFormula f) g.2 q

  -- the kind byte is a rule's
  pub is_rule : (k : RuleKind) × (kind_of (get_or s at 0) ≡ OfRule k)
  is_rule = go (kind_of (get_or s at 0)) refl
    where
      go : (κ : Kind) → kind_of (get_or s at 0) ≡ κ → (k : RuleKind) × (kind_of (get_or s at 0) ≡ OfRule k)
      go (OfRule k) q = (k, q)
      go (OfFormula f) q = absurd (not_formula f q)
      go Unknown q = absurd (not_unknown q)

  pub good_letter : kind_of (get_or s at 0) ≡ OfRule Letter → GoodFormula s (at + 1)
  good_letter q = let i = rule_of_lem s (OfRule Letter) g.2 q in (i.0, g.1, i.2)

  pub good_again : (p : Repeat) → kind_of (get_or s at 0) ≡ OfRule (Again p) → GoodRule s (at + 1)
  good_again p q = let i = rule_of_lem s (OfRule (Again p)) g.2 q in (i.0, g.1, i.2)

  pub has_counts : kind_of (get_or s at 0) ≡ OfRule Counted → HasCounts s at (get_or s (at + 1) 0) (get_or s (at + 2) 0)
  has_counts q = (rule_of_lem s (OfRule Counted) g.2 q).2

  pub good_counted : kind_of (get_or s at 0) ≡ OfRule Counted → GoodRule s (at + 3)
  good_counted q = let i = rule_of_lem s (OfRule Counted) g.2 q in (i.0, g.1, i.3)

  pub occurs_counts : kind_of (get_or s at 0) ≡ OfRule Occurs → HasCounts s at (get_or s (at + 1) 0) (get_or s (at + 2) 0)
  occurs_counts q = (rule_of_lem s (OfRule Occurs) g.2 q).2

  pub good_occurs : kind_of (get_or s at 0) ≡ OfRule Occurs → GoodFormula s (at + 3)
  good_occurs q = let i = rule_of_lem s (OfRule Occurs) g.2 q in (i.0, g.1, i.3)

  pub good_first : (p : Pair) → kind_of (get_or s at 0) ≡ OfRule (Two p) → GoodRule s (at + 1)
  good_first p q = let i = rule_of_lem s (OfRule (Two p)) g.2 q in (i.0, i.2, i.4)

  -- the second operand stands where the first ends, and past `at`
  pub good_second : (p : Pair) → kind_of (get_or s at 0) ≡ OfRule (Two p) → (m : ℕ) → ((a : Rule) (e : ℕ) → RuleAt s (at + 1) a e → m ≡ e) → GoodRule s m × (at < m)
  good_second p q m ends =
      let i = rule_of_lem s (OfRule (Two p)) g.2 q in
      let o = ends i.0 i.2 i.4 in
      let l = rule_ends s i.4 in
      (rw o (i.1, g.1, i.5), omega arith)

module _ (s : List ℕ) (at : ℕ) (g : GoodFormula s at) where
  pub formula_here : at < length s
  formula_here = formula_inside s g.2

  -- the kind byte is a formula's
  pub is_formula : (k : FormulaKind) × (kind_of (get_or s at 0) ≡ OfFormula k)
  is_formula = go (kind_of (get_or s at 0)) refl
    where
      go : (κ : Kind) → kind_of (get_or s at 0) ≡ κ → (k : FormulaKind) × (kind_of (get_or s at 0) ≡ OfFormula k)
      go (OfFormula k) q = (k, q)
      go (OfRule r) q = absurd (formula_of s (OfRule r) g.2 q)
      go Unknown q = absurd (formula_of s Unknown g.2 q)

  pub good_body : kind_of (get_or s at 0) ≡ OfFormula Proposition → (at + 1 < length s) × (get_or s (at + 1) 0 ≤ 5)
  good_body q = let i = formula_of s (OfFormula Proposition) g.2 q in (i.1, i.2)

  pub good_neg : kind_of (get_or s at 0) ≡ OfFormula Not → GoodFormula s (at + 1)
  good_neg q = let i = formula_of s (OfFormula Not) g.2 q in (i.0, g.1, i.2)

  pub good_left : (j : Junction) → kind_of (get_or s at 0) ≡ OfFormula (Join j) → GoodFormula s (at + 1)
  good_left j q = let i = formula_of s (OfFormula (Join j)) g.2 q in (i.0, i.2, i.4)

  pub good_right : (j : Junction) → kind_of (get_or s at 0) ≡ OfFormula (Join j) → (m : ℕ) → FormulaEnds s (at + 1) m → GoodFormula s m × (at < m)
  good_right j q m ends =
      let i = formula_of s (OfFormula (Join j)) g.2 q in
      let o = ends i.0 i.2 i.4 in
      let l = formula_ends s i.4 in
      (rw o (i.1, g.1, i.5), omega arith)

-- ---- the counts that were read

module _ (s : List ℕ) (at : ℕ) (c : Counts) (h : CountsAs s at c) where
  -- the counts that were read are those of the rule
  pub counts_told : HasCounts s at (get_or s (at + 1) 0) (get_or s (at + 2) 0) → CountsFit c.low c.high
  counts_told k = let f = k.fit in let l = h.low in let u = h.high in record { rising = let r = f.rising in omega arith; small = let r = f.small in omega arith }

  pub told_counts : {A B : Type 0} (made : ℕ → ℕ → A → B) (a : A) (r : B) → r ≡ made (get_or s (at + 1) 0) (get_or s (at + 2) 0) a → r ≡ made c.low c.high a
  told_counts made a r e = let l = h.low in let u = h.high in cc
