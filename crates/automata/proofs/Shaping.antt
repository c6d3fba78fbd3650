-- Laws for the walks of the builder: what the kind byte tells of a rule that stands at a place and has room. Assumes nothing.
use Prim.Native.Nat.{ℕ, zero, suc, ◌+◌, ◌*◌, ◌<◌, ◌≤◌}
use native.Mathlib.Omega.{arith}
use native.Mathlib.Nat.{le-mul_of_pos_right, mul_comm, suc-mul}
use mathlib.Core.Path.{◌≡◌, refl, sym, ap, subst, ◌∙◌}
use mathlib.Core.List.{List}
use lib.ListN.{get_or, length}
use Rattle.definitions.specs.declared.kinds.Pair.{Pair}
use Rattle.definitions.specs.declared.kinds.Pair.TheVariants.{Then, Overlap, Either, Within, Both}
use Rattle.definitions.specs.declared.kinds.Repeat.{Repeat}
use Rattle.definitions.specs.declared.kinds.RuleKind.TheVariants.{Letter, Empty, Two, Again, Counted, Occurs}
use Rattle.definitions.specs.declared.kinds.Kind.TheVariants.{OfRule}
use Rattle.definitions.specs.declared.kinds.Kind.{Kind}
use Rattle.definitions.specs.declared.kinds.RuleKind.{RuleKind}
use Rattle.definitions.specs.Definition1.{Rule, Formula, two, again, counted, occurs}
use Rattle.definitions.specs.Kinds.{kind_of}
use Rattle.definitions.specs.declared.counts.Counts.{Counts}
use Rattle.definitions.specs.Encoding.{CountsFit}
use Rattle.rules.specs.Places.{GoodRule, FormulaEnds, RuleEnds}
use Rattle.definitions.specs.Encoding.{CountsAs}
use Rattle.rules.specs.Weight.{weight_of, row_weight, pair_weight, weight_limit}
use Rattle.rules.proofs.Scan.{rule_ends}
use Rattle.rules.proofs.Walks.{rule_here, counts_told, told_counts}
use Rattle.rules.proofs.PlacesOnce.{rule_of_lem}
use Rattle.automata.specs.declared.shape.Shape.{Shape}
use Rattle.automata.specs.inner.Shapes.{Fits, ShapeOf, ShapedAs}
use Rattle.automata.specs.inner.Shapes.{RowRoom}
use Rattle.rules.proofs.Weighing.{weight_pos}
use Rattle.automata.proofs.FinalSets.{empty_set, letter_set}
use Rattle.automata.proofs.RowEnds.{none_set}

-- the kind that a walk reads off the byte at its place
pub kind_is : (b : ℕ) {k : Kind} {r q : RuleKind} → k ≡ kind_of b → k ≡ OfRule r → r ≡ q → kind_of b ≡ OfRule q
kind_is b h e f = sym h ∙ e ∙ ap OfRule f

-- an operand weighs no more than the whole
pub parts : (p : Pair) (m n : ℕ) → 1 ≤ m → 1 ≤ n → (m ≤ pair_weight p m n) × (n ≤ pair_weight p m n)
parts Then m n h k = omega arith
parts Overlap m n h k = omega arith
parts Either m n h k = omega arith
parts Within m n h k = omega arith
parts Both m n h k = (le-mul_of_pos_right m k, subst (λ (x : ℕ). n ≤ x) (mul_comm n m) (le-mul_of_pos_right n h))

-- a part weighs no more than the row
row_part : (j m : ℕ) → (j ≡ 0 → ⊥) → (row_weight j m ≡ j * m) × (m ≤ j * m)
row_part zero m n = absurd (n refl)
row_part (suc j) m n = (refl, omega (arith, suc-mul j m))

module _ (s : List ℕ) (at base : ℕ) (g : Fits s at base) where
  pub stands_good : GoodRule s at
  stands_good = (g.rule, g.past, g.stands)

  pub stands_here : at < length s
  stands_here = rule_here s at stands_good

  pub fits_again : (p : Repeat) → kind_of (get_or s at 0) ≡ OfRule (Again p) → Fits s (at + 1) base
  fits_again p q =
      let i = rule_of_lem s (OfRule (Again p)) g.stands q in
      record { rule = i.0; past = g.past; stands = i.2; room = rw i.1 at g.room }

  pub fits_first : (p : Pair) → kind_of (get_or s at 0) ≡ OfRule (Two p) → Fits s (at + 1) base
  fits_first p q =
      let i = rule_of_lem s (OfRule (Two p)) g.stands q in
      let w = parts p (weight_of i.0) (weight_of i.1) (weight_pos i.0) (weight_pos i.1) in
      let l : base + pair_weight p (weight_of i.0) (weight_of i.1) ≤ weight_limit = rw i.3 at g.room in
      record { rule = i.0; past = i.2; stands = i.4; room = omega arith }

  -- the second operand stands where the first ends, and past `at`
  pub fits_second : (p : Pair) → kind_of (get_or s at 0) ≡ OfRule (Two p) → (h : Shape) → ShapedAs s (at + 1) h → Fits s h.end base × (at < h.end)
  fits_second p q h t =
      let i = rule_of_lem s (OfRule (Two p)) g.stands q in
      let w = parts p (weight_of i.0) (weight_of i.1) (weight_pos i.0) (weight_pos i.1) in
      let l : base + pair_weight p (weight_of i.0) (weight_of i.1) ≤ weight_limit = rw i.3 at g.room in
      let o = t.told i.0 i.2 i.4 in
      (record { rule = i.1; past = g.past; stands = rw o.ends i.5; room = omega arith }, omega (arith, o.ends, rule_ends s i.4))

  -- the weights of the operands' shapes
  pub pair_weights : (p : Pair) → kind_of (get_or s at 0) ≡ OfRule (Two p) → (h k : Shape) → ShapedAs s (at + 1) h → ShapedAs s h.end k
      → (0 < h.weight) × (0 < k.weight) × (base + pair_weight p h.weight k.weight ≤ weight_limit)
  pair_weights p q h k t u =
      let i = rule_of_lem s (OfRule (Two p)) g.stands q in
      let o = t.told i.0 i.2 i.4 in
      let o' = u.told i.1 g.past (rw o.ends i.5) in
      let l : base + pair_weight p (weight_of i.0) (weight_of i.1) ≤ weight_limit = rw i.3 at g.room in
      (omega (arith, o.weighs, weight_pos i.0), omega (arith, o'.weighs, weight_pos i.1), rw (o.weighs, o'.weighs) l)

  -- counted parts, some of them allowed
  module _ (q : kind_of (get_or s at 0) ≡ OfRule Counted) (c : Counts) (h : CountsAs s at c) (some : c.high ≡ 0 → ⊥) where
    counted_square : base + c.high * weight_of (rule_of_lem s (OfRule Counted) g.stands q).0 ≤ weight_limit
    counted_square =
        let i = rule_of_lem s (OfRule Counted) g.stands q in
        let l : base + row_weight c.high (weight_of i.0) ≤ weight_limit = subst (λ (r : Rule). base + weight_of r ≤ weight_limit) (told_counts s at c h counted i.0 g.rule i.1) g.room in
        let w = row_part c.high (weight_of i.0) some in
        omega arith

    pub fits_counted : Fits s (at + 3) base
    fits_counted =
        let i = rule_of_lem s (OfRule Counted) g.stands q in
        let l = counted_square in
        let w = row_part c.high (weight_of i.0) some in
        record { rule = i.0; past = g.past; stands = i.3; room = omega arith }

    pub counted_room : (k : Shape) → ShapedAs s (at + 3) k → RowRoom k c base
    counted_room k u =
        let i = rule_of_lem s (OfRule Counted) g.stands q in
        let o = u.told i.0 g.past i.3 in
        let f = counts_told s at c h i.2 in
        record { part = i.0; past = g.past; shaped = o; one = some_one c.high some; rising = f.rising; square = rw o.weighs counted_square }
      where
        some_one : (j : ℕ) → (j ≡ 0 → ⊥) → 1 ≤ j
        some_one zero n = absurd (n refl)
        some_one (suc j) n = omega arith

  pub occurs_fits : kind_of (get_or s at 0) ≡ OfRule Occurs → (c : Counts) → CountsAs s at c → CountsFit c.low c.high × (base + (c.high + 2) ≤ weight_limit)
  occurs_fits q c h =
      let i = rule_of_lem s (OfRule Occurs) g.stands q in
      let l : base + (c.high + 2) ≤ weight_limit = subst (λ (r : Rule). base + weight_of r ≤ weight_limit) (told_counts s at c h occurs i.0 g.rule i.1) g.room in
      (counts_told s at c h i.2, l)

-- what the kind byte makes of the operands' shapes
module _ (s : List ℕ) (at : ℕ) where
  pub shaped_letter : kind_of (get_or s at 0) ≡ OfRule Letter → (x : ℕ) → FormulaEnds s (at + 1) x → ShapedAs s at (record { end = x; weight = 2; finals = 2 })
  shaped_letter q x fe = record {
    told = λ r e d. let i = rule_of_lem s (OfRule Letter) d q in rw i.1 (record { ends = fe i.0 e i.2; weighs = refl; final_set = letter_set i.0 });
  }

  pub shaped_empty : kind_of (get_or s at 0) ≡ OfRule Empty → ShapedAs s at (record { end = at + 1; weight = 1; finals = 1 })
  shaped_empty q = record {
    told = λ r e d. let i = rule_of_lem s (OfRule Empty) d q in rw i.0 (record { ends = i.1; weighs = refl; final_set = empty_set });
  }

  pub shaped_again : (p : Repeat) → kind_of (get_or s at 0) ≡ OfRule (Again p) → (h k : Shape) → ShapedAs s (at + 1) h
      → ((x : Rule) (e : ℕ) → ShapeOf x e h → ShapeOf (again p x) e k) → ShapedAs s at k
  shaped_again p q h k t f = record {
    told = λ r e d. let i = rule_of_lem s (OfRule (Again p)) d q in rw i.1 (f i.0 e (t.told i.0 e i.2));
  }

  pub shaped_two : (p : Pair) → kind_of (get_or s at 0) ≡ OfRule (Two p) → (h k w : Shape) → ShapedAs s (at + 1) h → ShapedAs s h.end k
      → ((x y : Rule) (d e : ℕ) → ShapeOf x d h → ShapeOf y e k → ShapeOf (two p x y) e w) → ShapedAs s at w
  shaped_two p q h k w t u f = record {
    told = λ r e d.
        let i = rule_of_lem s (OfRule (Two p)) d q in
        let o = t.told i.0 i.2 i.4 in
        rw i.3 (f i.0 i.1 i.2 e o (u.told i.1 e (rw o.ends i.5)));
  }

  -- no part is allowed: none of the operand counts
  pub shaped_none : kind_of (get_or s at 0) ≡ OfRule Counted → (c : Counts) → CountsAs s at c → c.high ≡ 0 → (x : ℕ) → RuleEnds s (at + 3) x → ShapedAs s at (record { end = x; weight = 1; finals = 1 })
  shaped_none q c h z x re = record {
    told = λ r e d.
        let i = rule_of_lem s (OfRule Counted) d q in
        let f = counts_told s at c h i.2 in
        let l : c.low ≡ 0 = let u = f.rising in omega arith in
        let y : r ≡ counted c.low 0 i.0 = told_counts s at c h counted i.0 r i.1 ∙ ap (λ (j : ℕ). counted c.low j i.0) z in
        rw y (record { ends = re i.0 e i.3; weighs = refl; final_set = none_set c.low i.0 l });
  }

  pub shaped_counted : kind_of (get_or s at 0) ≡ OfRule Counted → (c : Counts) → CountsAs s at c → (h k : Shape) → ShapedAs s (at + 3) h
      → ((x : Rule) (e : ℕ) → ShapeOf x e h → ShapeOf (counted c.low c.high x) e k) → ShapedAs s at k
  shaped_counted q c a h k t f = record {
    told = λ r e d. let i = rule_of_lem s (OfRule Counted) d q in rw (told_counts s at c a counted i.0 r i.1) (f i.0 e (t.told i.0 e i.3));
  }

  pub shaped_occurs : kind_of (get_or s at 0) ≡ OfRule Occurs → (c : Counts) → CountsAs s at c → (x : ℕ) (k : Shape) → FormulaEnds s (at + 3) x → ((f : Formula) → ShapeOf (occurs c.low c.high f) x k) → ShapedAs s at k
  shaped_occurs q c a x k fe f = record {
    told = λ r e d.
        let i = rule_of_lem s (OfRule Occurs) d q in
        rw (told_counts s at c a occurs i.0 r i.1) (subst (λ (n : ℕ). ShapeOf (occurs c.low c.high i.0) n k) (fe i.0 e i.3) (f i.0));
  }
