-- What is known of a rule that stands in the bytes before its table is built. Assumes nothing: these are definitions.
use Rattle.std.specs.Prelude.{ℕ, ◌+◌, ◌*◌, ◌≤◌, ◌≡◌, List}
use Rattle.definitions.specs.declared.counts.Counts.{Counts}
use Rattle.definitions.specs.Definition1.{Rule}
use Rattle.rules.specs.Places.{RuleAt}
use Rattle.rules.specs.Weight.{weight_of, weight_limit}
use Rattle.automata.specs.declared.shape.Shape.{Shape}
use Rattle.automata.specs.inner.Block.{FinalsAt}
use Rattle.automata.specs.inner.Sets.{MaybeFirst}

-- a rule stands at the place, and its table has room from base on
pub record Fits (s : List ℕ) (at base : ℕ) : Type 0 where
  pub rule : Rule
  pub past : ℕ
  pub stands : RuleAt s at rule past
  pub room : base + weight_of rule ≤ weight_limit

-- the shape of the rule r, which ends at e: its end, its weight and its finals
pub record ShapeOf (r : Rule) (e : ℕ) (h : Shape) : Type 0 where
  pub ends : h.end ≡ e
  pub weighs : h.weight ≡ weight_of r
  pub final_set : FinalsAt h.finals 0 r

-- the shape of whatever rule stands at the place
pub record ShapedAs (s : List ℕ) (at : ℕ) (h : Shape) : Type 0 where
  pub told : (r : Rule) (e : ℕ) → RuleAt s at r e → ShapeOf r e h

-- the shape of a, and its first state is final too where no part is needed
pub record MaybeShape (i : ℕ) (a r : Shape) : Type 0 where
  pub ends : r.end ≡ a.end
  pub weighs : r.weight ≡ a.weight
  pub final_set : MaybeFirst i a.finals r.finals

-- there is room for as many parts of this shape, which is a rule's, in a row as are counted
pub record RowRoom (a : Shape) (c : Counts) (base : ℕ) : Type 0 where
  pub part : Rule
  pub past : ℕ
  pub shaped : ShapeOf part past a
  pub one : 1 ≤ c.high
  pub rising : c.low ≤ c.high
  pub square : base + c.high * a.weight ≤ weight_limit
