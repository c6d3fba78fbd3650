-- What the walk that fills a table asks and promises, and what each operator does to its operands' blocks. Assumes nothing: these are definitions.
use Rattle.std.specs.Prelude.{ℕ, ◌+◌, ◌<◌, ◌≤◌, ◌≡◌, List, length}
use Rattle.definitions.specs.declared.kinds.Pair.{Pair}
use Rattle.definitions.specs.declared.kinds.Pair.TheVariants.{Then, Overlap, Either, Within, Both}
use Rattle.definitions.specs.declared.kinds.Repeat.{Repeat}
use Rattle.bits.specs.Word.{word}
use Rattle.definitions.specs.declared.counts.Counts.{Counts}
use Rattle.definitions.specs.Definition1.{Rule, Formula, two, again, counted, occurs}
use Rattle.definitions.specs.Definition2.{letter_count, holds}
use Rattle.rules.specs.Places.{RuleAt}
use Rattle.rules.specs.Weight.{weight_of, pair_weight, weight_limit}
use Rattle.automata.specs.declared.shape.Shape.{Shape}
use Rattle.std.specs.Prelude.{Option, Some, None}
use Rattle.automata.specs.Table.{table_entries}
use Rattle.automata.specs.inner.Cells.{Clean}
use Rattle.automata.specs.inner.Block.{Beside, Built}
use Rattle.automata.specs.inner.Shapes.{ShapeOf}

-- the slice is long enough for a table, and has no label from base on
pub record Ready (t : List ℕ) (base : ℕ) : Type 0 where
  pub long : table_entries ≤ length t
  pub clean : Clean t base

-- t' is t with the labels of whatever rule stands at the place, from base on
pub record BuiltAt (s : List ℕ) (at : ℕ) (t t' : List ℕ) (base : ℕ) : Type 0 where
  pub built : (r : Rule) (e : ℕ) → RuleAt s at r e → Built t t' base r

-- where the operands of an operator stand whose own square is at base: `|` and `&` have a state before them
abbrev pub operands_from : Pair → ℕ → ℕ
operands_from Then base = base
operands_from Overlap base = base
operands_from Either base = base + 1
operands_from Within base = base + 1
operands_from Both base = base

-- there is room for the operator's square, and for its operands in it
pub record Room (p : Pair) (a b : Shape) (t : List ℕ) (base : ℕ) : Type 0 where
  pub long : table_entries ≤ length t
  pub first_some : 0 < a.weight
  pub second_some : 0 < b.weight
  pub square : base + pair_weight p a.weight b.weight ≤ weight_limit
  pub inside : operands_from p base + (a.weight + b.weight) ≤ base + pair_weight p a.weight b.weight

-- where t has the blocks of two rules of these shapes, t' has the operator's
pub record Joins (p : Pair) (a b : Shape) (t t' : List ℕ) (base : ℕ) : Type 0 where
  pub joined : (t₀ : List ℕ) (x y : Rule) (d e : ℕ) → Clean t₀ base → ShapeOf x d a → ShapeOf y e b → Beside t₀ t (operands_from p base) x y → Built t₀ t' base (two p x y)

-- where t has the block of a rule of this shape, t' has that of either repetition
pub record Repeats (a : Shape) (t t' : List ℕ) (base : ℕ) : Type 0 where
  pub repeated : (t₀ : List ℕ) (p : Repeat) (x : Rule) (e : ℕ) → ShapeOf x e a → Built t₀ t base x → Built t₀ t' base (again p x)

-- where t has the block of a rule of this shape, t' has that of the counted parts in a row
pub record RowOf (a : Shape) (c : Counts) (t t' : List ℕ) (base : ℕ) : Type 0 where
  pub rowed : (t₀ : List ℕ) (x : Rule) (e : ℕ) → Clean t₀ base → ShapeOf x e a → Built t₀ t base x → Built t₀ t' base (counted c.low c.high x)

-- t' has the block of the counted letters; label is the formula's
pub record TallyOf (label j : ℕ) (t t' : List ℕ) (base : ℕ) : Type 0 where
  pub tally : (i : ℕ) (f : Formula) → Clean t base → label ≡ word letter_count (holds f) → Built t t' base (occurs i j f)

-- where the operands are wanted: in the operator's square, or nowhere, since it has no label
pub data Placed (p : Pair) (base m n : ℕ) : Option ℕ → Type 0 where
  nowhere : ((t : List ℕ) (x y : Rule) → Clean t base → m ≡ weight_of x → n ≡ weight_of y → Built t t base (two p x y)) → Placed p base m n None
  from : (lo : ℕ) → lo ≡ operands_from p base → base ≤ lo → lo + (m + n) ≤ base + pair_weight p m n → Placed p base m n (Some lo)

-- so for whatever operands stand behind the place
pub record PlacedAt (s : List ℕ) (at : ℕ) (p : Pair) (base : ℕ) (r : Option ℕ) : Type 0 where
  pub placed : (x y : Rule) (d e : ℕ) → RuleAt s (at + 1) x d → RuleAt s d y e → base + pair_weight p (weight_of x) (weight_of y) ≤ weight_limit
      → Placed p base (weight_of x) (weight_of y) r
