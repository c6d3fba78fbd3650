-- The house form: the table of kinds. Assumes nothing: these are definitions.
use Rattle.std.specs.Prelude.{ℕ, cond, List, [], ◌∷◌, eqb}
use Rattle.definitions.specs.declared.kinds.Junction.TheVariants.{And, Or}
use Rattle.definitions.specs.declared.kinds.FormulaKind.TheVariants.{Proposition, Truth, Falsity, Not, Join}
use Rattle.definitions.specs.declared.kinds.Pair.TheVariants.{Then, Overlap, Either, Within, Both}
use Rattle.definitions.specs.declared.kinds.Repeat.TheVariants.{Star, Plus}
use Rattle.definitions.specs.declared.kinds.RuleKind.TheVariants.{Letter, Empty, Two, Again, Counted, Occurs}
use Rattle.definitions.specs.declared.kinds.Kind.{Kind}
use Rattle.definitions.specs.declared.kinds.Kind.TheVariants.{OfFormula, OfRule, Unknown}

-- a row of the table: a kind byte and what it says
pub record Row : Type 0 where
  pub byte : ℕ
  pub says : Kind

abbrev pub row : ℕ → Kind → Row
row b k = record { byte = b; says = k }

abbrev pub table : List Row
table =
    row 0x01 (OfFormula Proposition)
    ∷ row 0x02 (OfFormula Truth)
    ∷ row 0x03 (OfFormula Falsity)
    ∷ row 0x04 (OfFormula Not)
    ∷ row 0x05 (OfFormula (Join And))
    ∷ row 0x06 (OfFormula (Join Or))
    ∷ row 0x10 (OfRule Letter)
    ∷ row 0x11 (OfRule Empty)
    ∷ row 0x12 (OfRule (Two Then))
    ∷ row 0x13 (OfRule (Two Overlap))
    ∷ row 0x14 (OfRule (Two Either))
    ∷ row 0x15 (OfRule (Two Within))
    ∷ row 0x16 (OfRule (Two Both))
    ∷ row 0x17 (OfRule (Again Star))
    ∷ row 0x18 (OfRule (Again Plus))
    ∷ row 0x19 (OfRule Counted)
    ∷ row 0x1A (OfRule Occurs)
    ∷ []

-- the first row that has the byte; `cond` is the first of two where a test is true, else the second
abbrev pub lookup : List Row → ℕ → Kind
lookup [] b = Unknown
lookup (r ∷ rs) b = cond (eqb b r.byte) r.says (lookup rs b)

-- what a kind byte says; a byte that no row has is unknown
unfoldable pub kind_of : ℕ → Kind
kind_of b = lookup table b
