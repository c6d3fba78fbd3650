-- Which formula or rule stands at a place of the bytes: there is no tree in memory, so walks over a rule speak of this.
-- Assumes nothing: these are definitions.
use Rattle.std.specs.Prelude.{ℕ, ◌+◌, ◌<◌, ◌≤◌, ◌≡◌, List, length, get_or}
use Rattle.definitions.specs.declared.kinds.Junction.{Junction}
use Rattle.definitions.specs.declared.kinds.FormulaKind.TheVariants.{Proposition, Truth, Falsity, Not, Join}
use Rattle.definitions.specs.declared.kinds.Pair.{Pair}
use Rattle.definitions.specs.declared.kinds.Repeat.{Repeat}
use Rattle.definitions.specs.declared.kinds.RuleKind.TheVariants.{Letter, Empty, Two, Again, Counted, Occurs}
use Rattle.definitions.specs.declared.kinds.Kind.{Kind}
use Rattle.definitions.specs.declared.kinds.Kind.TheVariants.{OfFormula, OfRule}
use Rattle.definitions.specs.Definition1.{Formula, prop, yea, nay, neg, join, Rule, letter, empty, two, again, counted, occurs}
use Rattle.definitions.specs.Definition2.{last_proposition}
use Rattle.definitions.specs.Kinds.{kind_of}
use Rattle.definitions.specs.Encoding.{CountsFit}

-- at the place stands a byte of this kind
pub record Here (s : List ℕ) (at : ℕ) (k : Kind) : Type 0 where
  pub inside : at < length s
  pub says : kind_of (get_or s at 0) ≡ k

-- the bytes from `at` up to, not including, `e` spell the formula
pub data FormulaAt (s : List ℕ) : ℕ → Formula → ℕ → Type 0 where
  a_prop : {at i e : ℕ} → Here s at (OfFormula Proposition) → at + 1 < length s → get_or s (at + 1) 0 ≡ i → i ≤ last_proposition → at + 1 + 1 ≡ e → FormulaAt s at (prop i) e
  a_yea : {at e : ℕ} → Here s at (OfFormula Truth) → at + 1 ≡ e → FormulaAt s at yea e
  a_nay : {at e : ℕ} → Here s at (OfFormula Falsity) → at + 1 ≡ e → FormulaAt s at nay e
  a_neg : {at e : ℕ} {f : Formula} → Here s at (OfFormula Not) → FormulaAt s (at + 1) f e → FormulaAt s at (neg f) e
  a_join : {at m e : ℕ} {j : Junction} {f g : Formula} → Here s at (OfFormula (Join j)) → FormulaAt s (at + 1) f m → FormulaAt s m g e → FormulaAt s at (join j f g) e

-- after the kind byte at `at` stand the counts i and j
pub record HasCounts (s : List ℕ) (at i j : ℕ) : Type 0 where
  pub inside : at + 2 < length s
  pub first : get_or s (at + 1) 0 ≡ i
  pub second : get_or s (at + 2) 0 ≡ j
  pub fit : CountsFit i j

-- the bytes from `at` up to, not including, `e` spell the rule
pub data RuleAt (s : List ℕ) : ℕ → Rule → ℕ → Type 0 where
  a_letter : {at e : ℕ} {f : Formula} → Here s at (OfRule Letter) → FormulaAt s (at + 1) f e → RuleAt s at (letter f) e
  a_empty : {at e : ℕ} → Here s at (OfRule Empty) → at + 1 ≡ e → RuleAt s at empty e
  a_two : {at m e : ℕ} {p : Pair} {a b : Rule} → Here s at (OfRule (Two p)) → RuleAt s (at + 1) a m → RuleAt s m b e → RuleAt s at (two p a b) e
  a_again : {at e : ℕ} {p : Repeat} {a : Rule} → Here s at (OfRule (Again p)) → RuleAt s (at + 1) a e → RuleAt s at (again p a) e
  a_counted : {at i j e : ℕ} {a : Rule} → Here s at (OfRule Counted) → HasCounts s at i j → RuleAt s (at + 3) a e → RuleAt s at (counted i j a) e
  an_occurs : {at i j e : ℕ} {f : Formula} → Here s at (OfRule Occurs) → HasCounts s at i j → FormulaAt s (at + 3) f e → RuleAt s at (occurs i j f) e

-- some formula, some rule, stands at the place
abbrev pub GoodFormula : List ℕ → ℕ → Type 0
GoodFormula s at = (f : Formula) × (e : ℕ) × FormulaAt s at f e

abbrev pub GoodRule : List ℕ → ℕ → Type 0
GoodRule s at = (r : Rule) × (e : ℕ) × RuleAt s at r e

-- p is the place after whatever stands at the place
abbrev pub FormulaEnds : List ℕ → ℕ → ℕ → Type 0
FormulaEnds s at p = (f : Formula) (e : ℕ) → FormulaAt s at f e → p ≡ e

abbrev pub RuleEnds : List ℕ → ℕ → ℕ → Type 0
RuleEnds s at p = (r : Rule) (e : ℕ) → RuleAt s at r e → p ≡ e
