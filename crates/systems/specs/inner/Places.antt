-- Which formula stands at a place of the bytes. Assumes nothing: these are definitions.
use Rattle.std.specs.Prelude.{ℕ, ◌+◌, ◌<◌, ◌≤◌, ◌≡◌, Bool, true, List, length, get_or}
use Rattle.definitions.specs.declared.kinds.Junction.{Junction}
use Rattle.definitions.specs.declared.kinds.FormulaKind.TheVariants.{Proposition, Truth, Falsity, Not, Join}
use Rattle.definitions.specs.Definition1.{Formula, prop, yea, nay, neg, join}
use Rattle.systems.specs.declared.kinds.SystemKind.{SystemKind}
use Rattle.systems.specs.declared.kinds.SystemKind.TheVariants.{Plain, Next}
use Rattle.systems.specs.Kinds.{kind_of}
use Rattle.systems.specs.Reading.{last_variable, variable_count}

-- at the place stands a byte of this kind
pub record Here (s : List ℕ) (at : ℕ) (k : SystemKind) : Type 0 where
  pub inside : at < length s
  pub says : kind_of (get_or s at 0) ≡ k

-- at the place stands the body of the variable i, and it ends at e
pub record BodyHere (s : List ℕ) (at i e : ℕ) : Type 0 where
  pub inside : at < length s
  pub byte : get_or s at 0 ≡ i
  pub small : i ≤ last_variable
  pub ends : at + 1 ≡ e

-- the bytes from `at` up to, not including, `e` spell the formula; `next`: it may name variables of the next state
pub data FormulaAt (s : List ℕ) (next : Bool) : ℕ → Formula → ℕ → Type 0 where
  a_prop : {at i e : ℕ} → Here s at (Plain Proposition) → BodyHere s (at + 1) i e → FormulaAt s next at (prop i) e
  a_next : {at i e : ℕ} → next ≡ true → Here s at Next → BodyHere s (at + 1) i e → FormulaAt s next at (prop (variable_count + i)) e
  a_yea : {at e : ℕ} → Here s at (Plain Truth) → at + 1 ≡ e → FormulaAt s next at yea e
  a_nay : {at e : ℕ} → Here s at (Plain Falsity) → at + 1 ≡ e → FormulaAt s next at nay e
  a_neg : {at e : ℕ} {f : Formula} → Here s at (Plain Not) → FormulaAt s next (at + 1) f e → FormulaAt s next at (neg f) e
  a_join : {at m e : ℕ} {j : Junction} {f g : Formula} → Here s at (Plain (Join j)) → FormulaAt s next (at + 1) f m → FormulaAt s next m g e → FormulaAt s next at (join j f g) e

-- some formula stands at the place
abbrev pub GoodFormula : List ℕ → Bool → ℕ → Type 0
GoodFormula s next at = (f : Formula) × (e : ℕ) × FormulaAt s next at f e
