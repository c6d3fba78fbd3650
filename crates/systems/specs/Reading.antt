-- How a system is read: one pass over the bytes with a list of what is still needed, as a rule is. The first fault in reading order is the answer.
-- Assumes nothing: these are definitions.
use Rattle.std.specs.Prelude.{Bool, true, false, cond, ℕ, ◌+◌, List, [], ◌∷◌, eqb, leb}
use Rattle.definitions.specs.declared.kinds.FormulaKind.{FormulaKind}
use Rattle.definitions.specs.declared.kinds.FormulaKind.TheVariants.{Proposition, Truth, Falsity, Not, Join}
use Rattle.definitions.specs.Definition1.{Formula, prop, yea, nay, neg, join}
use Rattle.systems.specs.declared.kinds.SystemKind.{SystemKind}
use Rattle.systems.specs.declared.kinds.SystemKind.TheVariants.{Plain, Next, Elsewhere, Nothing}
use Rattle.systems.specs.Kinds.{initial_mark, step_mark, kind_of}

-- the variables of a state are the propositions up to this; those of the next state come after them
abbrev pub last_variable : ℕ
last_variable = 5

abbrev pub variable_count : ℕ
variable_count = 6

-- what reading comes to: the formula for the initial states and the one for the step, or a refusal's number and place
pub data Outcome : Type 0 where
  good : Formula → Formula → Outcome
  fault : ℕ → ℕ → Outcome

-- what is needed next: one of the two marks, a formula, which may name variables of the next state or not, or a variable's body byte
pub data Need : Type 0 where
  mark : ℕ → Need
  formula : Bool → Need
  body : Need

abbrev pub Value : Need → Type 0
Value (mark m) = Unit {0}
Value (formula next) = Formula
Value body = ℕ

-- what makes the outcome of the values that are still needed, in order
abbrev pub Rest : List Need → Type 0
Rest [] = Outcome
Rest (n ∷ ns) = Value n → Rest ns

-- reading on, with these needs, at this place
abbrev pub On : Type 0
On = (ns : List Need) → Rest ns → ℕ → Outcome

-- a byte that is not what is needed: 3 for a kind of no table, else 4
abbrev pub misplaced : SystemKind → ℕ → Outcome
misplaced Nothing at = fault 3 at
misplaced (Plain k) at = fault 4 at
misplaced Next at = fault 4 at
misplaced Elsewhere at = fault 4 at

abbrev pub take_mark : ℕ → ℕ → On → (ns : List Need) → (Unit {0} → Rest ns) → ℕ → Outcome
take_mark m b on ns k at = cond (eqb b m) (on ns (k tt) (at + 1)) (misplaced (kind_of b) at)

-- a formula is needed, and the byte at `at` has this kind: its operands are needed next
abbrev pub formula_kind : FormulaKind → Bool → On → (ns : List Need) → (Formula → Rest ns) → ℕ → Outcome
formula_kind Proposition next on ns k at = on (body ∷ ns) (λ i. k (prop i)) (at + 1)
formula_kind Truth next on ns k at = on ns (k yea) (at + 1)
formula_kind Falsity next on ns k at = on ns (k nay) (at + 1)
formula_kind Not next on ns k at = on (formula next ∷ ns) (λ f. k (neg f)) (at + 1)
formula_kind (Join j) next on ns k at = on (formula next ∷ formula next ∷ ns) (λ f g. k (join j f g)) (at + 1)

-- variable i of the next state is proposition 6 + i
abbrev pub take_next : Bool → On → (ns : List Need) → (Formula → Rest ns) → ℕ → Outcome
take_next true on ns k at = on (body ∷ ns) (λ i. k (prop (variable_count + i))) (at + 1)
take_next false on ns k at = fault 4 at

abbrev pub take_formula : SystemKind → Bool → On → (ns : List Need) → (Formula → Rest ns) → ℕ → Outcome
take_formula (Plain f) next on ns k at = formula_kind f next on ns k at
take_formula Next next on ns k at = take_next next on ns k at
take_formula Elsewhere next on ns k at = fault 4 at
take_formula Nothing next on ns k at = fault 3 at

abbrev pub take_body : ℕ → On → (ns : List Need) → (ℕ → Rest ns) → ℕ → Outcome
take_body b on ns k at = cond (leb b last_variable) (on ns (k b) (at + 1)) (fault 5 at)

-- reading bytes: the needs in order, what is made of them, and the place of the first byte
abbrev pub scan : List ℕ → On
scan [] [] k at = k
scan [] (n ∷ ns) k at = fault 2 at
scan (b ∷ bs) [] k at = fault 6 at
scan (b ∷ bs) (mark m ∷ ns) k at = take_mark m b (scan bs) ns k at
scan (b ∷ bs) (formula next ∷ ns) k at = take_formula (kind_of b) next (scan bs) ns k at
scan (b ∷ bs) (body ∷ ns) k at = take_body b (scan bs) ns k at

-- a whole system: in the second formula alone variables of the next state have a place
abbrev pub parts : List Need
parts = mark initial_mark ∷ formula false ∷ mark step_mark ∷ formula true ∷ []

-- the two formulas that the bytes are, or their first fault
abbrev pub parse : List ℕ → Outcome
parse s = scan s parts (λ i f m g. good f g) 0
