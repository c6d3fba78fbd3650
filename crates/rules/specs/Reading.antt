-- How a rule is read: one pass over the bytes with a list of what is still needed. The first fault in reading order is the answer.
-- Assumes nothing: these are definitions.
use Rattle.std.specs.Prelude.{cond, ℕ, ◌+◌, List, [], ◌∷◌, leb}
use Rattle.definitions.specs.declared.kinds.FormulaKind.{FormulaKind}
use Rattle.definitions.specs.declared.kinds.FormulaKind.TheVariants.{Proposition, Truth, Falsity, Not, Join}
use Rattle.definitions.specs.declared.kinds.RuleKind.{RuleKind}
use Rattle.definitions.specs.declared.kinds.RuleKind.TheVariants.{Letter, Empty, Two, Again, Counted, Occurs}
use Rattle.definitions.specs.declared.kinds.Kind.{Kind}
use Rattle.definitions.specs.declared.kinds.Kind.TheVariants.{OfFormula, OfRule, Unknown}
use Rattle.definitions.specs.Definition2.{last_proposition}
use Rattle.definitions.specs.Definition1.{Formula, prop, yea, nay, neg, join, Rule, letter, empty, two, again, counted, occurs}
use Rattle.definitions.specs.Kinds.{kind_of}
use Rattle.definitions.specs.Encoding.{counts_do_fit}

-- what reading comes to: a rule, or a refusal's number and place
pub data Outcome : Type 0 where
  good : Rule → Outcome
  fault : ℕ → ℕ → Outcome

-- what is needed next: a rule, a formula, a proposition's body byte, or two counts
pub data Need : Type 0 where
  rule formula body counts : Need

abbrev pub Value : Need → Type 0
Value rule = Rule
Value formula = Formula
Value body = ℕ
Value counts = ℕ × ℕ

-- what makes the rule of the values that are still needed, in order
abbrev pub Rest : List Need → Type 0
Rest [] = Rule
Rest (n ∷ ns) = Value n → Rest ns

-- reading on, with these needs, at this place
abbrev pub On : Type 0
On = (ns : List Need) → Rest ns → ℕ → Outcome

-- a rule is needed, and the byte at `at` has this kind: its operands are needed next
abbrev pub rule_kind : RuleKind → On → (ns : List Need) → (Rule → Rest ns) → ℕ → Outcome
rule_kind Letter on ns k at = on (formula ∷ ns) (λ f. k (letter f)) (at + 1)
rule_kind Empty on ns k at = on ns (k empty) (at + 1)
rule_kind (Two p) on ns k at = on (rule ∷ rule ∷ ns) (λ a b. k (two p a b)) (at + 1)
rule_kind (Again p) on ns k at = on (rule ∷ ns) (λ a. k (again p a)) (at + 1)
rule_kind Counted on ns k at = on (counts ∷ rule ∷ ns) (λ c a. k (counted c.0 c.1 a)) (at + 1)
rule_kind Occurs on ns k at = on (counts ∷ formula ∷ ns) (λ c f. k (occurs c.0 c.1 f)) (at + 1)

abbrev pub formula_kind : FormulaKind → On → (ns : List Need) → (Formula → Rest ns) → ℕ → Outcome
formula_kind Proposition on ns k at = on (body ∷ ns) (λ i. k (prop i)) (at + 1)
formula_kind Truth on ns k at = on ns (k yea) (at + 1)
formula_kind Falsity on ns k at = on ns (k nay) (at + 1)
formula_kind Not on ns k at = on (formula ∷ ns) (λ f. k (neg f)) (at + 1)
formula_kind (Join j) on ns k at = on (formula ∷ formula ∷ ns) (λ f g. k (join j f g)) (at + 1)

abbrev pub take_rule : Kind → On → (ns : List Need) → (Rule → Rest ns) → ℕ → Outcome
take_rule (OfRule r) on ns k at = rule_kind r on ns k at
take_rule (OfFormula f) on ns k at = fault 4 at
take_rule Unknown on ns k at = fault 3 at

abbrev pub take_formula : Kind → On → (ns : List Need) → (Formula → Rest ns) → ℕ → Outcome
take_formula (OfRule r) on ns k at = fault 4 at
take_formula (OfFormula f) on ns k at = formula_kind f on ns k at
take_formula Unknown on ns k at = fault 3 at

abbrev pub take_body : ℕ → On → (ns : List Need) → (ℕ → Rest ns) → ℕ → Outcome
take_body b on ns k at = cond (leb b last_proposition) (on ns (k b) (at + 1)) (fault 5 at)

abbrev pub take_counts : ℕ → ℕ → On → (ns : List Need) → (ℕ × ℕ → Rest ns) → ℕ → Outcome
take_counts i j on ns k at = cond (counts_do_fit i j) (on ns (k (i, j)) (at + 2)) (fault 8 at)

-- reading bytes: the needs in order, what is made of them, and the place of the first byte. Counts are looked at once both are there
abbrev pub scan : List ℕ → On
scan [] [] k at = good k
scan [] (n ∷ ns) k at = fault 2 at
scan (b ∷ bs) [] k at = fault 6 at
scan (b ∷ bs) (rule ∷ ns) k at = take_rule (kind_of b) (scan bs) ns k at
scan (b ∷ bs) (formula ∷ ns) k at = take_formula (kind_of b) (scan bs) ns k at
scan (b ∷ bs) (body ∷ ns) k at = take_body b (scan bs) ns k at
scan (i ∷ []) (counts ∷ ns) k at = fault 2 (at + 1)
scan (i ∷ j ∷ bs) (counts ∷ ns) k at = take_counts i j (scan bs) ns k at
