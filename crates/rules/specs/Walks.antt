-- What the walks over a rule's bytes promise of whatever stands at a place. Assumes nothing: these are definitions.
use Rattle.std.specs.Prelude.{ℕ, ◌+◌, ◌<◌, ◌≤◌, min, ◌≡◌, List, ◌∷◌, length, get_or, drop, Result, Ok, Err}
use Rattle.bits.specs.Word.{word}
use Rattle.definitions.specs.declared.Refusal.{Refusal}
use Rattle.rules.specs.declared.names.Names.{Names}
use Rattle.rules.specs.declared.weights.Weighed.{Weighed}
use Rattle.definitions.specs.Definition1.{Formula, Rule}
use Rattle.definitions.specs.Definition2.{last_proposition}
use Rattle.rules.specs.Weight.{weight_of, counted_to}
use Rattle.rules.specs.Named.{proposition_count, formula_names, uses_of}
use Rattle.definitions.specs.Refusals.{number, place}
use Rattle.definitions.specs.Encoding.{CountsFit}
use Rattle.rules.specs.Reading.{Outcome, fault, Need, rule, formula, body, counts, Value, Rest, scan}
use Rattle.rules.specs.Places.{FormulaAt, RuleAt}

abbrev pub shown : Refusal → Outcome
shown x = fault (number x) (place x)

-- reading on from `at` with n needed first meets this refusal, whatever is needed after it
abbrev pub Fails : List ℕ → ℕ → Need → Refusal → Type 0
Fails s at n x = (ns : List Need) (k : Value n → Rest ns) → scan (drop at s) (n ∷ ns) k at ≡ shown x

-- reading at `at` comes to the end of what stands there, or to the first fault
abbrev pub BodyRead : List ℕ → ℕ → Result ℕ Refusal → Type 0
BodyRead s at (Ok e) = (at < length s) × (get_or s at 0 ≤ last_proposition) × (at + 1 ≡ e)
BodyRead s at (Err x) = Fails s at body x

abbrev pub CountsRead : List ℕ → ℕ → Result ℕ Refusal → Type 0
CountsRead s at (Ok e) = (at + 1 < length s) × CountsFit (get_or s at 0) (get_or s (at + 1) 0) × (at + 2 ≡ e)
CountsRead s at (Err x) = Fails s at counts x

abbrev pub FormulaRead : List ℕ → ℕ → Result ℕ Refusal → Type 0
FormulaRead s at (Ok e) = (f : Formula) × FormulaAt s at f e
FormulaRead s at (Err x) = Fails s at formula x

abbrev pub RuleRead : List ℕ → ℕ → Result ℕ Refusal → Type 0
RuleRead s at (Ok e) = (r : Rule) × RuleAt s at r e
RuleRead s at (Err x) = Fails s at rule x

-- the set of the propositions that the formula names, and the end
abbrev pub NamesAs : List ℕ → ℕ → Names → Type 0
NamesAs s at n = (f : Formula) (e : ℕ) → FormulaAt s at f e → (n.uses ≡ word proposition_count (formula_names f)) × (n.end ≡ e)

-- the weight, counted up to one above the limit, the set of the propositions that the rule names, and the end
abbrev pub WeighedAs : List ℕ → ℕ → Weighed → Type 0
WeighedAs s at w = (r : Rule) (e : ℕ) → RuleAt s at r e → (w.weight ≡ min counted_to (weight_of r)) × (w.uses ≡ uses_of r) × (w.end ≡ e)
