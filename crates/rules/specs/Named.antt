-- Which propositions a formula and a rule name: those that stand in them, whether or not they matter to the meaning. Assumes nothing: these are definitions.
use Rattle.std.specs.Prelude.{ℕ, ◌+◌, Bool, false, ◌||◌, eqb}
use Rattle.bits.specs.Word.{word}
use Rattle.definitions.specs.Definition1.{Formula, prop, yea, nay, neg, join, Rule, letter, empty, two, again, counted, occurs}
use Rattle.definitions.specs.Definition2.{last_proposition}

abbrev pub proposition_count : ℕ
proposition_count = last_proposition + 1

-- whether the formula names proposition i
unfoldable pub formula_names : Formula → ℕ → Bool
formula_names (prop j) i = eqb i j
formula_names yea i = false
formula_names nay i = false
formula_names (neg f) i = formula_names f i
formula_names (join j f g) i = formula_names f i || formula_names g i

-- whether the rule names proposition i
unfoldable pub rule_names : Rule → ℕ → Bool
rule_names (letter f) i = formula_names f i
rule_names empty i = false
rule_names (two p a b) i = rule_names a i || rule_names b i
rule_names (again p a) i = rule_names a i
rule_names (counted l h a) i = rule_names a i
rule_names (occurs l h f) i = formula_names f i

-- the set of the propositions that it names, bit i for proposition i
abbrev pub uses_of : Rule → ℕ
uses_of r = word proposition_count (rule_names r)
