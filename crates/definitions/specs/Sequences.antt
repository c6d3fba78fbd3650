-- The sequences to hold Definition 2 to, as one list. Assumes nothing: these are definitions.
use Rattle.std.specs.Prelude.{ℕ, Bool, true, false, not, List, [], ◌∷◌, T}
use Rattle.definitions.specs.declared.kinds.Pair.TheVariants.{Then, Overlap, Within, Both}
use Rattle.definitions.specs.declared.kinds.Repeat.TheVariants.{Star, Plus}
use Rattle.definitions.specs.Definition1.{prop, Rule, letter, empty, two, again, counted, occurs}
use Rattle.definitions.specs.Definition2.{Sat}

-- a rule, a sequence, and whether the rule accepts it
pub record Case : Type 0 where
  pub rule : Rule
  pub sequence : List ℕ
  pub says : Bool

abbrev pub yes_on : Rule → List ℕ → Case
yes_on r w = record { rule = r; sequence = w; says = true }

abbrev pub no_on : Rule → List ℕ → Case
no_on r w = record { rule = r; sequence = w; says = false }

-- what the case says is what Definition 2 says
abbrev pub CaseRight : Case → Type 0
CaseRight c = (T c.says → Sat c.rule c.sequence) × (T (not c.says) → Sat c.rule c.sequence → ⊥)

abbrev pub AllRight : List Case → Type 0
AllRight [] = Unit {0}
AllRight (c ∷ cs) = CaseRight c × AllRight cs

abbrev pub p0 : Rule
p0 = letter (prop 0)

abbrev pub p1 : Rule
p1 = letter (prop 1)

abbrev pub p0_then_p1 : Rule
p0_then_p1 = two Then p0 p1

-- three to five expiries, one after the other; and wherever they stand
abbrev pub three_to_five : Rule
three_to_five = counted 3 5 p0

abbrev pub three_to_five_anywhere : Rule
three_to_five_anywhere = occurs 3 5 (prop 0)

abbrev pub sequences : List Case
sequences =
    yes_on empty []
    ∷ no_on empty (0 ∷ [])
    ∷ yes_on p0 (1 ∷ [])
    ∷ no_on p0 []
    ∷ no_on p0 (1 ∷ 1 ∷ [])
    ∷ yes_on (two Overlap p0 p1) (3 ∷ [])
    ∷ no_on (two Overlap p0 p1) (1 ∷ 2 ∷ [])
    ∷ yes_on p0_then_p1 (1 ∷ 2 ∷ [])
    ∷ no_on p0_then_p1 (3 ∷ [])
    ∷ yes_on (two Within p0 p0_then_p1) (1 ∷ 2 ∷ [])
    ∷ no_on (two Within p0 p0_then_p1) (1 ∷ [])
    ∷ no_on (two Both p0 p0_then_p1) (1 ∷ 2 ∷ [])
    ∷ yes_on (again Plus empty) []
    ∷ no_on (two Overlap (again Star p0) (again Star p0)) []
    ∷ no_on three_to_five (1 ∷ 1 ∷ [])
    ∷ yes_on three_to_five (1 ∷ 1 ∷ 1 ∷ [])
    ∷ yes_on three_to_five (1 ∷ 1 ∷ 1 ∷ 1 ∷ 1 ∷ [])
    ∷ no_on three_to_five (1 ∷ 1 ∷ 1 ∷ 1 ∷ 1 ∷ 1 ∷ [])
    ∷ no_on three_to_five (1 ∷ 1 ∷ 0 ∷ 1 ∷ [])
    ∷ yes_on (counted 3 3 empty) []
    ∷ yes_on (counted 2 2 (again Star p0)) (1 ∷ [])
    ∷ yes_on (counted 0 0 p0) []
    ∷ no_on (counted 0 0 p0) (1 ∷ [])
    ∷ no_on three_to_five_anywhere (1 ∷ 0 ∷ 1 ∷ 0 ∷ [])
    ∷ yes_on three_to_five_anywhere (2 ∷ 1 ∷ 0 ∷ 1 ∷ 1 ∷ 0 ∷ [])
    ∷ no_on three_to_five_anywhere (1 ∷ 1 ∷ 1 ∷ 0 ∷ 1 ∷ 1 ∷ 1 ∷ [])
    ∷ yes_on (occurs 0 0 (prop 0)) []
    ∷ yes_on (occurs 0 0 (prop 0)) (0 ∷ 2 ∷ [])
    ∷ no_on (occurs 0 0 (prop 0)) (0 ∷ 1 ∷ [])
    ∷ []
