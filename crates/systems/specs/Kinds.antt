-- The kinds of request 2026-08: the rules' table, and three of its own (07, 30, 31). Assumes nothing: these are definitions.
use Rattle.std.specs.Prelude.{ℕ, cond, eqb}
use Rattle.definitions.specs.declared.kinds.Kind as rules-kind
use Rattle.definitions.specs.declared.kinds.Kind.TheVariants.{OfFormula, OfRule, Unknown}
use Rattle.definitions.specs.Kinds as rules
use Rattle.systems.specs.declared.kinds.SystemKind.{SystemKind}
use Rattle.systems.specs.declared.kinds.SystemKind.TheVariants.{Plain, Next, Elsewhere, Nothing}

-- the bytes before the two formulas
abbrev pub initial_mark : ℕ
initial_mark = 0x30

abbrev pub step_mark : ℕ
step_mark = 0x31

-- the kind of a variable of the next state
abbrev pub next_kind : ℕ
next_kind = 0x07

-- a rule's kinds are known, and have no place in a system
abbrev pub of_rules_of : rules-kind.Kind → SystemKind
of_rules_of (OfFormula k) = Plain k
of_rules_of (OfRule k) = Elsewhere
of_rules_of Unknown = Nothing

-- what a kind byte says
unfoldable pub kind_of : ℕ → SystemKind
kind_of b = cond (eqb b next_kind) Next (cond (eqb b initial_mark) Elsewhere (cond (eqb b step_mark) Elsewhere (of_rules_of (rules.kind_of b))))
