-- `systems::kinds::kind_of` meets its contract: each arm is a kind of the system's own, and any other byte says what it says in a rule. Assumes nothing.
use mathlib.Core.Path.{sym, ap, ◌∙◌}
use borrow.Author.Rules.{rules}
use borrow.Author.Tests.{ne_eqb}
use Rattle.systems.specs.Kinds.{of_rules_of, kind_of}
use Rattle.systems.proofs.kinds.kind_of.Goals as goal

pub returns-in-7 : goal.returns-in-7
unfolding kind_of
returns-in-7 c = sym (ap kind_of c.in-7.is)

pub returns-in-48 : goal.returns-in-48
unfolding kind_of
returns-in-48 c = sym (ap kind_of c.in-48.is)

pub returns-in-49 : goal.returns-in-49
unfolding kind_of
returns-in-49 c = sym (ap kind_of c.in-49.is)

pub returns-in_default : goal.returns-in_default
unfolding kind_of
returns-in_default c = let b = c.args.byte in
    rw (ne_eqb b 7 (search rules), ne_eqb b 48 (search rules), ne_eqb b 49 (search rules)) (c.from.ensures ∙ ap of_rules_of c.kind_of.ensures)
