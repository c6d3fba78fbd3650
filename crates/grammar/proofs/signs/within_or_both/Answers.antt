-- `within_or_both` looks for a second character. Assumes nothing.
use mathlib.Core.Path.{refl}
use Rattle.definitions.specs.declared.kinds.Pair.TheVariants.{Within, Both}
use Rattle.grammar.specs.inner.Places.{operator}
use Rattle.grammar.proofs.AfterOperand.{op_within, op_both}
use Rattle.grammar.proofs.signs.within_or_both.Goals as goal

pub returns-then-stands : goal.returns-then-stands
returns-then-stands c = operator Both _ refl (op_both _ _ c.requires (c.stands.ensures.yes_holds c.if-stands.true))

pub returns : goal.returns
returns c = operator Within _ refl (op_within _ _ c.requires (c.stands.ensures.no_fails c.if-stands.false))
