-- `junction_at` tries both junctions. Assumes nothing.
use mathlib.Core.Path.{refl}
use Rattle.definitions.specs.declared.kinds.Junction.TheVariants.{And, Or}
use Rattle.grammar.specs.inner.Reading.{junction, rows}
use Rattle.grammar.specs.inner.Places.{joins, no_junction}
use Rattle.grammar.proofs.Standing.{absent}
use Rattle.grammar.proofs.signs.junction_at.Goals as goal

pub returns-then-stands : goal.returns-then-stands
returns-then-stands c = joins And refl (c.stands.ensures.yes_holds c.if-stands.true)

pub returns-then-stands-2 : goal.returns-then-stands-2
returns-then-stands-2 c = joins Or refl (c.stands-2.ensures.yes_holds c.if-stands-2.true)

pub returns : goal.returns
unfolding rows
returns c = no_junction refl (absent _ junction refl _ (c.stands.ensures.no_fails c.if-stands.false, (c.stands-2.ensures.no_fails c.if-stands-2.false, tt)))
