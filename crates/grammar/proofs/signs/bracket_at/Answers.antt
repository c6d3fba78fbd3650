-- `bracket_at` takes what follows a closing brace. Assumes nothing.
use Rattle.grammar.proofs.AfterOperand.{no_open, by_star, no_repetition, plus_open, plus_closed}
use Rattle.grammar.proofs.signs.bracket_at.Goals as goal

pub returns-then-not-stands : goal.returns-then-not-stands
returns-then-not-stands c = no_open _ _ (c.stands.ensures.no_fails c.if-not-stands.true)

pub returns-then-stands : goal.returns-then-stands
returns-then-stands c = by_star _ _ (c.stands.ensures.yes_holds c.if-not-stands.false) (c.stands-2.ensures.yes_holds c.if-stands.true) _ c.star_at.ensures

pub returns-then-not-stands-2 : goal.returns-then-not-stands-2
returns-then-not-stands-2 c = no_repetition _ _ (c.stands.ensures.yes_holds c.if-not-stands.false) (c.stands-2.ensures.no_fails c.if-stands.false) (c.stands-3.ensures.no_fails c.if-not-stands-2.true)

pub returns-then-not-stands-3 : goal.returns-then-not-stands-3
returns-then-not-stands-3 c = plus_open _ _ (c.stands.ensures.yes_holds c.if-not-stands.false) (c.stands-3.ensures.yes_holds c.if-not-stands-2.false) (c.stands-4.ensures.no_fails c.if-not-stands-3.true)

pub returns : goal.returns
returns c = plus_closed _ _ (c.stands.ensures.yes_holds c.if-not-stands.false) (c.stands-3.ensures.yes_holds c.if-not-stands-2.false) (c.stands-4.ensures.yes_holds c.if-not-stands-3.false)
