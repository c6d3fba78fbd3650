-- `convert` meets its contract. Assumes nothing.
use mathlib.Core.Path.{refl}
use Rattle.letter_rows.specs.inner.Conversions.{short, carried}
use Rattle.letter_rows.proofs.Refusing.{one_short}
use Rattle.letter_rows.proofs.convert.Goals as goal

pub returns-then-not-long_enough : goal.returns-then-not-long_enough
returns-then-not-long_enough c = short (one_short c.args.given.now c.args.to.now (c.if-not-long_enough.ensures.no_fails refl)) refl

pub returns : goal.returns
returns c = let b = c.if-not-long_enough.ensures.yes_holds refl in carried b.given_long b.to_long c.carry_all.ensures
