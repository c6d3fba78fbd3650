-- `put_none` writes the line of a search that found nothing. Assumes nothing.
use native.Mathlib.Omega.{arith}
use Rattle.lines.specs.Text.{none_text}
use Rattle.lines.proofs.answers.put_none.Goals as goal

pub put_named-requires : goal.put_named-requires
unfolding none_text
put_named-requires c = omega (arith, c.requires)

pub returns : goal.returns
unfolding none_text
returns c = c.put_named.ensures
