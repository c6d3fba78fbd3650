-- `squares::round` meets its contract. The invariant: the words below i are mixed. Assumes nothing.
use mathlib.Core.Path.{sym, ◌∙◌}
use native.Mathlib.Omega.{arith}
use Rattle.squares.proofs.Rounding.{round_none, round_turn}
use Rattle.squares.proofs.round.Goals as goal

pub loop-i-init : goal.loop-i-init
loop-i-init c = round_none _ (c.requires.1 ∙ sym c.requires.0)

pub loop-i-preserved : goal.loop-i-preserved
loop-i-preserved c = round_turn c.loop-i.i _ (omega (arith, c.loop-i.invariant.size, c.requires.0)) c.mix.ensures c.loop-i.invariant

pub returns : goal.returns
returns c = record { size = c.loop-i.invariant.size; new = λ i l. c.loop-i.invariant.new i (omega arith) }
