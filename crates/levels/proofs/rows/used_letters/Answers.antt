-- `search::rows::used_letters` meets its contract. The invariant: the letters of the states below t.
-- Assumes nothing.
use mathlib.Core.Path.{◌≡◌}
use native.Mathlib.Omega.{arith}
use lib.ListN.{get_or}
use Rattle.bits.proofs.Members.{union_none, union_end}
use Rattle.levels.proofs.UsedLetters.{used_turn}
use Rattle.levels.proofs.rows.used_letters.Goals as goal

pub loop-t-init : goal.loop-t-init
loop-t-init c = (omega arith, union_none _)

pub overflow_cast-x : goal.overflow_cast-x
overflow_cast-x c = omega (arith, c.requires.small c.loop-t.t c.loop-t-test.true)

pub with-set-requires : goal.with-set-requires
with-set-requires c = c.requires.small c.loop-t.t c.loop-t-test.true

pub loop-t-preserved : goal.loop-t-preserved
loop-t-preserved c = (omega arith, used_turn c.args.letters.now c.loop-t.t c.with-set.ensures c.loop-t.invariant.1)

pub returns : goal.returns
returns c = union_end {S = λ t x. x ≡ get_or c.args.letters.now t 0} c.loop-t.invariant.1 _ (omega arith) (omega arith)
