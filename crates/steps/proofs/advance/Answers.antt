-- `advance` gathers the rows of the members, the lowest first. Assumes nothing.
use Prim.Native.Nat.{◌<◌}
use mathlib.Core.Path.{sym, subst, ap, ◌∙◌}
use lib.Bits.{or_lt}
use lib.Pow.{pow_pos}
use lib.Dec.{T}
use native.Mathlib.Omega.{arith}
use Rattle.bits.specs.Word.{bit}
use Rattle.bits.specs.Sets.{Members}
use Rattle.bits.proofs.Resting.{turn_rest, uniting_turn, uniting_end}
use Rattle.bits.proofs.Begun.{rest_begun, uniting_begun}
use Rattle.automata.specs.Table.{table_states, cell}
use Rattle.steps.proofs.Gathering.{row_members, gathered}
use Rattle.steps.proofs.advance.Goals as goal

pub loop-p-init : goal.loop-p-init
loop-p-init c =
    let e = ap (λ z. z.rest) c.into_iter-p-iterator.ensures.into_iter_gives ∙ c.members-p-items.ensures in
    (pow_pos 64, rest_begun e c.ranges.set.fits, uniting_begun e _)

pub loop-p-preserved : goal.loop-p-preserved
loop-p-preserved c = let i = c.loop-p.invariant in
    let n = c.in-Some.ensures.steps in
    let a = c.args in (
      grind (arith, or_lt 64),
      turn_rest i.1 n.0 n.1,
      uniting_turn i.1 n.0 n.1 i.2 (subst (λ r. Members r (λ q. (q < table_states) × T (bit (cell a.table.now c.in-Some.p q) a.letter))) (sym c.row-reached.ensures) (row_members a.table.now c.in-Some.p a.letter)),
    )

pub returns : goal.returns
returns c = gathered c.args.table.now c.args.set c.args.letter _ c.ranges.set.fits c.loop-p.invariant.0 (uniting_end c.in-None.ensures.steps.0 c.loop-p.invariant.2)
