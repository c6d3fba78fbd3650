-- `put_members` writes a set number by number. Assumes nothing.
use native.Mathlib.Omega.{arith}
use Rattle.lines.proofs.Uses.{members_none, member_room, member_turn, members_whole}
use Rattle.lines.proofs.answers.put_members.Goals as goal

pub loop-number-init : goal.loop-number-init
loop-number-init c = members_none c.args.uses _ _

pub put_member-end-requires : goal.put_member-end-requires
put_member-end-requires c = (omega arith, member_room c.args.uses c.args.at c.args.out.now c.loop-number.number c.requires c.loop-number.invariant (omega arith))

pub loop-number-preserved : goal.loop-number-preserved
loop-number-preserved c = member_turn c.args.uses c.args.at c.args.out.now c.loop-number.number c.requires c.loop-number.invariant c.put_member-end.ensures

pub returns : goal.returns
returns c = members_whole c.args.uses c.args.at c.args.out.now c.loop-number.number c.requires c.loop-number.invariant (omega arith)
