-- `put_members` writes a set number by number. Assumes nothing.
use Rattle.lines.specs.Text.{members_text}
use Rattle.writing.specs.Wrote.{Wrote}
use Rattle.lines.proofs.answers.put_members.Given as goal

abbrev pub invariant-loop-number : goal.invariant-loop-number
invariant-loop-number l = Wrote (members_text l.number l.uses) l.initial.out l.at l.out l.end
