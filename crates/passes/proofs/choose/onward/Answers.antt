-- `choose::onward` meets its contract. What the letter leads to, of it what is useful, of that what is on the level.
-- Assumes nothing.
use Rattle.bits.proofs.Members.{members_and, members_bits}
use Rattle.passes.proofs.Choosing.{holds_members}
use Rattle.passes.proofs.choose.onward.Goals as goal

pub returns : goal.returns
returns c = let a = c.args in
    let s = a.search.now in
    holds_members s.rows.now s.letters.now a.marks.now a.useful.now a.held a.level a.t c.onto.ensures c.filter.ensures (members_and (members_bits _) (members_bits _))
