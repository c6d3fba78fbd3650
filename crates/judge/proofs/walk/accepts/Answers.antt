-- `walk::accepts` meets its contract: the whole sequence is one of its parts. Assumes nothing.
use Rattle.judge.proofs.Meaning.{judged_whole}
use Rattle.judge.proofs.walk.accepts.Goals as goal

pub returns : goal.returns
returns c = λ r e d. rw c.accepted.ensures (judged_whole (c.judge_at-answers.ensures r e d))
