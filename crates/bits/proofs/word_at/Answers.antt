use Rattle.bits.proofs.Bytes.{little_made}
use Rattle.bits.proofs.word_at.Goals as goal

pub returns : goal.returns
returns c = let a = c.args in
    little_made a.s.now a.p
    c.push.ensures.0
    c.push-a.ensures.0
    c.push-2.ensures.0
    c.push-b.ensures.0
    c.push-3.ensures.0
    c.push-c.ensures.0
    c.push-4.ensures.0
    c.push-5.ensures.0
