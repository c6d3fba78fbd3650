-- `word_end` goes over the word character by character. Assumes nothing.
use native.Mathlib.Omega.{arith}
use Rattle.grammar.proofs.Spelling.{word_begun, word_stops, word_on, word_done}
use Rattle.grammar.proofs.words.word_end.Goals as goal

pub loop-i-init : goal.loop-i-init
loop-i-init c = word_begun _ _ c.requires

pub returns-then-not-stands : goal.returns-then-not-stands
returns-then-not-stands c = let s = c.args in word_stops s.text.now s.word.now s.at c.loop-i.i c.loop-i.invariant (omega arith) (c.stands.ensures.no_fails c.if-not-stands.true)

pub loop-i-preserved : goal.loop-i-preserved
loop-i-preserved c = let s = c.args in word_on s.text.now s.word.now s.at c.loop-i.i c.loop-i.invariant (omega arith) (c.stands.ensures.yes_holds c.if-not-stands.false)

pub returns : goal.returns
returns c = let s = c.args in word_done s.text.now s.word.now s.at c.loop-i.i c.loop-i.invariant (omega arith)
