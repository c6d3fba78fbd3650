-- `read_text` takes the whole text as a rule's. Assumes nothing.
use native.Mathlib.Omega.{arith}
use mathlib.Core.Path.{refl}
use Rattle.std.proofs.lemmas.Result.{err_from_is_err_and}
use Rattle.texts.specs.Answer.{too_long}
use Rattle.text_reader.proofs.Taking.{as_taken, as_broken}
use Rattle.texts.proofs.Giving.{fault, leftover, taken_room, whole}
use Rattle.texts.proofs.read_text.Goals as goal

pub returns-then-text-gt-LONGEST_TEXT : goal.returns-then-text-gt-LONGEST_TEXT
returns-then-text-gt-LONGEST_TEXT c = too_long c.if-text-gt-LONGEST_TEXT.true refl refl

pub returns-then-end-text : goal.returns-then-end-text
returns-then-end-text c = leftover c.args.text.now (omega arith) _ _ _ _ _ (as_taken c.rule_in.ensures _ c.in_ok-taken.was) c.if-end-text.true

pub squeeze-long-requires : goal.squeeze-long-requires
squeeze-long-requires c = let l = taken_room c.args.text.now (omega arith) c.args.out.now _ _ _ _ (as_taken c.rule_in.ensures _ c.in_ok-taken.was) in omega arith

pub give_rule-requires : goal.give_rule-requires
give_rule-requires c = c.squeeze-long.ensures.1

pub returns-in_err-taken : goal.returns-in_err-taken
returns-in_err-taken c = let p = err_from_is_err_and c.from_residual.result c.from_residual.ensures.1 in rw (p.1, p.2) (fault c.args.text.now (omega arith) _ _ (as_broken c.rule_in.ensures _ c.in_err-taken.was))

pub returns : goal.returns
returns c = whole c.args.text.now (omega arith) _ _ _ _ _ (as_taken c.rule_in.ensures _ c.in_ok-taken.was) c.if-end-text.false _ c.squeeze-long.ensures.0 _ _ c.give_rule.ensures
