-- `write_text` writes what the rule's own reader accepts. Assumes nothing.
use native.Mathlib.Omega.{arith}
use mathlib.Core.Path.{refl}
use Rattle.std.proofs.lemmas.Result.{err_from_is_err_and}
use Rattle.texts.specs.Answer.{not_a_rule}
use Rattle.texts.proofs.Giving.{bytes_refused}
use Rattle.texts.proofs.Written.{stands_at_0, put_short, written_text}
use Rattle.texts.proofs.write_text.Goals as goal

pub put_rule-put-requires : goal.put_rule-put-requires
put_rule-put-requires c = let i = stands_at_0 _ _ c.read_rule.ensures _ c.in_ok-known.was in let l = i.1 in (i.0, omega arith)

pub give-requires : goal.give-requires
give-requires c = let l = put_short _ _ c.read_rule.ensures _ c.in_ok-known.was _ _ _ c.put_rule-put.ensures in omega arith

pub returns-in_err-known : goal.returns-in_err-known
returns-in_err-known c =
    let p = err_from_is_err_and c.from_residual.result c.from_residual.ensures.1 in
    rw (p.1, p.2) (not_a_rule _ _ (bytes_refused c.args.rule.now c.args.rule.now _ refl c.read_rule.ensures _ c.in_err-known.was) refl refl)

pub returns : goal.returns
returns c = written_text _ _ c.read_rule.ensures _ c.in_ok-known.was _ _ _ c.put_rule-put.ensures _ _ _ c.give.ensures
