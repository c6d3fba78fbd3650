-- `judge` meets its contract. Assumes nothing.
use native.Mathlib.Omega.{arith}
use mathlib.Core.Path.{subst}
use Rattle.std.proofs.lemmas.Result.{err_from_is_err_and}
use Rattle.rules.proofs.Accepting.{accepted_good}
use Rattle.judge.specs.Verdict.{ScannedAs}
use Rattle.judge.proofs.Answering.{read_as, right_refusal, right_many, right_stray, right_judged}
use Rattle.judge.proofs.judge.Goals as goal

pub returns-in_err-known : goal.returns-in_err-known
returns-in_err-known c =
    let p = err_from_is_err_and c.from_residual.result c.from_residual.ensures.1 in
    rw (p.1, p.2) (right_refusal c.args.rule.now c.args.letters.now c.read_rule.result c.read_rule.ensures _ c.in_err-known.was)

pub returns-then-letters-gt-LETTER_LIMIT : goal.returns-then-letters-gt-LETTER_LIMIT
returns-then-letters-gt-LETTER_LIMIT c = right_many c.args.rule.now c.args.letters.now c.read_rule.result c.read_rule.ensures c.in_ok-known.known c.in_ok-known.was c.if-letters-gt-LETTER_LIMIT.true

pub accepts-requires : goal.accepts-requires
accepts-requires c = let o = read_as c.args.rule.now c.args.letters.now c.read_rule.result c.read_rule.ensures c.in_ok-known.known c.in_ok-known.was in (accepted_good _ o.0 o.1, record { few = omega arith })

pub returns-in-Some : goal.returns-in-Some
returns-in-Some c = right_stray c.args.rule.now c.args.letters.now c.read_rule.result c.read_rule.ensures c.in_ok-known.known c.in_ok-known.was (record { few = omega arith }) c.in-Some.i (subst (ScannedAs c.args.letters.now) c.in-Some.is c.scan.ensures)

pub returns-in-None : goal.returns-in-None
returns-in-None c = right_judged c.args.rule.now c.args.letters.now c.read_rule.result c.read_rule.ensures c.in_ok-known.known c.in_ok-known.was (record { few = omega arith }) (subst (ScannedAs c.args.letters.now) c.in-None.is c.scan.ensures) c.accepts.result c.accepts.ensures
