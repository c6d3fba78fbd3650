-- `give_rule` asks the rule's own reader. Assumes nothing.
use mathlib.Core.Path.{refl}
use Rattle.std.proofs.lemmas.Result.{err_from_is_err_and}
use Rattle.texts.specs.Answer.{not_accepted, accepted}
use Rattle.texts.proofs.Giving.{bytes_refused, bytes_accepted}
use Rattle.texts.proofs.give_rule.Goals as goal

pub give-requires : goal.give-requires
give-requires c = c.requires

pub returns-in_err-rule : goal.returns-in_err-rule
returns-in_err-rule c =
    let p = err_from_is_err_and c.from_residual.result c.from_residual.ensures.1 in
    rw (p.1, p.2) (not_accepted _ _ (bytes_refused _ _ _ c.front.ensures c.read_rule.ensures _ c.in_err-rule.was) refl refl)

pub returns : goal.returns
returns c = accepted _ (bytes_accepted _ _ _ c.front.ensures c.read_rule.ensures _ c.in_ok-rule.was) c.give.ensures
