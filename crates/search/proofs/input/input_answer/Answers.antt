-- `search::input::input_answer` meets its contract. By the cases of the rule, of the model and of the slices.
-- Assumes nothing.
use borrow.Author.Rules.{rules}
use Rattle.std.proofs.lemmas.Result.{err_from_is_err_and}
use Rattle.search.proofs.Whole.{answers_rule_no, answers_model_no, answers_slice_no, answers_well}
use Rattle.search.proofs.input.input_answer.Goals as goal

pub returns-in_err-known : goal.returns-in_err-known
returns-in_err-known c = let p = err_from_is_err_and c.from_residual.result c.from_residual.ensures.1 in
    rw (p.1, p.2) (answers_rule_no _ c.read_rule.ensures c.in_err-known.was)

pub returns-in_err-model : goal.returns-in_err-model
returns-in_err-model c = let p = err_from_is_err_and c.from_residual-in_err-model.result c.from_residual-in_err-model.ensures.1 in
    rw (p.1, p.2) (answers_model_no _ c.read_rule.ensures c.in_ok-known.was c.in_err-model.was)

pub returns-then-not-long : goal.returns-then-not-long
returns-then-not-long c = answers_slice_no _ c.read_rule.ensures c.in_ok-known.was c.in_ok-model.was (search rules)

pub returns : goal.returns
returns c = answers_well _ c.read_rule.ensures c.in_ok-known.was c.in_ok-model.was (search rules)
