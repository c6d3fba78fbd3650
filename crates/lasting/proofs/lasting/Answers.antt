-- `lasting::lasting` meets its contract. By the cases of the model.
-- Assumes nothing.
use Rattle.std.proofs.lemmas.Result.{err_from_is_err_and}
use Rattle.lasting.proofs.Answering.{model_no, model_yes}
use Rattle.lasting.proofs.lasting.Goals as goal

pub returns-in_err-read : goal.returns-in_err-read
returns-in_err-read c = let p = err_from_is_err_and c.from_residual.result c.from_residual.ensures.1 in
    let m = c.read_model-read in rw (p.1, p.2) (model_no _ m.result m.ensures.answered _ c.in_err-read.was)

pub returns : goal.returns
returns c = let m = c.read_model-read in model_yes _ m.result m.ensures.answered c.in_ok-read.was c.lasting_states-set.ensures
