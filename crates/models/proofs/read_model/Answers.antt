-- `models::read_model` meets its contract. Assumes nothing.
use borrow.Author.Rules.{rules}
use mathlib.Core.Path.{ap, ◌∙◌}
use Rattle.std.specs.Prelude.{Ok}
use Rattle.models.specs.Answer.{given}
use Rattle.models.proofs.Finish.{read_whole, told_good, right}
use Rattle.models.proofs.read_model.Goals as goal

pub model_of-requires : goal.model_of-requires
model_of-requires c = read_whole c.args.model.now c.in-Ok.n c.in-Ok.ensures

pub returns-in-Ok-clause-held : goal.returns-in-Ok-clause-held
returns-in-Ok-clause-held c =
    right c.args.model.now (search rules) (record { answer = Ok tt; model = c.model_of.result }) (told_good c.args.model.now c.in-Ok.n c.in-Ok.ensures _ c.model_of.ensures)

pub returns-in-Err-clause-held : goal.returns-in-Err-clause-held
returns-in-Err-clause-held c = right c.args.model.now (search rules) c.refused.result (c.refused.ensures ∙ ap (given c.args.model.now) c.in-Err.ensures)
