-- `exports::reading::gc_read_model` meets its contract: the library's answer is right, and its numbers are given. Assumes nothing.
use mathlib.Core.Path.{ap, ◌∙◌}
use Rattle.c_answers.specs.Numbers.{model_numbers_of}
use Rattle.exports.proofs.reading.gc_read_model.Goals as goal

pub returns : goal.returns
returns c = c.model_numbers.ensures ∙ ap model_numbers_of c.read_model.ensures.answered
