-- `rows::join_words` by the cases of a junction. Assumes nothing.
use mathlib.Core.Path.{sym, ap}
use Rattle.definitions.specs.declared.kinds.Junction.{Junction}
use Rattle.formula_models.specs.inner.Rows.{join_words_of}
use Rattle.formula_models.proofs.rows.join_words.Goals as goal

pub returns-in-And : goal.returns-in-And
returns-in-And c = sym (ap (λ (j : Junction). join_words_of j c.args.a c.args.b) c.in-And.is)

pub returns-in-Or : goal.returns-in-Or
returns-in-Or c = sym (ap (λ (j : Junction). join_words_of j c.args.a c.args.b) c.in-Or.is)
