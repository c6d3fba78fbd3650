-- `kind_in` takes the word and writes its kind. Assumes nothing.
use mathlib.Core.Path.{refl}
use Rattle.std.proofs.lemmas.Result.{err_from_is_err_and}
use Rattle.text_reader.specs.inner.Takings.{took, broke}
use Rattle.text_reader.proofs.Taking.{took_word}
use Rattle.text_reader.proofs.reader.kind_in.Goals as goal

pub returns-in_err-end : goal.returns-in_err-end
returns-in_err-end c = let p = err_from_is_err_and c.from_residual.result c.from_residual.ensures.1 in rw (p.1, p.2) (broke _ refl c.in_err-end.ensures)

pub returns : goal.returns
returns c = took _ refl (took_word _ _ _ _ _ _ _ _ _ c.in_ok-end.ensures c.put_byte-past.ensures)
