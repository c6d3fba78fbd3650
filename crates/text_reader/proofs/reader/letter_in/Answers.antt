-- `letter_in` takes a formula and what may follow it. Assumes nothing.
use native.Mathlib.Omega.{arith}
use mathlib.Core.Path.{refl}
use Rattle.std.proofs.lemmas.Result.{err_from_is_err_and}
use Rattle.text_reader.specs.inner.Takings.{broke}
use Rattle.text_reader.proofs.Taking.{as_taken, as_broken}
use Rattle.text_reader.proofs.Operands.{formula_bounds, letter_first, letter_broken, letter_taken}
use Rattle.text_reader.proofs.reader.letter_in.Goals as goal

pub occurrence_at-requires : goal.occurrence_at-requires
occurrence_at-requires c = let l = formula_bounds _ _ _ _ _ _ _ (as_taken c.formula_in.ensures _ c.in_ok-operand.was) in l.1

pub returns-in_err-operand : goal.returns-in_err-operand
returns-in_err-operand c = let p = err_from_is_err_and c.from_residual.result c.from_residual.ensures.1 in rw (p.1, p.2) (broke _ refl (letter_first c.args.text.now c.args.at _ (as_broken c.formula_in.ensures _ c.in_err-operand.was)))

pub returns-in_err-after : goal.returns-in_err-after
returns-in_err-after c = let p = err_from_is_err_and c.from_residual-in_err-after.result c.from_residual-in_err-after.ensures.1 in rw (p.1, p.2) (letter_broken _ _ _ _ _ _ _ (as_taken c.formula_in.ensures _ c.in_ok-operand.was) c.occurrence_at.ensures _ c.in_err-after.was)

pub returns : goal.returns
returns c = let p = c.requires in letter_taken _ _ _ _ _ _ _ (as_taken c.formula_in.ensures _ c.in_ok-operand.was) (omega arith) _ _ _ c.put_head.ensures c.occurrence_at.ensures c.in_ok-after.was
