-- `records::put_records` writes one record after the other. Assumes nothing.

use lib.ListN.{get_or}
use Rattle.bits.specs.Word.{bit}
use Rattle.writing.specs.Wrote.{Wrote}
use Rattle.formula_models.specs.Bytes.{records}
use Rattle.formula_models.proofs.records.put_records.Given as goal

abbrev pub invariant-loop-x : goal.invariant-loop-x
invariant-loop-x l = Wrote (records (bit l.initial') (λ y. get_or l.successors y 0) l.x) l.initial.out 0 l.out l.end
