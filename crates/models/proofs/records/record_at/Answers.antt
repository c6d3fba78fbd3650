-- `models::record_at` meets its contract. Assumes nothing.
use native.Mathlib.Omega.{arith}
use Rattle.models.proofs.Passes.{kind_wrong, cut_letter, letter_large, cut_flag, flag_wrong, cut_successors, record_good}
use Rattle.models.proofs.records.record_at.Goals as goal

pub returns-then-model-at-ne-KIND : goal.returns-then-model-at-ne-KIND
returns-then-model-at-ne-KIND c on = let a = c.args in kind_wrong a.model.now a.at on c.if-model-at-ne-KIND.true

pub returns-then-model-at : goal.returns-then-model-at
returns-then-model-at c on = let a = c.args in
    cut_letter a.model.now a.at on c.if-model-at-ne-KIND.false c.if-model-at.true

pub returns-then-model-at-gt-LAST_LETTER : goal.returns-then-model-at-gt-LAST_LETTER
returns-then-model-at-gt-LAST_LETTER c on = let a = c.args in
    letter_large a.model.now a.at on c.if-model-at-ne-KIND.false c.if-model-at.false (omega arith)

pub returns-then-model-at-2 : goal.returns-then-model-at-2
returns-then-model-at-2 c on = let a = c.args in
    cut_flag a.model.now a.at on c.if-model-at-ne-KIND.false c.if-model-at.false c.if-model-at-gt-LAST_LETTER.false c.if-model-at-2.true

pub returns-then-model-at-gt-INITIAL : goal.returns-then-model-at-gt-INITIAL
returns-then-model-at-gt-INITIAL c on = let a = c.args in
    flag_wrong a.model.now a.at on c.if-model-at-ne-KIND.false c.if-model-at.false c.if-model-at-gt-LAST_LETTER.false c.if-model-at-2.false (omega arith)

pub returns-then-model-at-3 : goal.returns-then-model-at-3
returns-then-model-at-3 c on = let a = c.args in
    cut_successors a.model.now a.at on c.if-model-at-ne-KIND.false c.if-model-at.false c.if-model-at-gt-LAST_LETTER.false c.if-model-at-2.false (omega arith) c.if-model-at-3.true

pub returns : goal.returns
returns c on = let a = c.args in
    record_good a.model.now a.at on c.if-model-at-ne-KIND.false c.if-model-at.false c.if-model-at-gt-LAST_LETTER.false c.if-model-at-2.false (omega arith) c.if-model-at-3.false
