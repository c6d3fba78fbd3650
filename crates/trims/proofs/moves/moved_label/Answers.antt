-- `moved_label` reads the label between two old states. Assumes nothing.
use native.Mathlib.Omega.{arith}
use mathlib.Core.Path.{sym, ap₂, ◌∙◌}
use borrow.Author.Tests.{ltb-true, ltb-false}
use Rattle.std.proofs.lemmas.List.{get_or_read}
use Rattle.automata.specs.Table.{cell}
use Rattle.trims.proofs.Moving.{moved_row_none, moved_column_none, moved_read}
use Rattle.trims.proofs.moves.moved_label.Goals as goal

pub returns-in-Some-Some : goal.returns-in-Some-Some
returns-in-Some-Some c = let p = c.in-Some-Some.ensures.lookup in
    let q = c.in-Some-Some.ensures'.lookup in
    let i = ltb-true _ _ (sym p.0) in
    let j = ltb-true _ _ (sym q.0) in
    c.get-in-Some-Some.ensures ∙ ap₂ (cell c.args.table.now) (get_or_read _ _ _ i p.1 0) (get_or_read _ _ _ j q.1 0) ∙ moved_read _ _ _ _ _ _ i j (omega arith) (omega arith)

pub returns-in_default : goal.returns-in_default
returns-in_default c = let j = ltb-false _ _ (sym c.in_default.ensures'.lookup.0) in
    moved_column_none _ _ _ _ (omega arith)

pub returns-in_default-2 : goal.returns-in_default-2
returns-in_default-2 c = let i = ltb-false _ _ (sym c.in_default.ensures.lookup.0) in
    moved_row_none _ _ _ _ (omega arith)
