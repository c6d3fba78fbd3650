-- `records::write_model`: the first formula's label, the second's rows, and the records of both. Assumes nothing.
use native.Mathlib.Omega.{arith}
use mathlib.Core.Path.{refl}
use lib.ListN.{length}
use Rattle.systems.proofs.Standing.{plain_too}
use Rattle.formula_models.proofs.Putting.{model_put}
use Rattle.formula_models.proofs.records.write_model.Goals as goal

pub label_at-initial-requires : goal.label_at-initial-requires
label_at-initial-requires c = let s = c.args.system.now in
    let p = c.requires.0 in
    let st = p.stands in
    (p.initial, st.m, plain_too refl st.first)

pub rows_at-requires : goal.rows_at-requires
rows_at-requires c = let s = c.args.system.now in
    let p = c.requires.0 in
    let st = p.stands in
    let a = p.short in
    let b = p.third in
    record { stands = (p.next, length s, st.second); long = omega arith; room = omega arith }

pub put_records-requires : goal.put_records-requires
put_records-requires c = let n = c.rows_at.ensures.size in
    let p = c.requires in
    (p.1, omega arith)

pub returns : goal.returns
returns c = λ f g st. model_put f g c.label_at-initial.result (c.label_at-initial.ensures f st.m (plain_too refl st.first)) c.rows_at.ensures st.second c.put_records.ensures
