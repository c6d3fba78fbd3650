-- `records::put_record` writes the kind, the letter, the flag and the successors. Assumes nothing.
use native.Mathlib.Omega.{arith}
use mathlib.Core.Path.{◌∙◌}
use Rattle.formula_models.proofs.Putting.{record_put, byte_num}
use Rattle.formula_models.proofs.records.put_record.Goals as goal

pub put_byte-b-requires : goal.put_byte-b-requires
put_byte-b-requires c = let e = c.put_byte-a.ensures in
    let p = c.requires in
    let n = e.size in
    let m = e.ends in
    omega arith

pub put_byte-c-requires : goal.put_byte-c-requires
put_byte-c-requires c = let e = c.put_byte-a.ensures in
    let p = c.requires in
    let n = e.size in
    let m = e.ends in
    let e' = c.put_byte-b.ensures in
    let n' = e'.size in
    let m' = e'.ends in
    omega arith

pub put_set-requires : goal.put_set-requires
put_set-requires c = let e = c.put_byte-a.ensures in
    let p = c.requires in
    let n = e.size in
    let m = e.ends in
    let e' = c.put_byte-b.ensures in
    let n' = e'.size in
    let m' = e'.ends in
    let e'' = c.put_byte-c.ensures in
    let n'' = e''.size in
    let m'' = e''.ends in
    omega arith

pub shape_of-out : goal.shape_of-out
shape_of-out c = c.put_set.ensures.size ∙ c.put_byte-c.ensures.size ∙ c.put_byte-b.ensures.size ∙ c.put_byte-a.ensures.size

pub returns : goal.returns
returns c = let p = c.requires in
    record_put c.args.set c.args.initial (omega arith) c.put_byte-a.ensures c.put_byte-b.ensures (c.from.ensures ∙ byte_num _) c.put_byte-c.ensures c.put_set.ensures
