-- `records::put_records` writes one record after the other. Assumes nothing.
use Prim.Native.Nat.{ℕ}
use native.Mathlib.Omega.{arith}
use lib.ListN.{get_or}
use Rattle.bits.specs.Word.{bit}
use Rattle.formula_models.proofs.Putting.{records_none, records_room, records_turn, records_all}
use Rattle.formula_models.proofs.records.put_records.Goals as goal

pub loop-x-init : goal.loop-x-init
loop-x-init c = let i = bit c.args.initial in
    let w : ℕ → ℕ = λ y. get_or c.args.successors.now y 0 in
    records_none i w _

pub put_record-end-requires : goal.put_record-end-requires
put_record-end-requires c = let i = bit c.args.initial in
    let w : ℕ → ℕ = λ y. get_or c.args.successors.now y 0 in
    let p = c.requires in
    records_room i w c.loop-x.invariant p.0 (omega arith)

pub loop-x-preserved : goal.loop-x-preserved
loop-x-preserved c = let i = bit c.args.initial in
    let w : ℕ → ℕ = λ y. get_or c.args.successors.now y 0 in
    let p = c.requires in
    records_turn i w c.loop-x.invariant c.has.ensures c.put_record-end.ensures

pub shape_of-out : goal.shape_of-out
shape_of-out c = c.loop-x.invariant.size

pub returns : goal.returns
returns c = let i = bit c.args.initial in
    let w : ℕ → ℕ = λ y. get_or c.args.successors.now y 0 in
    records_all i w c.loop-x.invariant (omega arith)
