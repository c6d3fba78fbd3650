-- `trim_standing` finds what stays, lists it and moves it. Assumes nothing.
use native.Mathlib.Omega.{arith}
use Rattle.trims.proofs.Listing.{lists_few, lists_front, lists_long, lists_rise}
use Rattle.trims.proofs.Trimming.{moved_trimmed}
use Rattle.trims.proofs.trim_standing.Goals as goal

pub slice_bounds-from-end : goal.slice_bounds-from-end
slice_bounds-from-end c = omega (arith, lists_few c.list-count.ensures)

pub slice_bounds-from-end-2 : goal.slice_bounds-from-end-2
slice_bounds-from-end-2 c = omega (arith, lists_few c.list-count.ensures, lists_long c.list-count.ensures (omega arith))

pub move_labels-requires : goal.move_labels-requires
move_labels-requires c = (omega arith, c.requires.1.small, lists_rise (lists_front c.list-count.ensures) (lists_long c.list-count.ensures (omega arith)))

pub moved_finals-moved-requires : goal.moved_finals-moved-requires
moved_finals-moved-requires c = (omega (arith, lists_few c.list-count.ensures, lists_long c.list-count.ensures (omega arith)), lists_rise (lists_front c.list-count.ensures) (lists_long c.list-count.ensures (omega arith)))

pub returns : goal.returns
returns c = moved_trimmed c.requires.1 c.kept-kept.ensures (lists_front c.list-count.ensures) (lists_long c.list-count.ensures (omega arith)) c.move_labels.ensures c.move_labels.auto.table c.moved_finals-moved.ensures
    (omega (arith, c.moved_finals-moved.type_inv))
