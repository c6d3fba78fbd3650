-- `trim` meets its contract: each of its three ways out is a line of `Right`. Assumes nothing.
use native.Mathlib.Omega.{arith}
use Rattle.trims.proofs.Trimming.{right_short, right_outside, stands_of, right_trimmed}
use mathlib.Core.Path.{ap}
use mathlib.Core.Bool.{not}
use Rattle.trims.proofs.trim.Goals as goal

pub returns-then-table-lt-TABLE_ENTRIES : goal.returns-then-table-lt-TABLE_ENTRIES
returns-then-table-lt-TABLE_ENTRIES c = right_short _ _ _ (omega arith)

pub returns-then-not-stands : goal.returns-then-not-stands
returns-then-not-stands c = right_outside _ _ _ _ c.stands.ensures (omega arith) (ap not c.if-not-stands.true)

pub trim_standing-requires : goal.trim_standing-requires
trim_standing-requires c = (omega arith, stands_of _ _ _ _ c.stands.ensures (omega arith) (ap not c.if-not-stands.false))

pub returns : goal.returns
returns c = right_trimmed _ _ _ _ c.stands.ensures (omega arith) (ap not c.if-not-stands.false) c.trim_standing.ensures
