-- `search::input::long_enough` meets its contract. One test a slice.
-- Assumes nothing.
use Prim.Native.Nat.{◌≤◌}
use native.Mathlib.Omega.{arith}
use lib.ListN.{length}
use Rattle.levels.specs.Lent.{pair_count}
use Rattle.automata.specs.Table.{table_entries}
use Rattle.bits.proofs.Sayings.{say_no, says_le, says_map}
use Rattle.search.proofs.input.long_enough.Goals as goal

pub returns-then-table-lt-TABLE_ENTRIES : goal.returns-then-table-lt-TABLE_ENTRIES
returns-then-table-lt-TABLE_ENTRIES c = say_no (λ x. let h : table_entries ≤ length c.args.table.now = x.table_long in omega arith)

pub returns-then-marks-lt-PAIRS : goal.returns-then-marks-lt-PAIRS
returns-then-marks-lt-PAIRS c = say_no (λ x. let h : pair_count ≤ length c.args.marks.now = x.marks_long in omega arith)

pub returns-then-useful-lt-PAIRS : goal.returns-then-useful-lt-PAIRS
returns-then-useful-lt-PAIRS c = say_no (λ x. let h : pair_count ≤ length c.args.useful.now = x.useful_long in omega arith)

pub returns : goal.returns
returns c = says_map (λ h. record { table_long = c.if-table-lt-TABLE_ENTRIES.false; marks_long = c.if-marks-lt-PAIRS.false; useful_long = c.if-useful-lt-PAIRS.false; run_long = h }) (λ x. x.run_long) (says_le _ _)
