-- What the conversions write is the other layout, and each undoes the other. Assumes nothing.
use Prim.Native.Nat.{ℕ, ◌<◌}
use native.Mathlib.Omega.{arith}
use mathlib.Core.Path.{◌≡◌, sym, ap, ◌∙◌}
use mathlib.Core.List.{List}
use lib.ListN.{get_or}
use Rattle.bits.specs.Word.{bit}
use Rattle.automata.specs.Table.{table_entries}
use Rattle.automata.specs.IsTable.{Words}
use Rattle.letter_rows.specs.Layouts.{RowsOf}
use Rattle.letter_rows.specs.Answer.{converted, RowsRight, TableRight, whole}
use Rattle.letter_rows.proofs.Laying.{label_bit, row_bit, label_stored, row_stored}
use Rattle.letter_rows.proofs.Once.{by_place}

-- the rows that are written are the table's, and the table that is written has these rows
pub rows_are : {table before rows : List ℕ} → RowsRight table before rows converted → RowsOf table rows
rows_are {table} {before} {rows} (whole l m f r) = record {
  table_long = l;
  rows_long = omega (arith, r.size);
  same_bit = λ x p q h k j. ap (λ (w : ℕ). bit w q) (f x p h k) ∙ row_bit table p x q j;
}

pub table_has : {rows before table : List ℕ} → TableRight rows before table converted → RowsOf table rows
table_has {rows} (whole l m f r) = record {
  table_long = omega (arith, r.size);
  rows_long = l;
  same_bit = λ x p q h k j. sym (ap (λ (w : ℕ). bit w x) (f p q k j) ∙ label_bit rows p q x h);
}

-- the first 4,096 words come back
pub table_back : {table a rows b back : List ℕ} → Words table → RowsRight table a rows converted → TableRight rows b back converted → (i : ℕ) → i < table_entries → get_or back i 0 ≡ get_or table i 0
table_back {table} {back = back} w x (whole l m f r) = by_place (λ i. get_or back i 0 ≡ get_or table i 0) (λ p q h k. f p q h k ∙ label_stored (rows_are x) w p q h k)

pub rows_back : {rows a table b back : List ℕ} → Words rows → TableRight rows a table converted → RowsRight table b back converted → (i : ℕ) → i < table_entries → get_or back i 0 ≡ get_or rows i 0
rows_back {rows} {back = back} w x (whole l m f r) = by_place (λ i. get_or back i 0 ≡ get_or rows i 0) (λ y p h k. f y p h k ∙ row_stored (table_has x) w y p h k)
