-- Laws of the two layouts: each is made of the other, and a step over rows is a step over the table whose rows they are. Assumes nothing.
use Prim.Native.Nat.{ℕ, zero, suc, ◌+◌, ◌*◌, ◌/◌, ◌%◌, ◌^◌, ◌≤◌, ◌<◌}
use native.Mathlib.Nat.{not-suc-le-zero, le_of_suc-le-suc}
use native.Mathlib.Omega.{arith}
use mathlib.Core.Path.{◌≡◌, refl, sym, ap, ap₂, subst, ◌∙◌}
use mathlib.Core.Bool.{Bool, ◌&&◌}
use mathlib.Core.List.{List}
use lib.Dec.{T}
use lib.ListN.{length, get_or}
use lib.Seq.{ext_get_or}
use Rattle.bits.specs.Word.{bit, any}
use Rattle.bits.specs.Sets.{In, Members, Over}
use Rattle.bits.proofs.Laws.{bit_word, word_unique, any_ext}
use Rattle.bits.proofs.Resting.{in_word}
use Rattle.definitions.specs.Definition2.{letter_count}
use Rattle.automata.specs.Table.{table_states, table_entries, cell, table_of}
use Rattle.automata.specs.IsTable.{Words}
use Rattle.automata.proofs.TableOf.{edge_out, edge_in}
use Rattle.steps.specs.Moves.{row_of, advanced}
use Rattle.steps.specs.Rows.{Rowed}
use Rattle.steps.proofs.Gathering.{gathered}
use Rattle.letter_rows.specs.Layouts.{row_at, RowsOf, label_of, list_of, table_by, rows_by}
use Rattle.letter_rows.proofs.Carrying.{word_same}

-- ---- lists by their entries

list_length : (n : ℕ) (f : ℕ → ℕ) → length (list_of n f) ≡ n
unfolding list_of
list_length zero f = refl
list_length (suc n) f = ap suc (list_length n (λ i. f (suc i)))

list_at : (n : ℕ) (f : ℕ → ℕ) (i : ℕ) → i < n → get_or (list_of n f) i 0 ≡ f i
unfolding list_of
list_at zero f i l = absurd (not-suc-le-zero l)
list_at (suc n) f zero l = refl
list_at (suc n) f (suc i) l = list_at n (λ j. f (suc j)) i (le_of_suc-le-suc l)

pub table_length : (rows : List ℕ) → length (table_by rows) ≡ length rows
unfolding table_by
table_length rows = list_length (length rows) (λ i. label_of rows (i / table_states) (i % table_states))

pub rows_length : (table : List ℕ) → length (rows_by table) ≡ length table
unfolding rows_by
rows_length table = list_length (length table) (λ i. row_of table (i % table_states) (i / table_states))

table_at : (rows : List ℕ) (i : ℕ) → i < length rows → get_or (table_by rows) i 0 ≡ label_of rows (i / table_states) (i % table_states)
unfolding table_by
table_at rows i l = list_at (length rows) (λ i. label_of rows (i / table_states) (i % table_states)) i l

rows_at : (table : List ℕ) (i : ℕ) → i < length table → get_or (rows_by table) i 0 ≡ row_of table (i % table_states) (i / table_states)
unfolding rows_by
rows_at table i l = list_at (length table) (λ i. row_of table (i % table_states) (i / table_states)) i l

-- ---- the bits of labels and rows

pub label_bit : (rows : List ℕ) (p q x : ℕ) → x < letter_count → bit (label_of rows p q) x ≡ bit (row_at rows x p) q
unfolding label_of
label_bit rows p q x h = bit_word letter_count (λ y. bit (row_at rows y p) q) x h

pub row_bit : (table : List ℕ) (p x q : ℕ) → q < table_states → bit (row_of table p x) q ≡ bit (cell table p q) x
unfolding row_of
row_bit table p x q h = bit_word table_states (λ r. bit (cell table p r) x) q h

-- the label that is stored, by its place
pub table_cell : (rows : List ℕ) (p q : ℕ) → table_entries ≤ length rows → p < table_states → q < table_states → cell (table_by rows) p q ≡ label_of rows p q
table_cell rows p q l h k =
    let d : (64 * p + q) / 64 ≡ p = omega arith in
    let m : (64 * p + q) % 64 ≡ q = omega arith in
    table_at rows (64 * p + q) (omega arith) ∙ ap₂ (label_of rows) d m

rows_row : (table : List ℕ) (x p : ℕ) → table_entries ≤ length table → x < letter_count → p < table_states → row_at (rows_by table) x p ≡ row_of table p x
rows_row table x p l h k =
    let d : (64 * x + p) / 64 ≡ x = omega arith in
    let m : (64 * x + p) % 64 ≡ p = omega arith in
    rows_at table (64 * x + p) (omega arith) ∙ ap₂ (row_of table) m d

-- rows are those of the table that they store, and of no other but for words past 64 bits
pub rows_of_table : (rows : List ℕ) → table_entries ≤ length rows → RowsOf (table_by rows) rows
rows_of_table rows l = record {
  table_long = subst (λ (n : ℕ). table_entries ≤ n) (sym (table_length rows)) l;
  rows_long = l;
  same_bit = λ x p q h k m. sym (ap (λ (w : ℕ). bit w x) (table_cell rows p q l k m) ∙ label_bit rows p q x h);
}

pub table_of_rows : (table : List ℕ) → table_entries ≤ length table → RowsOf table (rows_by table)
table_of_rows table l = record {
  table_long = l;
  rows_long = subst (λ (n : ℕ). table_entries ≤ n) (sym (rows_length table)) l;
  same_bit = λ x p q h k m. ap (λ (w : ℕ). bit w q) (rows_row table x p l h k) ∙ row_bit table p x q m;
}

-- ---- there and back

-- the first 4,096 words of a table are those that its rows store, and of rows those that their table stores
pub label_stored : {table rows : List ℕ} → RowsOf table rows → Words table → (p q : ℕ) → p < table_states → q < table_states → label_of rows p q ≡ cell table p q
unfolding label_of
label_stored {table} {rows} r w p q h k = sym (word_unique letter_count (cell table p q) (λ x. bit (row_at rows x p) q) (w (64 * p + q)) (λ x l. sym (r.same_bit x p q l h k)))

pub row_stored : {table rows : List ℕ} → RowsOf table rows → Words rows → (x p : ℕ) → x < letter_count → p < table_states → row_of table p x ≡ row_at rows x p
unfolding row_of
row_stored {table} {rows} r w x p h k = sym (word_unique table_states (row_at rows x p) (λ q. bit (cell table p q) x) (w (64 * x + p)) (λ q l. r.same_bit x p q h k l))

pub there_back : (table : List ℕ) → length table ≡ table_entries → Words table → table_by (rows_by table) ≡ table
there_back table e w =
    ext_get_or 0 (table_by (rows_by table)) table (table_length (rows_by table) ∙ rows_length table) (λ i l. entry i (omega (arith, table_length (rows_by table), rows_length table)))
  where
    entry : (i : ℕ) → i < table_entries → get_or (table_by (rows_by table)) i 0 ≡ get_or table i 0
    entry i l =
        let d : 64 * (i / 64) + i % 64 ≡ i = omega arith in
        table_at (rows_by table) i (omega (arith, rows_length table))
        ∙ label_stored (table_of_rows table (omega arith)) w (i / 64) (i % 64) (omega arith) (omega arith) ∙ ap (λ (n : ℕ). get_or table n 0) d

pub back_there : (rows : List ℕ) → length rows ≡ table_entries → Words rows → rows_by (table_by rows) ≡ rows
back_there rows e w =
    ext_get_or 0 (rows_by (table_by rows)) rows (rows_length (table_by rows) ∙ table_length rows) (λ i l. entry i (omega (arith, rows_length (table_by rows), table_length rows)))
  where
    entry : (i : ℕ) → i < table_entries → get_or (rows_by (table_by rows)) i 0 ≡ get_or rows i 0
    entry i l =
        let d : 64 * (i / 64) + i % 64 ≡ i = omega arith in
        rows_at (table_by rows) i (omega (arith, table_length rows))
        ∙ row_stored (rows_of_table rows (omega arith)) w (i / 64) (i % 64) (omega arith) (omega arith) ∙ ap (λ (n : ℕ). get_or rows n 0) d

-- ---- steps

-- over a table and over its rows a set goes to the same states
pub advanced_same : {table rows : List ℕ} → RowsOf table rows → (set x : ℕ) → x < letter_count → advanced (table_by rows) set x ≡ advanced table set x
unfolding advanced
advanced_same {table} {rows} r set x h =
    word_same table_states (λ q. any table_states (λ p. bit set p && bit (cell (table_by rows) p q) x)) (λ q. any table_states (λ p. bit set p && bit (cell table p q) x))
    (λ q k. any_ext table_states (λ p. bit set p && bit (cell (table_by rows) p q) x) (λ p. bit set p && bit (cell table p q) x)
    (λ p l. ap (λ (b : Bool). bit set p && b) (sym ((rows_of_table rows r.rows_long).same_bit x p q h l k) ∙ r.same_bit x p q h l k)))

-- the rows of the members, united
pub rows_gathered : (rows : List ℕ) (set x reached : ℕ) → table_entries ≤ length rows → x < letter_count → set < 2 ^ 64 → reached < 2 ^ 64
    → Members reached (λ q. Over (In set) (λ p. T (bit (row_at rows x p) q))) → reached ≡ advanced (table_by rows) set x
rows_gathered rows set x reached l h hs hr m =
    gathered (table_by rows) set x reached hs hr
    (record {
      holds = λ q t. let o = m.holds q t in let k = in_word q hr t in record { at = o.at; inside = o.inside; holds = (k, subst T (r.same_bit x o.at q h (in_word o.at hs o.inside) k) o.holds) };
      has = λ q o. m.has q (record { at = o.at; inside = o.inside; holds = subst T (sym (r.same_bit x o.at q h (in_word o.at hs o.inside) o.holds.0)) o.holds.1 });
    })
  where
    r : RowsOf (table_by rows) rows
    r = rows_of_table rows l

-- ---- the search's rows are these

-- a table's rows are rows as the search takes them, for every letter
pub rows_rowed : {table rows : List ℕ} → RowsOf table rows → Words rows → Rowed (table_of table table_states 0) (λ x. x < letter_count) rows
rows_rowed {table} {rows} r w = record {
  long = r.rows_long;
  sound = λ x p q h k t. let m = in_word q (w (64 * x + p)) t in edge_in table table_states 0 p x q k m (subst T (r.same_bit x p q h k m) t);
  complete = λ x p q h t. let z = edge_out table table_states 0 p x q t in subst T (sym (r.same_bit x p q h z.0 z.1)) z.2;
}
