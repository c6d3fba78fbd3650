-- A table's rows by letter: the row for letter x and state p, at 64·x + p, is the set of states that x leads to from p. Assumes nothing: these are definitions.
use Rattle.std.specs.Prelude.{ℕ, ◌+◌, ◌*◌, ◌<◌, ◌≤◌, false, List, T, length, get_or}
use Rattle.bits.specs.Word.{bit}
use Rattle.automata.specs.Table.{Table, table_states, table_entries}

-- letter x leads to p from some table state of Q
pub record Into (A : Table) (Q : ℕ → Type 0) (x p : ℕ) : Type 0 where
  pub from : ℕ
  pub held : Q from
  pub reads : T (A.edge from x p)

-- the steps that the rows store, as a table
abbrev pub rows_table : List ℕ → Table
rows_table rows = record { weight = table_states; edge = λ p x q. bit (get_or rows (table_states * x + p) 0) q; final = λ q. false }

-- for the letters that U holds of they are those of A
pub record Rowed (A : Table) (U : ℕ → Type 0) (rows : List ℕ) : Type 0 where
  pub long : table_entries ≤ length rows
  pub sound : (x p q : ℕ) → U x → p < table_states → T ((rows_table rows).edge p x q) → T (A.edge p x q)
  pub complete : (x p q : ℕ) → U x → T (A.edge p x q) → T ((rows_table rows).edge p x q)
