-- What trimming makes of a table. Assumes nothing: these are definitions.
use Rattle.std.specs.Prelude.{ℕ, ◌^◌, ◌<◌, ◌≤◌, ◌≡◌, ◌⊎◌, false, List, T}
use Rattle.bits.specs.Word.{bit, many}
use Rattle.automata.specs.Table.{table_states, table_entries, cell}
use Rattle.tables.specs.Beyond.{Beyond}
use Rattle.trims.specs.Kept.{KeptSet, new_number}

-- the table t of n states with finals f becomes t' of n' states with finals f': the kept states at their new numbers, with the labels between them;
-- the other labels of the first 4,096 entries are 0, and the entries past them as they were
pub record Trimmed (t t' : List ℕ) (n f n' f' : ℕ) : Type 0 where
  pub kept : ℕ
  pub states : KeptSet t n f kept
  pub weight : n' ≡ many table_states (bit kept)
  pub labels : (p q : ℕ) → T (bit kept p) → T (bit kept q) → cell t' (new_number kept p) (new_number kept q) ≡ cell t p q
  pub no_label : (p q : ℕ) → p < table_states → q < table_states → (n' ≤ p) ⊎ (n' ≤ q) → cell t' p q ≡ 0
  pub rest : Beyond table_entries t t'
  pub word : f' < 2 ^ 64
  pub finals : (q : ℕ) → T (bit kept q) → bit f' (new_number kept q) ≡ bit f q
  pub no_final : (q : ℕ) → q < table_states → n' ≤ q → bit f' q ≡ false
