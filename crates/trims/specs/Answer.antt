-- What trimming comes to, for every slice, weight and set of finals. Assumes nothing: these are definitions.
use Rattle.std.specs.Prelude as std
use Rattle.std.specs.Prelude.{ℕ, ◌<◌, ◌≤◌, ◌≡◌, List, length, Ok, Err}
use Rattle.definitions.specs.Numbers.{short_slice_number, no_table_number}
use Rattle.automata.specs.Table.{table_entries}
use Rattle.trims.specs.declared.Refusal.{Refusal}
use Rattle.trims.specs.declared.TrimmedTable.{TrimmedTable}
use Rattle.trims.specs.Stands.{Stands, Faulty}
use Rattle.trims.specs.Trimmed.{Trimmed}
use Rattle.trims.specs.Refusals.{number, place}

-- the new weight and the new finals, with the trimmed table in the slice; or refused, with number and place
pub data Result : Type 0 where
  trimmed : ℕ → ℕ → Result
  refused : ℕ → ℕ → Result

-- the paper's number and values for each case of the answer
abbrev pub told : std.Result TrimmedTable Refusal → Result
told (Ok x) = trimmed x.weight x.finals
told (Err x) = refused (number x) (place x)

-- the right result for the slice t, the weight n and the finals f, where the slice is t' after the call: 21, then 24, and the slice as it was; else trimmed
pub data TrimRight (t t' : List ℕ) (n f : ℕ) : Result → Type 0 where
  short_table : length t < table_entries → t' ≡ t → TrimRight t t' n f (refused short_slice_number 0)
  no_table : table_entries ≤ length t → Faulty t n f → t' ≡ t → TrimRight t t' n f (refused no_table_number 0)
  the_trimmed : {n' f' : ℕ} → table_entries ≤ length t → Stands t n f → Trimmed t t' n f n' f' → TrimRight t t' n f (trimmed n' f')
