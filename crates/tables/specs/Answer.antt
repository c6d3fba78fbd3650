-- What building a table comes to, for every string of bytes and every slice. Assumes nothing: these are definitions.
use Rattle.std.specs.Prelude.{ℕ, ◌^◌, ◌<◌, ◌≤◌, ◌≡◌, List, length, Ok, Err, Result as Returned}
use Rattle.rules.specs.declared.Known.{Known}
use Rattle.definitions.specs.Definition1.{Rule}
use Rattle.definitions.specs.Numbers.{short_slice_number}
use Rattle.rules.specs.Answer.{answer, AcceptedAs, known_of}
use Rattle.tables.specs.declared.Tabled.{Tabled}
use Rattle.tables.specs.declared.Refusal.{Refusal}
use Rattle.tables.specs.Refusals.{number, place}
use Rattle.automata.specs.Table.{table_entries}
use Rattle.tables.specs.Beyond.{Beyond}
use Rattle.automata.specs.IsTable.{IsTable}

-- what is known of the rule and its set of finals, with the table in the slice; or refused, with number and place
pub data Result : Type 0 where
  tabled : Known → ℕ → Result
  refused : ℕ → ℕ → Result

-- what building hands back
abbrev pub TableAnswer : Type 0
TableAnswer = Returned Tabled Refusal

-- the paper's number and values for each case of the answer
abbrev pub told : TableAnswer → Result
told (Ok t) = tabled t.rule t.finals
told (Err x) = refused (number x) (place x)

-- the right result for the rule's bytes s and the slice t, which is t' after the call: the rule's own refusal, then 21, and the slice as it was;
-- else the slice begins with the rule's table and is as it was past it
pub data BuildRight (s t t' : List ℕ) : Result → Type 0 where
  rule_refused : {n p : ℕ} → answer s ≡ Rattle.rules.specs.Answer.refused n p → t' ≡ t → BuildRight s t t' (refused n p)
  short_table : {r : Rule} → AcceptedAs s r → length t < table_entries → t' ≡ t → BuildRight s t t' (refused short_slice_number 0)
  the_table : {r : Rule} {f : ℕ} → AcceptedAs s r → table_entries ≤ length t → f < 2 ^ 64 → IsTable r t' f → Beyond table_entries t t' → BuildRight s t t' (tabled (known_of r) f)

-- the same where the rule is known to be accepted and the slice to be long enough: f is the set of finals of every rule that the bytes are accepted as
pub record TableFor (s t t' : List ℕ) (f : ℕ) : Type 0 where
  pub right : (r : Rule) → AcceptedAs s r → BuildRight s t t' (tabled (known_of r) f)
