-- Request 2026-09: rows by letter. A table is stored the other way and back, and a walker over the rows does what it does over the table.
-- Assumes nothing: these are definitions.
use Rattle.std.specs.Prelude.{ℕ, ◌+◌, ◌*◌, ◌^◌, ◌≤◌, ◌<◌, ◌≡◌, ◌↔◌, ◌⊎◌, Bool, true, List, length, get_or, Result, Ok}
use Rattle.bits.specs.Word.{bit}
use Rattle.bits.specs.Sets.{In}
use Rattle.definitions.specs.Definition1.{Rule}
use Rattle.definitions.specs.Definition2.{Sat}
use Rattle.automata.specs.Table.{table_of}
use Rattle.tables.specs.Beyond.{Beyond}
use Rattle.automata.specs.IsTable.{Words}
use Rattle.automata.specs.Promise.{Letters}
use Rattle.steps.specs.Rows.{Rowed}
use Rattle.walkers.specs.declared.Walker.{Walker}
use Rattle.walkers.specs.declared.Step.{Step}
use Rattle.walkers.specs.declared.Refusal.{Refusal}
use Rattle.walkers.specs.Steps.{refusal, told, given, step_of}
use Rattle.walkers.specs.Walks.{follow_of, ending}
use Rattle.walkers.specs.Remembers.{Took, Remembers}
use Rattle.letter_rows.specs.declared.Refusal.{Refusal as RowsRefusal}
use Rattle.letter_rows.specs.Layouts.{RowsOf, table_by, rows_by}
use Rattle.letter_rows.specs.Answer as rows
use Rattle.demands.specs.CallFaults.{StepFault, FollowFault, ConvertFault}
use Rattle.demands.specs.Demand2.{TableFor}

-- ---- the conversions: `RowsRight` and `TableRight` say what the slice holds word by word

-- the row for letter x and state p stands at 64x+p, and has bit q exactly if the label from p to q, at 64p+q, has bit x; later entries are as they were
abbrev pub Stored : List ℕ → List ℕ → Type 0
Stored t r = (x p q : ℕ) → x < 64 → p < 64 → q < 64 → bit (get_or r (64 * x + p) 0) q ≡ bit (get_or t (64 * p + q) 0) x

abbrev pub RowsStored : Type 0
RowsStored = (t before r : List ℕ) → rows.RowsRight t before r rows.converted → Stored t r × Beyond 4096 before r

abbrev pub TableStored : Type 0
TableStored = (r before t : List ℕ) → rows.TableRight r before t rows.converted → Stored t r × Beyond 4096 before t

-- on every table of 4,096 words they undo each other, in either order
abbrev pub TableComesBack : Type 0
TableComesBack = (t : List ℕ) → length t ≡ 4096 → Words t → table_by (rows_by t) ≡ t

abbrev pub RowsComeBack : Type 0
RowsComeBack = (r : List ℕ) → length r ≡ 4096 → Words r → rows_by (table_by r) ≡ r

-- so one call after the other brings back the first 4,096 words, in slices of any length
abbrev pub TableCallsBack : Type 0
TableCallsBack = (t a r b t' : List ℕ) → Words t → rows.RowsRight t a r rows.converted → rows.TableRight r b t' rows.converted → (i : ℕ) → i < 4096 → get_or t' i 0 ≡ get_or t i 0

abbrev pub RowsCallBack : Type 0
RowsCallBack = (r a t b r' : List ℕ) → Words r → rows.TableRight r a t rows.converted → rows.RowsRight t b r' rows.converted → (i : ℕ) → i < 4096 → get_or r' i 0 ≡ get_or r i 0

-- 21 exactly where a slice is short, and then nothing changes
abbrev pub RowsRefusedExactly : Type 0
RowsRefusedExactly = (t before r : List ℕ) (a : rows.Result) (n p : ℕ) → rows.RowsRight t before r a → (a ≡ rows.refused n p) ↔ ConvertFault t before n p

abbrev pub TableRefusedExactly : Type 0
TableRefusedExactly = (r before t : List ℕ) (a : rows.Result) (n p : ℕ) → rows.TableRight r before t a → (a ≡ rows.refused n p) ↔ ConvertFault r before n p

abbrev pub RefusedRowsKeep : Type 0
RefusedRowsKeep = (t before r : List ℕ) (n p : ℕ) → rows.RowsRight t before r (rows.refused n p) → r ≡ before

abbrev pub RefusedTableKeeps : Type 0
RefusedTableKeeps = (r before t : List ℕ) (n p : ℕ) → rows.TableRight r before t (rows.refused n p) → t ≡ before

abbrev pub OneRows : Type 0
OneRows = (t before u v : List ℕ) (a b : Result (Unit {0}) RowsRefusal) → rows.RowsRight t before u (rows.told a) → rows.RowsRight t before v (rows.told b) → (a ≡ b) × (u ≡ v)

abbrev pub OneTableBack : Type 0
OneTableBack = (r before u v : List ℕ) (a b : Result (Unit {0}) RowsRefusal) → rows.TableRight r before u (rows.told a) → rows.TableRight r before v (rows.told b) → (a ≡ b) × (u ≡ v)

-- ---- walking: a call over rows promises what the call over `table_by rows`, the table whose rows they are, promises

-- over any table and its rows, written by a call or not, a step gives back the same walker and says the same, and so does one of a walker that is lent
abbrev pub StepSame : Type 0
StepSame = (t r : List ℕ) → RowsOf t r → (w : Walker) (x : ℕ) (a b : Step) → told a ≡ step_of (table_by r) w x → told b ≡ step_of t w x → a ≡ b

abbrev pub LentStepSame : Type 0
LentStepSame = (t r : List ℕ) → RowsOf t r → (w : Walker) (x : ℕ) (left : Walker) (a : Result Bool Refusal) (b : Step)
    → told (given left a) ≡ step_of (table_by r) w x → told b ≡ step_of t w x → (a ≡ b.answer) × (left ≡ b.walker)

-- and a whole sequence comes to the same
abbrev pub FollowSame : Type 0
FollowSame = (t r : List ℕ) → RowsOf t r → (f : ℕ) (w : List ℕ) (a b : Result Bool Refusal) → ending a ≡ follow_of (table_by r) f w → ending b ≡ follow_of t f w → a ≡ b

-- short rows are refused as short tables are
abbrev pub ShortSame : Type 0
ShortSame = (t r : List ℕ) → length t < 4096 → length r < 4096 → ((w : Walker) (x : ℕ) → step_of (table_by r) w x ≡ step_of t w x) × ((f : ℕ) (w : List ℕ) → follow_of (table_by r) f w ≡ follow_of t f w)

-- 21, 22 and 25 exactly where the paper says, of the slice that is lent
abbrev pub StepRowsRefusedExactly : Type 0
StepRowsRefusedExactly = (r : List ℕ) (w : Walker) (x n p : ℕ) → ((step_of (table_by r) w x).says ≡ refusal n p) ↔ StepFault r w x n p

abbrev pub FollowRowsRefusedExactly : Type 0
FollowRowsRefusedExactly = (r : List ℕ) (f : ℕ) (w : List ℕ) (n p : ℕ) → (follow_of (table_by r) f w ≡ refusal n p) ↔ FollowFault r w n p

-- over the rows of a rule's table yes is said exactly if Definition 2 accepts, and a walker remembers what it should
abbrev pub RuleRowsFollowed : Type 0
RuleRowsFollowed = (f : Rule) (t r : List ℕ) (finals : ℕ) → TableFor f t finals → RowsOf t r → (w : List ℕ) → Letters w → (a : Result Bool Refusal) → ending a ≡ follow_of (table_by r) finals w → (a ≡ Ok true) ↔ Sat f w

abbrev pub RuleRowsRemembered : Type 0
RuleRowsRemembered = (f : Rule) (t r : List ℕ) (finals : ℕ) → TableFor f t finals → RowsOf t r → (w : List ℕ) (v : Walker) → Took (table_by r) finals w v → Remembers f w v

-- no label is outside the first n states
abbrev pub Within : ℕ → List ℕ → Type 0
Within n t = (p q : ℕ) → (n ≤ p) ⊎ (n ≤ q) → get_or t (64 * p + q) 0 ≡ 0

-- the rows of a table of n states are rows as the search takes them, for any set of letters
abbrev pub SearchRowsSame : Type 0
SearchRowsSame = (t r : List ℕ) (n used : ℕ) → RowsOf t r → Words r → n ≤ 64 → Within n t → used < 2 ^ 64 → Rowed (table_of t n 0) (In used) r

pub record LetterRows : Type 0 where
  pub rows_stored : RowsStored
  pub table_stored : TableStored
  pub table_comes_back : TableComesBack
  pub rows_come_back : RowsComeBack
  pub table_calls_back : TableCallsBack
  pub rows_call_back : RowsCallBack
  pub rows_refused_exactly : RowsRefusedExactly
  pub table_refused_exactly : TableRefusedExactly
  pub refused_rows_keep : RefusedRowsKeep
  pub refused_table_keeps : RefusedTableKeeps
  pub one_rows : OneRows
  pub one_table_back : OneTableBack
  pub step_same : StepSame
  pub lent_step_same : LentStepSame
  pub follow_same : FollowSame
  pub short_same : ShortSame
  pub step_rows_refused_exactly : StepRowsRefusedExactly
  pub follow_rows_refused_exactly : FollowRowsRefusedExactly
  pub rule_rows_followed : RuleRowsFollowed
  pub rule_rows_remembered : RuleRowsRemembered
  pub search_rows_same : SearchRowsSame
