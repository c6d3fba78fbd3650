-- Request 2026-04: states that do no work are dropped. The trimmed table accepts the same sequences, and trimming again changes nothing;
-- the search over it gives the search's run and refusals, and counts the trimmed table's pairs. Runs are those that can be continued for ever. Assumes nothing: these are definitions.
use Rattle.std.specs.Prelude.{ℕ, ◌+◌, ◌*◌, ◌-◌, ◌≤◌, ◌<◌, ◌≡◌, ◌⊎◌, ◌↔◌, List, length, get_or, take}
use Rattle.std.specs.Prelude as std
use Rattle.rules.specs.declared.Known.{Known}
use Rattle.definitions.specs.Definition1.{Rule}
use Rattle.definitions.specs.Definition2.{Sat}
use Rattle.rules.specs.Weight.{weight_of}
use Rattle.rules.specs.Answer.{known_of}
use Rattle.automata.specs.Table.{table_of, Accepts}
use Rattle.tables.specs.Beyond.{Beyond}
use Rattle.automata.specs.IsTable.{Words}
use Rattle.automata.specs.Promise.{Letters, Serves}
use Rattle.trims.specs.declared.Refusal.{Refusal}
use Rattle.trims.specs.declared.TrimmedTable.{TrimmedTable}
use Rattle.trims.specs.Kept.{Kept}
use Rattle.trims.specs.Answer as trims
use Rattle.lasting.specs.Endless.{LastingRun}
use Rattle.search.specs.Answer.{SearchAnswer}
use Rattle.levels.specs.Right.{Answer, found, nothing, Matches, Shown, Pairs}
use Rattle.search.specs.Answer.{Slices, LongEnough, Result, answered, refused, told, SearchRight}
use Rattle.trimmed_search.specs.Answer.{TrimmedFor, TrimmedSearchRight}
use Rattle.trimmed_search.specs.Alike.{Alike}
use Rattle.demands.specs.Terms.{Spells, IsModel, model_in_of}
use Rattle.demands.specs.CallFaults.{TrimFault, SearchFault}
use Rattle.demands.specs.Demand2.{TableFor}
use Rattle.demands.specs.Demand3.{Finds, FindsNone, Leaves}

-- ---- trimming

-- the table of n states in the slice t, with finals f, was trimmed: the slice is t', and the answer n' and f'
abbrev pub Trims : (t t' : List ℕ) (n f n' f' : ℕ) → Type 0
Trims t t' n f n' f' = trims.TrimRight t t' n f (trims.trimmed n' f')

-- the same sequences are accepted, of every length
abbrev pub SameSequences : Type 0
SameSequences = (t t' : List ℕ) (n f n' f' : ℕ) → Trims t t' n f n' f' → (w : List ℕ) → Accepts (table_of t n f) w ↔ Accepts (table_of t' n' f') w

-- trimming again answers the same and changes nothing
abbrev pub AgainNothing : Type 0
AgainNothing = (t t' t'' : List ℕ) (n f n' f' : ℕ) (a : trims.Result) → Trims t t' n f n' f' → trims.TrimRight t' t'' n' f' a → (a ≡ trims.trimmed n' f') × (t'' ≡ t')

-- each state that is left is 0, or lies on a path from 0 to a final
abbrev pub AllWork : Type 0
AllWork = (t t' : List ℕ) (n f n' f' : ℕ) → Trims t t' n f n' f' → (q : ℕ) → q < n' → Kept t' n' f' q

-- a table that accepts nothing is trimmed to state 0 alone
abbrev pub NothingIsOneState : Type 0
NothingIsOneState = (t t' : List ℕ) (n f n' f' : ℕ) → Words t → Trims t t' n f n' f' → ((w : List ℕ) → Accepts (table_of t n f) w → ⊥) → n' ≡ 1

-- of the first 4,096 entries those outside the new weight are 0, and later ones are as they were
abbrev pub TrimLeaves : Type 0
TrimLeaves = (t t' : List ℕ) (n f n' f' : ℕ) → Trims t t' n f n' f'
    → ((p q : ℕ) → p < 64 → q < 64 → (n' ≤ p) ⊎ (n' ≤ q) → get_or t' (64 * p + q) 0 ≡ 0) × Beyond 4096 t t'

-- 21 and 24 exactly where the paper says, and they change nothing
abbrev pub TrimRefusedExactly : Type 0
TrimRefusedExactly = (t t' : List ℕ) (n f : ℕ) (a : trims.Result) (k p : ℕ) → trims.TrimRight t t' n f a → (a ≡ trims.refused k p) ↔ TrimFault t n f k p

abbrev pub RefusedTrimKeeps : Type 0
RefusedTrimKeeps = (t t' : List ℕ) (n f k p : ℕ) → trims.TrimRight t t' n f (trims.refused k p) → t' ≡ t

-- a rule's table is not refused; trimmed, it serves the rule, and so accepts what Definition 2 accepts
abbrev pub RuleTablesTrimmed : Type 0
RuleTablesTrimmed = (r : Rule) (t t' : List ℕ) (f : ℕ) (a : trims.Result) → TableFor r t f → trims.TrimRight t t' (weight_of r) f a
    → (m : ℕ) × (g : ℕ) × (a ≡ trims.trimmed m g) × Serves (table_of t' m g) r × ((w : List ℕ) → Letters w → Accepts (table_of t' m g) w ↔ Sat r w)

-- no second answer fits, and no second content of the slice
abbrev pub OneTrim : Type 0
OneTrim = (t u v : List ℕ) (n f : ℕ) (a b : std.Result TrimmedTable Refusal) → trims.TrimRight t u n f (trims.told a) → trims.TrimRight t v n f (trims.told b) → (a ≡ b) × (u ≡ v)

-- ---- the search over the trimmed table

-- it gives the search's run and the search's refusals
abbrev pub RunAndRefusalsSame : Type 0
RunAndRefusalsSame = (s g : List ℕ) (before after after' : Slices) (a b : Result) → SearchRight s g before after a → TrimmedSearchRight s g before after' b → Alike a b

-- it answered a, with a run of length n, for bytes that spell the rule f and for the model's bytes g, and left the slices as in `after`
pub record TrimmedSearch (g : List ℕ) (f : Rule) (after : Slices) (n : ℕ) (a : Answer) : Type 0 where
  pub bytes : List ℕ
  pub known : Known
  pub before : Slices
  pub spells : Spells bytes f
  pub right : TrimmedSearchRight bytes g before after (answered known n a)

-- every accepted rule and model is searched, where the slices are long enough
abbrev pub EveryTrimmedAnswered : Type 0
EveryTrimmedAnswered = (s g : List ℕ) (f : Rule) (before after : Slices) (x : Result) → Spells s f → IsModel g → LongEnough before → TrimmedSearchRight s g before after x
    → (n : ℕ) × (a : Answer) × (x ≡ answered (known_of f) n a)

-- a find exactly if some run matches, none exactly if no run of any length does
abbrev pub TrimmedFindExactly : Type 0
TrimmedFindExactly = (g : List ℕ) (f : Rule) (after : Slices) (n : ℕ) (a : Answer) → TrimmedSearch g f after n a
    → (Finds a ↔ ((r : List ℕ) × Matches LastingRun (model_in_of g) f r)) × (FindsNone a ↔ ((r : List ℕ) → Matches LastingRun (model_in_of g) f r → ⊥))

-- the run is the first of the shortest; its length is n and the output begins with it
abbrev pub TrimmedRunIsFirst : Type 0
TrimmedRunIsFirst = (g : List ℕ) (f : Rule) (after : Slices) (n : ℕ) (r : List ℕ) (c : ℕ) → TrimmedSearch g f after n (found r c)
    → Shown LastingRun (model_in_of g) f r × (n ≡ length r) × (take n after.run ≡ r)

-- the slice begins with the rule's table as it is trimmed, of so many states, whose pairs of runs with a length in `In` are c; with s states of the model they are s·(weight-1) at most
pub record TrimmedCounts (g : List ℕ) (f : Rule) (t : List ℕ) (In : ℕ → Type 0) (c : ℕ) : Type 0 where
  pub bytes : List ℕ
  pub before : List ℕ
  pub weight : ℕ
  pub finals : ℕ
  pub spells : Spells bytes f
  pub table : TrimmedFor bytes f before t weight finals
  pub pairs : Pairs LastingRun (model_in_of g) (table_of t weight finals) In c
  pub bounded : c ≤ (model_in_of g).states * (weight - 1)

-- over runs no longer than the find; over all runs where there is none
abbrev pub TrimmedFindCounts : Type 0
TrimmedFindCounts = (g : List ℕ) (f : Rule) (after : Slices) (n : ℕ) (r : List ℕ) (c : ℕ) → TrimmedSearch g f after n (found r c) → TrimmedCounts g f after.table (λ k. k ≤ length r) c

abbrev pub TrimmedNoneCounts : Type 0
TrimmedNoneCounts = (g : List ℕ) (f : Rule) (after : Slices) (n c : ℕ) → TrimmedSearch g f after n (nothing c) → TrimmedCounts g f after.table (λ k. Unit {0}) c

-- the refusals are those of the search, and change nothing; an answer leaves the slices as the search does, but for the table
abbrev pub TrimmedRefusedExactly : Type 0
TrimmedRefusedExactly = (s g : List ℕ) (before after : Slices) (a : Result) (n p : ℕ) → TrimmedSearchRight s g before after a → (a ≡ refused n p) ↔ SearchFault s g before n p

abbrev pub RefusedTrimmedKeeps : Type 0
RefusedTrimmedKeeps = (s g : List ℕ) (before after : Slices) (n p : ℕ) → TrimmedSearchRight s g before after (refused n p) → after ≡ before

abbrev pub TrimmedLeaves : Type 0
TrimmedLeaves = (s g : List ℕ) (before after : Slices) (k : Known) (n : ℕ) (a : Answer) → TrimmedSearchRight s g before after (answered k n a) → Leaves before after a

-- no second answer fits, and no second content of the slices
abbrev pub OneTrimmedSearch : Type 0
OneTrimmedSearch = (s g : List ℕ) (before after after' : Slices) (a b : SearchAnswer) → TrimmedSearchRight s g before after (told a after.run)
    → TrimmedSearchRight s g before after' (told b after'.run) → (a ≡ b) × (after ≡ after')

pub record Trimming : Type 0 where
  pub same_sequences : SameSequences
  pub again_nothing : AgainNothing
  pub all_work : AllWork
  pub nothing_is_one_state : NothingIsOneState
  pub trim_leaves : TrimLeaves
  pub trim_refused_exactly : TrimRefusedExactly
  pub refused_trim_keeps : RefusedTrimKeeps
  pub rule_tables_trimmed : RuleTablesTrimmed
  pub one_trim : OneTrim
  pub run_and_refusals_same : RunAndRefusalsSame
  pub every_trimmed_answered : EveryTrimmedAnswered
  pub trimmed_find_exactly : TrimmedFindExactly
  pub trimmed_run_is_first : TrimmedRunIsFirst
  pub trimmed_find_counts : TrimmedFindCounts
  pub trimmed_none_counts : TrimmedNoneCounts
  pub trimmed_refused_exactly : TrimmedRefusedExactly
  pub refused_trimmed_keeps : RefusedTrimmedKeeps
  pub trimmed_leaves : TrimmedLeaves
  pub one_trimmed_search : OneTrimmedSearch
