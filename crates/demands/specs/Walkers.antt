-- What is asked of walkers that remember: the count of letters, the first match, and the form that steps a walker where it stands.
-- Assumes nothing: these are definitions.
use Rattle.std.specs.Prelude.{ℕ, ◌≤◌, ◌<◌, ◌≡◌, ◌↔◌, Bool, true, List, [], length, Result}
use Rattle.definitions.specs.Definition1.{Rule}
use Rattle.definitions.specs.Definition2.{Sat}
use Rattle.automata.specs.Table.{table_of}
use Rattle.automata.specs.Promise.{Letters, Serves}
use Rattle.walkers.specs.declared.Walker.{Walker}
use Rattle.walkers.specs.declared.Step.{Step}
use Rattle.walkers.specs.declared.Refusal.{Refusal}
use Rattle.walkers.specs.Steps.{start_of, told, given, step_of}
use Rattle.walkers.specs.Remembers.{Took, Remembers}
use Rattle.demands.specs.Demand2.{TableFor}

-- a walker over any table that serves a rule, built or not, knows of the letters l that it took: how many they are, whether Definition 2 accepts
-- some beginning of them, and the length of the shortest
abbrev pub AnyTableRemembered : Type 0
AnyTableRemembered = (r : Rule) (t : List ℕ) (f : ℕ) → Serves (table_of t 64 f) r → (l : List ℕ) (v : Walker) → Took t f l v → Remembers r l v

-- so it does over a built one
abbrev pub WalkerRemembers : Type 0
WalkerRemembers = (r : Rule) (t : List ℕ) (f : ℕ) → TableFor r t f → (l : List ℕ) (v : Walker) → Took t f l v → Remembers r l v

-- before any letter: it has matched, at 0, exactly if the rule accepts the empty sequence
abbrev pub FreshMatched : Type 0
FreshMatched = (r : Rule) (t : List ℕ) (f : ℕ) → TableFor r t f → ((start_of f).taken ≡ 0) × ((start_of f).first ≡ 0) × (((start_of f).matched ≡ true) ↔ Sat r [])

-- every sequence of fewer than 2^32 letters is taken
abbrev pub EverySequenceTaken : Type 0
EverySequenceTaken = (t : List ℕ) → 4096 ≤ length t → (f : ℕ) (l : List ℕ) → Letters l → length l < 4294967296 → (v : Walker) × Took t f l v

-- the two forms of a step do the same: what is said by the one is said by the other, and the walker that the one gives back is the one that the other leaves
abbrev pub BothFormsSame : Type 0
BothFormsSame = (t : List ℕ) (w : Walker) (x : ℕ) (s : Step) (left : Walker) (a : Result Bool Refusal)
    → told s ≡ step_of t w x → told (given left a) ≡ step_of t w x → (a ≡ s.answer) × (left ≡ s.walker)

pub record Walkers : Type 0 where
  pub any_table_remembered : AnyTableRemembered
  pub walker_remembers : WalkerRemembers
  pub fresh_matched : FreshMatched
  pub every_sequence_taken : EverySequenceTaken
  pub both_forms_same : BothFormsSame
