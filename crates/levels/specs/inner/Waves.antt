-- What the passes over arrays of sets come to. Assumes nothing: these are definitions.
use Rattle.std.specs.Prelude.{ℕ, suc, ◌+◌, ◌≤◌, ◌<◌, ◌≡◌, List, T, length, get_or}
use Rattle.bits.specs.Word.{bit}
use Rattle.bits.specs.Sets.{Over, In}
use Rattle.automata.specs.Table.{table_states}
use Rattle.tables.specs.Beyond.{Beyond}
use Rattle.steps.specs.Rows.{Into, rows_table}
use Rattle.models.specs.Model.{model_states}
use Rattle.levels.specs.Right.{Count}
use Rattle.levels.specs.Lent.{pair_count}
use Rattle.levels.specs.inner.Passes.{Nz, Step, pair_at, view}

-- ---- the queue

-- the first c entries list the marked pairs, marks rising, and no mark is above `top`
pub record Queued (top : ℕ) (m queue : List ℕ) (c : ℕ) : Type 0 where
  pub counted : Count (Nz m) pair_count c
  pub low : (i : ℕ) → i < pair_count → get_or m i 0 ≤ top
  pub listed : (i : ℕ) → i < pair_count → Nz m i → (k : ℕ) × (k < c) × (get_or queue k 0 ≡ i)
  pub marked : (k : ℕ) → k < c → (get_or queue k 0 < pair_count) × Nz m (get_or queue k 0)
  pub rising : (k l : ℕ) → k ≤ l → l < c → get_or m (get_or queue k 0) 0 ≤ get_or m (get_or queue l 0) 0

-- from count to r: what S says is marked j + 1 where it had no mark, and listed
pub record Pushed (j : ℕ) (m m' queue queue' : List ℕ) (S : ℕ → Type 0) (count r : ℕ) : Type 0 where
  pub new : ℕ
  pub sum : r ≡ count + new
  pub step : Step j m m' S new
  pub queued : Queued (suc j) m' queue' r
  pub beyond : Beyond pair_count queue queue'

-- ---- a level

-- the states in `fresh` have successors and a set
abbrev pub Sending : List ℕ → List ℕ → ℕ → Type 0
Sending successors front fresh = (s : ℕ) → T (bit fresh s) → (s < length successors) × (s < length front)

-- state s may be followed by t, and has q in its set
pub record Sent (successors front : List ℕ) (t s q : ℕ) : Type 0 where
  pub steps : T (bit (get_or successors s 0) t)
  pub held : T (bit (get_or front s 0) q)

-- state t comes to table state p from the sets of the states in `fresh`
abbrev pub Arrives : List ℕ → List ℕ → List ℕ → List ℕ → ℕ → ℕ → ℕ → Type 0
Arrives rows letters successors front fresh t p = Into (rows_table rows) (λ q. Over (In fresh) (λ s. Sent successors front t s q)) (get_or letters t 0) p

-- the places of the pairs that t so comes to
abbrev pub Lands : List ℕ → List ℕ → List ℕ → List ℕ → ℕ → ℕ → ℕ → Type 0
Lands rows letters successors front fresh t i = Over (Arrives rows letters successors front fresh t) (λ p. i ≡ pair_at t p)

-- state t comes so to table state p, and that pair has no mark
abbrev pub Incoming : List ℕ → List ℕ → List ℕ → List ℕ → List ℕ → ℕ → ℕ → ℕ → Type 0
Incoming rows letters successors front m fresh t p = Arrives rows letters successors front fresh t p × (view m t p ≡ 0)

-- the sets of the states in `fresh` are the pairs on level j
pub record Fronts (m : List ℕ) (states j fresh : ℕ) (front : List ℕ) : Type 0 where
  pub holds : (s q : ℕ) → T (bit fresh s) → T (bit (get_or front s 0) q) → (s < states) × (q < table_states) × (view m s q ≡ j)
  pub inside : (s : ℕ) → T (bit fresh s) → s < states
  pub has : (s q : ℕ) → s < model_states → q < table_states → view m s q ≡ j → T (bit fresh s) × T (bit (get_or front s 0) q)

-- the sets of the states in P are those of `after`, the others as they were
pub record Carried (P : ℕ → Type 0) (after front front' : List ℕ) : Type 0 where
  pub size : length front' ≡ length front
  pub these : (s : ℕ) → P s → get_or front' s 0 ≡ get_or after s 0
  pub others : (s : ℕ) → (P s → ⊥) → get_or front' s 0 ≡ get_or front s 0
