-- What the passes of the search are lent, and what each of them comes to. Assumes nothing: these are definitions.
use Rattle.std.specs.Prelude.{ℕ, zero, suc, ◌+◌, ◌*◌, ◌-◌, ◌≤◌, ◌<◌, ◌≡◌, Bool, true, false, ◌≢◌, ◌⊎◌, ◌↔◌, List, T, length, get_or}
use Rattle.bits.specs.Word.{bit}
use Rattle.bits.specs.Sets.{Below}
use Rattle.definitions.specs.Definition2.{letter_count}
use Rattle.automata.specs.Table.{Table, table_states, table_of, Accepts}
use Rattle.steps.specs.Rows.{Into, Rowed}
use Rattle.models.specs.Model.{Model, model_states, Walk, spelled}
use Rattle.levels.specs.declared.shape.Sizes.{Sizes}
use Rattle.levels.specs.Right.{Count, Before}
use Rattle.levels.specs.Lent.{pair_count, LentTable, LentLetters}

-- ---- what the passes are lent

-- the table's labels alone, where no finals are asked for
abbrev pub labels_in : Sizes → List ℕ → Table
labels_in sizes table = table_of table sizes.weight 0

-- the letters of the states below n
abbrev pub Used : List ℕ → ℕ → ℕ → Type 0
Used letters n x = Below (λ t x. x ≡ get_or letters t 0) n x

-- table and letters, and the table's rows for these letters
pub record PassInput (sizes : Sizes) (table letters rows : List ℕ) : Type 0 where
  pub labels : LentTable table sizes.weight
  pub model : LentLetters letters sizes.states
  pub by_letter : Rowed (labels_in sizes table) (Used letters sizes.states) rows

-- marks and queue have room for every pair
pub record Workspace (marks queue : List ℕ) : Type 0 where
  pub marks_long : pair_count ≤ length marks
  pub queue_long : pair_count ≤ length queue

-- two sets of table states for each model state, one for either parity of a level
abbrev pub useful_sets : ℕ
useful_sets = 128

-- no pair is marked; all sets are empty
abbrev pub Unmarked : List ℕ → Type 0
Unmarked marks = (i : ℕ) → i < pair_count → get_or marks i 0 ≡ 0

abbrev pub NoSets : List ℕ → Type 0
NoSets sets = (i : ℕ) → get_or sets i 0 ≡ 0

-- t is a model state, and its letter is there
pub record HasLetter (letters : List ℕ) (t : ℕ) : Type 0 where
  pub state : t < model_states
  pub inside : t < length letters
  pub small : get_or letters t 0 < letter_count

-- ---- numbers

-- the numbers below n that P holds of
pub record Under (P : ℕ → Type 0) (n k : ℕ) : Type 0 where
  pub below : k < n
  pub is : P k

-- ---- marks

-- the place of the pair (s, q)
abbrev pub pair_at : ℕ → ℕ → ℕ
pair_at s q = table_states * s + q

-- its mark
abbrev pub view : List ℕ → ℕ → ℕ → ℕ
view l s q = get_or l (pair_at s q) 0

-- row s has table state q on level j
abbrev pub OnLevel : List ℕ → ℕ → ℕ → ℕ → ℕ → Type 0
OnLevel m n j s q = Under (λ q. view m s q ≡ j) n q

-- a useful pair on level j
pub record Kept (m u : List ℕ) (j s q : ℕ) : Type 0 where
  pub on : view m s q ≡ j
  pub useful : view u s q ≢ 0

abbrev pub Nz : List ℕ → ℕ → Type 0
Nz l i = get_or l i 0 ≢ 0

-- from the marks a to the marks b: of the places in S those that were 0 are marked j + 1, and there are c of them; nothing else changes
pub record Step (j : ℕ) (a b : List ℕ) (S : ℕ → Type 0) (c : ℕ) : Type 0 where
  pub size : length b ≡ length a
  pub only : (i : ℕ) → (get_or b i 0 ≡ get_or a i 0) ⊎ (S i × (get_or a i 0 ≡ 0) × (get_or b i 0 ≡ suc j))
  pub all : (i : ℕ) → S i → get_or b i 0 ≢ 0
  pub tally : (k : ℕ) → Count (Nz a) pair_count k → Count (Nz b) pair_count (k + c)
  pub quiet : c ≡ 0 → b ≡ a

-- place i is that of (t, p), and p is in P
pub record At (P : ℕ → Type 0) (t p i : ℕ) : Type 0 where
  pub is : P p
  pub place : i ≡ pair_at t p

-- ---- the forward pass

-- the places of row t that letter and table lead to from Q, if t is in the set `succ`
abbrev pub Along : Table → List ℕ → ℕ → (ℕ → Type 0) → ℕ → ℕ → Type 0
Along A letters succ Q t i = T (bit succ t) × Below (At (Into A Q (get_or letters t 0)) t) A.weight i

-- the same from the pairs of row s on level j of the marks m, and from those of every row
abbrev pub FromRow : Table → List ℕ → ℕ → List ℕ → ℕ → List ℕ → ℕ → ℕ → Type 0
FromRow A letters states successors j m s i = Below (Along A letters (get_or successors s 0) (OnLevel m A.weight j s)) states i

abbrev pub FromAll : Table → List ℕ → ℕ → List ℕ → ℕ → List ℕ → ℕ → Type 0
FromAll A letters states successors j m i = Below (FromRow A letters states successors j m) states i

-- after k states a run can be in state s with the table in state q
pub data Way (M : Model) (A : Table) : ℕ → ℕ → ℕ → Type 0 where
  start : {s q : ℕ} → s < M.states → T (M.initial s) → T (A.edge 0 (M.letter s) q) → Way M A 1 s q
  onto : {k s q t m : ℕ} → Way M A k s q → t < M.states → T (M.next s t) → T (A.edge q (M.letter t) m) → Way M A (suc k) t m

-- the marks of the pairs that ways of at most j states reach: the length of the shortest
pub record Level (M : Model) (A : Table) (j : ℕ) (m : ℕ → ℕ → ℕ) : Type 0 where
  pub low : (s q : ℕ) → s < model_states → q < table_states → m s q ≤ j
  pub sound : (s q : ℕ) → s < model_states → q < table_states → m s q ≢ 0 → Way M A (m s q) s q
  pub complete : {i s q : ℕ} → Way M A i s q → i ≤ j → (m s q ≢ 0) × (m s q ≤ i)

-- a table state of row s that is on level j and final
pub record FinalIn (final : ℕ → Bool) (m : List ℕ) (j s : ℕ) : Type 0 where
  pub state : ℕ
  pub on : view m s state ≡ j
  pub is_final : T (final state)

-- and in a row below n
pub record FinalOn (final : ℕ → Bool) (m : List ℕ) (j n : ℕ) : Type 0 where
  pub row : ℕ
  pub below : row < n
  pub there : FinalIn final m j row

-- how the forward pass ends, at level k with c pairs marked: finals are on level k alone
pub record Marked (M : Model) (A : Table) (k c : ℕ) (m : List ℕ) : Type 0 where
  pub some : 1 ≤ k
  pub levels : Level M A k (view m)
  pub counted : Count (Nz m) pair_count c
  pub few : c ≤ pair_count - model_states
  pub last_only : (s q : ℕ) → s < model_states → q < table_states → view m s q ≢ 0 → T (A.final q) → view m s q ≡ k

-- level k holds a final, and each level below it holds a pair; or nothing is on level k
pub record Ended (M : Model) (A : Table) (found : Bool) (k c : ℕ) (m : List ℕ) : Type 0 where
  pub marked : Marked M A k c m
  pub some_final : found ≡ true → FinalOn A.final m k M.states × (k ≤ c)
  pub empty : found ≡ false → (s q : ℕ) → s < model_states → q < table_states → view m s q ≢ k

-- ---- the backward pass

-- from table state q, d more states (the first allowed by ok) can end in a final
abbrev pub Left : Model → Table → (ℕ → Bool) → ℕ → ℕ → Type 0
Left M A ok zero q = T (A.final q)
Left M A ok (suc d) q = (t : ℕ) × (p : ℕ) × (t < M.states) × T (ok t) × T (A.edge q (M.letter t) p) × Left M A (M.next t) d p

-- of the pairs on level j or later those that lie on a way of k states to a final are marked in u
unfoldable pub Useful : Model → Table → ℕ → (ℕ → ℕ → ℕ) → ℕ → (ℕ → ℕ → ℕ) → Type 0
Useful M A k m j u = (s q : ℕ) → s < model_states → q < table_states → j ≤ m s q → (d : ℕ) → k ≡ m s q + d → (u s q ≢ 0) ↔ Left M A (M.next s) d q

-- ---- the pick

-- state t leads from Q to table state p, and that pair is useful and on level j
abbrev pub Onward : Table → List ℕ → (ℕ → Type 0) → List ℕ → List ℕ → ℕ → ℕ → ℕ → Type 0
Onward A letters Q m u j t p = Into A Q (get_or letters t 0) p × Under (Kept m u j t) A.weight p

-- and t is in the set `succ`, for some p
abbrev pub CanNext : Table → List ℕ → ℕ → (ℕ → Type 0) → List ℕ → List ℕ → ℕ → ℕ → Type 0
CanNext A letters succ Q m u j t = T (bit succ t) × ((p : ℕ) × Onward A letters Q m u j t p)

-- what the two passes leave to the pick: a match of k states is there
pub record Pickable (M : Model) (A : Table) (k : ℕ) (m u : List ℕ) : Type 0 where
  pub count : ℕ
  pub marked : Marked M A k count m
  pub useful : Useful M A k (view m) 1 (view u)
  pub some : Left M A M.initial k 0

-- a row of k states that the table accepts, the first in state order of those that are as long
pub record Picked (M : Model) (A : Table) (k : ℕ) (r : List ℕ) : Type 0 where
  pub size : length r ≡ k
  pub walk : Walk M M.initial r
  pub accepted : Accepts A (spelled M r)
  pub first : (u : List ℕ) → Walk M M.initial u → Accepts A (spelled M u) → length u ≡ k → (r ≡ u) ⊎ Before r u
