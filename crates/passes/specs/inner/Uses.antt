-- What the backward pass and the pick over arrays of sets come to. Assumes nothing: these are definitions.
-- The useful pairs stand by the parity of their level: (s, q) on level j is bit q of the set at 64·(j % 2) + s.
use Rattle.std.specs.Prelude.{ℕ, zero, suc, ◌+◌, ◌*◌, ◌/◌, ◌%◌, ◌<◌, ◌≡◌, Bool, ◌≢◌, List, [], ◌∷◌, T, get_or, set}
use Rattle.bits.specs.Word.{bit, num}
use Rattle.bits.specs.Says.{Says}
use Rattle.bits.specs.Sets.{add_if, Over, In}
use Rattle.automata.specs.Table.{table_states}
use Rattle.steps.specs.Rows.{Into, rows_table}
use Rattle.models.specs.Model.{model_states}
use Rattle.levels.specs.Lent.{pair_count}
use Rattle.levels.specs.inner.Passes.{view}

-- where the set of useful pairs of state s on level j stands
abbrev pub useful_at : ℕ → ℕ → ℕ
useful_at j s = model_states * (j % 2) + s

-- letter and rows lead from table state q to a member of the set at `base` + t
pub record Meets (rows letters useful : List ℕ) (base q t : ℕ) : Type 0 where
  pub to : ℕ
  pub reads : T ((rows_table rows).edge q (get_or letters t 0) to)
  pub kept : T (bit (get_or useful (base + t) 0) to)

-- the pair (s, q) with the mark j is useful: it is on the last level and final, or one of the states after it leads it on
pub data Keeps (rows letters successors useful : List ℕ) (states finals k j s q : ℕ) : Type 0 where
  last : j ≡ k → T (bit finals q) → Keeps rows letters successors useful states finals k j s q
  early : j ≢ k → Over (λ t. In (get_or successors s 0) t × (t < states)) (Meets rows letters useful (model_states * ((j + 1) % 2)) q) → Keeps rows letters successors useful states finals k j s q

-- the pair at a place is settled
pub record Settles (rows letters successors m useful useful' : List ℕ) (states finals k at : ℕ) : Type 0 where
  pub answer : Bool
  pub says : Says answer (Keeps rows letters successors useful states finals k (get_or m at 0) (at / table_states) (at % table_states))
  pub stored : useful' ≡ set useful (useful_at (get_or m at 0) (at / table_states)) (add_if (get_or useful (useful_at (get_or m at 0) (at / table_states)) 0) (at % table_states) answer)

-- the list of f's values below n
unfoldable pub build : (ℕ → ℕ) → ℕ → List ℕ
build f zero = []
build f (suc n) = f 0 ∷ build (λ i. f (suc i)) n

-- the useful pairs as marks
abbrev pub flat : List ℕ → List ℕ → List ℕ
flat m useful = build (λ i. num (bit (get_or useful (useful_at (get_or m i 0) (i / table_states)) 0) (i % table_states))) pair_count

-- state t leads from the set `held` to table state p, and that pair is useful and on level j
pub record Holds (rows letters m useful : List ℕ) (held j t p : ℕ) : Type 0 where
  pub into : Into (rows_table rows) (In held) (get_or letters t 0) p
  pub on : view m t p ≡ j
  pub useful_is : T (bit (get_or useful (useful_at j t) 0) p)
