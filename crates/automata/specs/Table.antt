-- A table in a lent slice, and what it accepts (source document 001, Definitions 4 and 5). Assumes nothing: these are definitions.
use Rattle.std.specs.Prelude.{ℕ, ◌+◌, ◌*◌, ◌≡◌, Bool, ◌&&◌, List, [], ◌∷◌, T, ltb, get_or}
use Rattle.bits.specs.Word.{bit}

-- a table: letter x leads from state p to state q, state q is final; state 0 is the first
pub record Table : Type 0 where
  pub weight : ℕ
  pub edge : ℕ → ℕ → ℕ → Bool
  pub final : ℕ → Bool

-- a table has room for this many states
abbrev pub table_states : ℕ
table_states = 64

-- a lent table has at least this many entries
abbrev pub table_entries : ℕ
table_entries = 4096

-- the label from p to q stands at 64p+q
abbrev pub cell : List ℕ → ℕ → ℕ → ℕ
cell t p q = get_or t (64 * p + q) 0

-- the final states of a table of n states, where the set of finals is known
abbrev pub final_of : ℕ → ℕ → ℕ → Bool
final_of n finals q = ltb q n && bit finals q

-- the table of n states that the words t and the set of finals are
abbrev pub table_of : List ℕ → ℕ → ℕ → Table
table_of t n finals = record {
  weight = n;
  edge = λ p x q. ltb p n && (ltb q n && bit (cell t p q) x);
  final = final_of n finals;
}

-- the table can go from state p to state q over the word
abbrev pub Goes : Table → ℕ → List ℕ → ℕ → Type 0
Goes A p [] q = p ≡ q
Goes A p (x ∷ w) q = (m : ℕ) × T (A.edge p x m) × Goes A m w q

-- the table accepts the word
abbrev pub Accepts : Table → List ℕ → Type 0
Accepts A w = (q : ℕ) × Goes A 0 w q × T (A.final q)
