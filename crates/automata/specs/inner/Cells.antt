-- What a store in a table leaves behind: a rectangle with new labels, and all else as it was. Assumes nothing: these are definitions.
use Rattle.std.specs.Prelude.{cond, ◌≡◌, List, ℕ, suc, zero, ◌+◌, ◌-◌, ◌/◌, ◌%◌, ◌<◌, ◌≤◌, eqb, ltb}
use Rattle.std.specs.Int.Bits.{bit_or, bit_and}
use Rattle.bits.specs.Word.{bit}
use Rattle.automata.specs.Table.{table_states, cell}

-- the rows a to b, the columns c to d
pub record In (a b c d p q : ℕ) : Type 0 where
  pub top : a ≤ p
  pub bottom : p < b
  pub left : c ≤ q
  pub right : q < d

-- t' is t with g p q at each place of the rectangle, and nowhere else changed; rows past 63 are the entries past the first 4,096
pub record Put (t t' : List ℕ) (a b c d : ℕ) (g : ℕ → ℕ → ℕ) : Type 0 where
  pub new : (p q : ℕ) → In a b c d p q → cell t' p q ≡ g p q
  pub old : (p q : ℕ) → q < table_states → (In a b c d p q → ⊥) → cell t' p q ≡ cell t p q

-- from base on there is no label
pub record Clean (t : List ℕ) (base : ℕ) : Type 0 where
  pub none : (p q : ℕ) → base ≤ p → p < table_states → base ≤ q → q < table_states → cell t p q ≡ 0

-- a final row gets what leaves src
unfoldable pub linked : List ℕ → ℕ → ℕ → ℕ → ℕ → ℕ
linked t src finals p q = cond (bit finals p) (bit_or (cell t p q) (cell t src q)) (cell t p q)

-- by way of f, if it is final: what leads from p to f and from src to q
unfoldable pub overlapped_by : List ℕ → ℕ → ℕ → ℕ → ℕ → ℕ → ℕ
overlapped_by t finals src f p q = cond (bit finals f) (bit_or (cell t p q) (bit_and (cell t p f) (cell t src q))) (cell t p q)

-- by way of any final among the first k states from a on
unfoldable pub overlapped : List ℕ → ℕ → ℕ → ℕ → ℕ → ℕ → ℕ → ℕ
overlapped t finals a src zero p q = cell t p q
overlapped t finals a src (suc k) p q =
    cond (bit finals (a + k)) (bit_or (overlapped t finals a src k p q) (bit_and (cell t p (a + k)) (cell t src q))) (overlapped t finals a src k p q)

-- what leaves base + 1 in the columns up to b, and what leaves b in those from b on
unfoldable pub chosen : List ℕ → ℕ → ℕ → ℕ → ℕ → ℕ
chosen t base b p q = bit_or (cell t p q) (cond (ltb q b) (cell t (base + 1) q) (cell t b q))

-- what stands at from in t, as it stands at to
unfoldable pub moved : List ℕ → ℕ → ℕ → ℕ → ℕ → ℕ
moved t from to p q = cell t (from + (p - to)) (from + (q - to))

-- the label of a pair, numbered from base on: of t's block at 0 and of its block at second, which has n states
unfoldable pub paired : List ℕ → ℕ → ℕ → ℕ → ℕ → ℕ → ℕ
paired t base n second p q = bit_and (cell t ((p - base) / n) ((q - base) / n)) (cell t (second + (p - base) % n) (second + (q - base) % n))

-- from p to itself by one label, to the next state by another
unfoldable pub tallied : List ℕ → ℕ → ℕ → ℕ → ℕ → ℕ
tallied t hit miss p q = cond (eqb q p) miss (cond (eqb q (p + 1)) hit (cell t p q))
