-- Rows of 64 words, a word for each state: what the walk over the step's formula makes of them. Assumes nothing: these are definitions.
use Rattle.std.specs.Prelude.{ℕ, ◌+◌, ◌*◌, ◌-◌, ◌^◌, ◌<◌, ◌≤◌, ◌≡◌, Bool, true, false, List, length, get_or}
use Rattle.std.specs.Int.Bits.{bit_or, bit_and}
use Rattle.definitions.specs.declared.kinds.Junction.{Junction}
use Rattle.definitions.specs.declared.kinds.Junction.TheVariants.{And, Or}
use Rattle.definitions.specs.Definition1.{Formula}
use Rattle.systems.specs.inner.Places.{FormulaAt, GoodFormula}
use Rattle.systems.specs.inner.Walks.{Stands}
use Rattle.models.specs.Model as models
use Rattle.formula_models.specs.Meaning.{successors}

abbrev pub model_states : ℕ
model_states = models.model_states

-- all states, or none
abbrev pub all_if_of : Bool → ℕ
all_if_of true = 2 ^ model_states - 1
all_if_of false = 0

abbrev pub join_words_of : Junction → ℕ → ℕ → ℕ
join_words_of And a b = bit_and a b
join_words_of Or a b = bit_or a b

-- the first k words of the row at base are put, by v, and nothing else has changed
pub record Filled (before after : List ℕ) (base k : ℕ) (v : ℕ → ℕ) : Type 0 where
  pub size : length after ≡ length before
  pub here : (x : ℕ) → x < k → get_or after (base + x) 0 ≡ v x
  pub below : (i : ℕ) → i < base → get_or after i 0 ≡ get_or before i 0
  pub past : (i : ℕ) → base + k ≤ i → get_or after i 0 ≡ get_or before i 0

-- the whole row
abbrev pub RowPut : List ℕ → List ℕ → ℕ → (ℕ → ℕ) → Type 0
RowPut before after base v = Filled before after base model_states v

-- each word of the first k of the row at base is made of its state and of what stood there, and nothing else has changed
pub record Made (before after : List ℕ) (base k : ℕ) (made : ℕ → ℕ → ℕ → Type 0) : Type 0 where
  pub size : length after ≡ length before
  pub here : (x : ℕ) → x < k → made x (get_or before (base + x) 0) (get_or after (base + x) 0)
  pub below : (i : ℕ) → i < base → get_or after i 0 ≡ get_or before i 0
  pub past : (i : ℕ) → base + k ≤ i → get_or after i 0 ≡ get_or before i 0

abbrev pub RowMade : List ℕ → List ℕ → ℕ → (ℕ → ℕ → ℕ → Type 0) → Type 0
RowMade before after base made = Made before after base model_states made

-- a formula stands at `at`, and there is room for its rows and its operands' from base on: a second operand, whose row is the next, begins two bytes further on at least
pub record RowsRoom (s : List ℕ) (at : ℕ) (grid : List ℕ) (base : ℕ) : Type 0 where
  pub stands : GoodFormula s true at
  pub long : 8192 ≤ length grid
  pub room : base + 32 * length s ≤ 32 * at + 8064

-- the row at base is the formula's: of each state the set of its successors; nothing before it has changed
pub record RowsAt (s : List ℕ) (at : ℕ) (before after : List ℕ) (base end : ℕ) : Type 0 where
  pub size : length after ≡ length before
  pub below : (i : ℕ) → i < base → get_or after i 0 ≡ get_or before i 0
  pub ends : (f : Formula) (e : ℕ) → FormulaAt s true at f e → end ≡ e
  pub row : (f : Formula) (e : ℕ) → FormulaAt s true at f e → (x : ℕ) → x < model_states → get_or after (base + x) 0 ≡ successors f x

-- some system stands in the bytes, which are no more than a system may have; its step's formula begins at `step`
pub record SystemStands (s : List ℕ) (step : ℕ) : Type 0 where
  pub initial : Formula
  pub next : Formula
  pub stands : Stands s initial next step
  pub short : length s ≤ 255
  pub third : 3 ≤ step
