-- The 64 words of one state, read out of one layout and written into the other. Assumes nothing: these are definitions.
use Rattle.std.specs.Prelude.{ℕ, ◌+◌, ◌*◌, ◌<◌, ◌≤◌, ◌≡◌, ◌≢◌, List, length, get_or}
use Rattle.bits.specs.Word.{bit, word}
use Rattle.squares.specs.Squares.{side}
use Rattle.automata.specs.Table.{table_states, table_entries}
use Rattle.tables.specs.Beyond.{Beyond}

-- both slices have the entries of a table
pub record BothLong (given to : List ℕ) : Type 0 where
  pub given_long : table_entries ≤ length given
  pub to_long : table_entries ≤ length to

-- 64 places from base on, step by step, lie in the slice
abbrev pub Lies : List ℕ → ℕ → ℕ → Type 0
Lies words base step = (k : ℕ) → k < side → base + step * k < length words

-- the block has the words of these places
pub record ReadOut (words block : List ℕ) (base step : ℕ) : Type 0 where
  pub size : length block ≡ side
  pub new : (k : ℕ) → k < side → get_or block k 0 ≡ get_or words (base + step * k) 0

-- the first n of these places have the words of the block, and what stands elsewhere is as it was
pub record WrittenTo (words words' block : List ℕ) (base step n : ℕ) : Type 0 where
  pub size : length words' ≡ length words
  pub new : (k : ℕ) → k < n → get_or words' (base + step * k) 0 ≡ get_or block k 0
  pub old : (i : ℕ) → ((k : ℕ) → k < n → i ≢ base + step * k) → get_or words' i 0 ≡ get_or words i 0

-- the steps of a layout: from one state to the next, and inside a state's 64 words
pub data Steps (far near : ℕ) : Type 0 where
  by_state : far ≡ table_states → near ≡ 1 → Steps far near
  by_letter : far ≡ 1 → near ≡ table_states → Steps far near

-- word k of state p in the other layout
abbrev pub turned_word : List ℕ → ℕ → ℕ → ℕ → ℕ → ℕ
turned_word given far near p k = word side (λ j. bit (get_or given (far * p + near * j) 0) k)

-- the words of state p are carried over
pub record Carried (given before after : List ℕ) (far near p : ℕ) : Type 0 where
  pub size : length after ≡ length before
  pub new : (k : ℕ) → k < side → get_or after (near * p + far * k) 0 ≡ turned_word given far near p k
  pub old : (i : ℕ) → ((k : ℕ) → k < side → i ≢ near * p + far * k) → get_or after i 0 ≡ get_or before i 0

-- the words of all states below n are
pub record CarriedTo (given before after : List ℕ) (far near n : ℕ) : Type 0 where
  pub rest : Beyond table_entries before after
  pub new : (p k : ℕ) → p < n → k < side → get_or after (near * p + far * k) 0 ≡ turned_word given far near p k
