-- A square of 64 words of 64 bits, turned over. Assumes nothing: this is a definition.
use Rattle.std.specs.Prelude.{ℕ, ◌<◌, ◌≡◌, List, length, get_or}
use Rattle.bits.specs.Word.{bit, word}

-- how many words, and how many bits each
abbrev pub side : ℕ
side = 64

-- bit j of word i of b is bit i of word j of a
pub record TurnedOver (a b : List ℕ) : Type 0 where
  pub size : length b ≡ length a
  pub new : (i : ℕ) → i < side → get_or b i 0 ≡ word side (λ j. bit (get_or a j 0) i)
