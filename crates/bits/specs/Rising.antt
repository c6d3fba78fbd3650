-- What taking the lowest member of a set leaves. Assumes nothing: this is a definition.
use Rattle.std.specs.Prelude.{ℕ, ◌≡◌, Option, None, Some}
use Rattle.bits.specs.Word.{word_bits, remove, Lowest}

-- the lowest of what is left is taken, and there is none only where nothing is left
abbrev pub TakesLowest : ℕ → Option ℕ → ℕ → Type 0
TakesLowest rest None after = (rest ≡ 0) × (after ≡ 0)
TakesLowest rest (Some k) after = Lowest word_bits rest k × (after ≡ remove word_bits rest k)
