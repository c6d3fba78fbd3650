-- Bytes as text, in ASCII: hexadecimal numbers of two digits. Assumes nothing: these are definitions.
use Rattle.std.specs.Prelude.{ℕ, ◌+◌, ◌/◌, ◌%◌, cond, List, [], ◌∷◌, ◌++◌, ltb}

-- `0` is 48, and `A`, which is 10, is 65
abbrev pub hex_digit_of : ℕ → ℕ
hex_digit_of d = cond (ltb d 10) (48 + d) (55 + d)

abbrev pub hex_of : ℕ → List ℕ
hex_of b = hex_digit_of (b / 16) ∷ hex_digit_of (b % 16) ∷ []

-- a blank before each
unfoldable pub spaced : List ℕ → List ℕ
spaced [] = []
spaced (b ∷ s) = (32 ∷ hex_of b) ++ spaced s

-- a blank between each and the next
unfoldable pub bytes_text : List ℕ → List ℕ
bytes_text [] = []
bytes_text (b ∷ s) = hex_of b ++ spaced s
