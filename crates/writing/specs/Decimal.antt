-- A number as text, in ASCII: decimal digits with no zero in front. Assumes nothing: these are definitions.
use Rattle.std.specs.Prelude.{ℕ, zero, suc, ◌+◌, ◌/◌, ◌%◌, cond, List, [], ◌∷◌, ◌++◌, ltb}

-- the character of a digit: `0` is 48
abbrev pub digit : ℕ → ℕ
digit d = 48 + d

-- a number below 10 is its digit, any other its tenth and then the last digit; `tenths` is no less than how often a tenth is taken
unfoldable pub spelt : ℕ → ℕ → List ℕ
spelt zero n = digit n ∷ []
spelt (suc tenths) n = cond (ltb n 10) (digit n ∷ []) (spelt tenths (n / 10) ++ (digit (n % 10) ∷ []))

-- n tenths are never needed for n
unfoldable pub decimal : ℕ → List ℕ
unfolding spelt
decimal n = spelt n n

-- a word and then a number
abbrev pub named : List ℕ → ℕ → List ℕ
named word n = word ++ decimal n
