-- The six rounds that turn a square over. Assumes nothing: these are definitions.
use Rattle.std.specs.Prelude.{ℕ, ◌+◌, ◌-◌, ◌^◌, ◌<◌, ◌≡◌, Bool, not, cond, List, length, get_or}
use Rattle.bits.specs.Word.{bit, word}
use Rattle.squares.specs.Squares.{side}

-- a place in the square has so many binary digits
abbrev pub place_digits : ℕ
place_digits = 6

-- i with its binary digit r made b
unfoldable pub placed : ℕ → ℕ → Bool → ℕ
placed r i b = cond (bit i r) (cond b i (i - 2 ^ r)) (cond b (i + 2 ^ r) i)

-- i with its digit r taken from j
abbrev pub turn : ℕ → ℕ → ℕ → ℕ
turn r i j = placed r i (bit j r)

-- word i after round r: digit r of the word's place and of the bit's place have changed places
abbrev pub mixed : ℕ → List ℕ → ℕ → ℕ
mixed r a i = word side (λ j. bit (get_or a (turn r i j) 0) (turn r j i))

-- the first n words of b are those of a after round r
pub record Round (r : ℕ) (a b : List ℕ) (n : ℕ) : Type 0 where
  pub size : length b ≡ length a
  pub new : (i : ℕ) → i < n → get_or b i 0 ≡ mixed r a i

-- what a round needs: its digit, the power of two, and the mask of the places that lack the digit
pub record Half (r half low : ℕ) : Type 0 where
  pub digit : r < place_digits
  pub power : half ≡ 2 ^ r
  pub mask : (j : ℕ) → j < side → bit low j ≡ not (bit j r)

-- every word is 0
pub record Empty (a : List ℕ) : Type 0 where
  pub zero_at : (i : ℕ) → i < side → get_or a i 0 ≡ 0
