-- The parts of a sequence, and what an answer for all of them at once says. Assumes nothing: these are definitions.
use Rattle.std.specs.Prelude.{ℕ, ◌+◌, ◌≤◌, ◌<◌, Bool, List, length, get_or}
use Rattle.std.proofs.Math.Seq.{slice}
use Rattle.bits.specs.Says.{Says}
use Rattle.bits.specs.Word.{bit}

-- how many letters the plain judge takes at most
abbrev pub letter_limit : ℕ
letter_limit = 16

-- w has no more letters than that
pub record Few (w : List ℕ) : Type 0 where
  pub few : length w ≤ letter_limit

-- how many places there are for a part to begin or end at: before each letter, and after the last
abbrev pub side : ℕ
side = letter_limit + 1

-- the letters of w from i up to, not including, e
abbrev pub part : ℕ → ℕ → List ℕ → List ℕ
part i e w = slice i e w

-- the answers are a row for each place that a part begins at; row i has bit e where the part from i to e is accepted
unfoldable pub yes : List ℕ → ℕ → ℕ → Bool
yes a i e = bit (get_or a i 0) e

-- the answers a say of every part of w whether it is in P
pub record Judged (P : List ℕ → Type 0) (w a : List ℕ) : Type 0 where
  pub says : (i e : ℕ) → i ≤ e → e ≤ length w → Says (yes a i e) (P (part i e w))

-- the row has bit e exactly where P holds of e
pub record RowOf (P : ℕ → Type 0) (row : ℕ) : Type 0 where
  pub says : (e : ℕ) → e < side → Says (bit row e) (P e)

-- the answers say of any two places whether P holds of them
pub record Filled (P : ℕ → ℕ → Type 0) (a : List ℕ) : Type 0 where
  pub says : (i e : ℕ) → i < side → e < side → Says (yes a i e) (P i e)

-- the answers are what the test says of any two places: `says i e b` where the test may say b of i and e
pub record FilledBy (says : ℕ → ℕ → Bool → Type 0) (a : List ℕ) : Type 0 where
  pub each : (i e : ℕ) → i < side → e < side → says i e (yes a i e)
