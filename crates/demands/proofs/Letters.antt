-- The two ways to say that all of a sequence are letters, the table's and the judge's. Assumes nothing.
use Prim.Native.Nat.{ℕ, zero, suc, ◌<◌}
use native.Mathlib.Omega.{arith}
use mathlib.Core.List.{List, [], ◌∷◌}
use lib.ListN.{length, get_or}
use Rattle.automata.specs.Promise.{Letters}
use Rattle.judge.specs.Verdict.{LettersTo}

letter_at : (w : List ℕ) → Letters w → (i : ℕ) → i < length w → get_or w i 0 < 64
letter_at [] h i l = absurd (omega arith)
letter_at (x ∷ w) h zero l = h.0
letter_at (x ∷ w) h (suc i) l = letter_at w h.1 i (omega arith)

pub letters_to : (w : List ℕ) → Letters w → LettersTo w (length w)
letters_to w h = record { below = letter_at w h }

pub letters_of : (w : List ℕ) → LettersTo w (length w) → Letters w
letters_of [] h = tt
letters_of (x ∷ w) h = (h.below 0 (omega arith), letters_of w (record { below = λ i l. h.below (suc i) (omega arith) }))
