-- Which bytes are letters, and which is the first that is none. Assumes nothing.
use mathlib.Core.Path.{◌≡◌, subst⁻¹}
use mathlib.Core.Logic.{⊎_elim}
use mathlib.Core.List.{List}
use Prim.Native.Nat.{ℕ, ◌+◌, ◌≤◌, ◌<◌}
use native.Mathlib.Nat.{eq-or-lt_of_le}
use native.Mathlib.Decide.{dec_lt}
use native.Mathlib.Omega.{arith}
use lib.ListN.{length, get_or}
use Rattle.definitions.specs.Definition2.{letter_count}
use Rattle.judge.specs.Verdict.{LettersTo, StrayAt}

-- letters, one after the other
pub letters_none : {w : List ℕ} → LettersTo w 0
letters_none = record { below = λ i l. absurd (omega arith) }

pub letters_one : {w : List ℕ} {n : ℕ} → LettersTo w n → get_or w n 0 < letter_count → LettersTo w (n + 1)
letters_one {w} {n} h l = record { below = λ i k. let le : i ≤ n = omega arith in ⊎_elim (λ e. subst⁻¹ (λ (j : ℕ). get_or w j 0 < letter_count) e l) (λ m. h.below i m) (eq-or-lt_of_le le) }

pub letters_all : {w : List ℕ} {n : ℕ} → length w ≤ n → LettersTo w n → LettersTo w (length w)
letters_all l h = record { below = λ i k. h.below i (omega arith) }

-- a first stray byte is one, and leaves no room for letters only
pub stray_once : (w : List ℕ) (i j : ℕ) → StrayAt w i → StrayAt w j → i ≡ j
stray_once w i j h k = go (dec_lt i j) (dec_lt j i)
  where
    go : Dec (i < j) → Dec (j < i) → i ≡ j
    go (yes l) d = absurd (omega (arith, h.stray, k.first.below i l))
    go (no n) (yes l) = absurd (omega (arith, k.stray, h.first.below j l))
    go (no n) (no m) = omega arith

pub no_stray : (w : List ℕ) (i : ℕ) → StrayAt w i → LettersTo w (length w) → ⊥
no_stray w i h l = omega (arith, h.stray, l.below i h.inside)
