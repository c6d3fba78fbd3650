-- Words that are written into a slice, a step apart. Assumes nothing.
use Prim.Native.Nat.{ℕ, ◌+◌, ◌*◌, ◌<◌}
use native.Mathlib.Nat.{eq_of_mul-eq-mul_left}
use native.Mathlib.Omega.{arith}
use native.Mathlib.Decide.{ℕ_discrete}
use mathlib.Core.Path.{◌≡◌, refl, sym, ap, ◌∙◌}
use mathlib.Core.Logic.{◌≢◌}
use mathlib.Core.List.{List}
use lib.ListN.{length, get_or, set, length-set}
use lib.Seq.{get_or-set_same, get_or-set_other}
use Rattle.letter_rows.specs.inner.Blocks.{WrittenTo}

module _ (words block : List ℕ) (base step : ℕ) where
  pub write_none : WrittenTo words words block base step 0
  write_none = record { size = refl; new = λ k l. absurd (omega arith); old = λ i o. refl }

  -- two of the places are never one
  apart : 0 < step → (j k : ℕ) → j ≢ k → base + step * j ≢ base + step * k
  apart s j k n e = n (eq_of_mul-eq-mul_left step s j k (omega arith))

  pub write_turn : {w : List ℕ} (n : ℕ) → 0 < step → base + step * n < length w → WrittenTo words w block base step n → WrittenTo words (set w (base + step * n) (get_or block n 0)) block base step (n + 1)
  write_turn {w} n s l x = record {
    size = length-set w (base + step * n) (get_or block n 0) ∙ x.size;
    new = λ k m. new k m (ℕ_discrete k n);
    old = λ i o. get_or-set_other w (base + step * n) i (get_or block n 0) 0 (o n (omega arith)) ∙ x.old i (λ k m. o k (omega arith));
  }
    where
      new : (k : ℕ) → k < n + 1 → Dec (k ≡ n) → get_or (set w (base + step * n) (get_or block n 0)) (base + step * k) 0 ≡ get_or block k 0
      new k m (yes e) = ap (λ (j : ℕ). get_or (set w (base + step * n) (get_or block n 0)) (base + step * j) 0) e ∙ get_or-set_same w (base + step * n) (get_or block n 0) 0 l ∙ ap (λ (j : ℕ). get_or block j 0) (sym e)
      new k m (no e) = get_or-set_other w (base + step * n) (base + step * k) (get_or block n 0) 0 (apart s k n e) ∙ x.new k (omega arith)
