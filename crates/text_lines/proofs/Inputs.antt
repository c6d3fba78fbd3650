-- Laws of an input's text. Assumes nothing.
use Prim.Native.Nat.{ℕ, ◌+◌, ◌-◌, ◌≤◌}
use native.Mathlib.Omega.{arith}
use mathlib.Core.Path.{◌≡◌, refl, sym, ap}
use mathlib.Core.Bool.{Bool, true, false, cond}
use mathlib.Core.List.{List, [], ◌∷◌}
use lib.Dec.{eqb}
use lib.ListN.{length, get_or, take, length-take}
use borrow.Author.Tests.{eq-eqb, ne_eqb}
use Rattle.text_lines.specs.Input.{text_in_of}

-- which of the two it is
abbrev of : List ℕ → Bool → List ℕ
of s b = cond b (take (length s - 1) s) s

pub text_none : (s : List ℕ) → length s ≡ 0 → s ≡ text_in_of s
unfolding text_in_of
text_none [] h = refl
text_none (x ∷ s) h = absurd (omega arith)

pub text_closed : (s : List ℕ) → get_or s (length s - 1) 0 ≡ 10 → take (length s - 1) s ≡ text_in_of s
unfolding text_in_of
text_closed s h = sym (ap (of s) (eq-eqb (get_or s (length s - 1) 0) 10 h))

pub text_open : (s : List ℕ) → (get_or s (length s - 1) 0 ≡ 10 → ⊥) → s ≡ text_in_of s
unfolding text_in_of
text_open s h = sym (ap (of s) (ne_eqb (get_or s (length s - 1) 0) 10 h))

-- at most one byte is no part of the text
pub text_long : (s : List ℕ) → length s ≤ length (text_in_of s) + 1
unfolding text_in_of
text_long s = go (eqb (get_or s (length s - 1) 0) 10)
  where
    go : (b : Bool) → length s ≤ length (of s b) + 1
    go true = let l = length-take (length s - 1) s in omega arith
    go false = omega arith
