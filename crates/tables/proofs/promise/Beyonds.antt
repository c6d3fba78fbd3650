-- Slices that are as they were from an entry on: nothing changed, an entry written, one change after another; and the entries before it fix the slice.
-- Assumes nothing.
use Prim.Native.Nat.{ℕ, ◌<◌, ◌≤◌}
use mathlib.Core.Path.{◌≡◌, refl, sym, ◌∙◌}
use mathlib.Core.List.{List}
use native.Mathlib.Omega.{arith}
use native.Mathlib.Decide.{dec_lt}
use lib.ListN.{get_or, set, length-set}
use lib.Seq.{ext_get_or, get_or-set_other}
use Rattle.tables.specs.Beyond.{Beyond}

pub beyond_none : (n : ℕ) (a : List ℕ) → Beyond n a a
beyond_none n a = record { size = refl; rest = λ i h. refl }

pub beyond_next : {n : ℕ} {a b : List ℕ} (at v : ℕ) → Beyond n a b → at < n → Beyond n a (set b at v)
beyond_next {b = b} at v x h = record { size = length-set b at v ∙ x.size; rest = λ i l. get_or-set_other b at i v 0 (omega arith) ∙ x.rest i l }

pub beyond_then : {n : ℕ} {a b d : List ℕ} → Beyond n a b → Beyond n b d → Beyond n a d
beyond_then x y = record { size = y.size ∙ x.size; rest = λ i h. y.rest i h ∙ x.rest i h }

pub beyond_more : {n k : ℕ} {a b : List ℕ} → Beyond n a b → n ≤ k → Beyond k a b
beyond_more x l = record { size = x.size; rest = λ i h. x.rest i (omega arith) }

pub beyond_once : (n : ℕ) (a b d : List ℕ) → Beyond n a b → Beyond n a d → ((i : ℕ) → i < n → get_or b i 0 ≡ get_or d i 0) → b ≡ d
beyond_once n a b d x y e = ext_get_or 0 b d (x.size ∙ sym y.size) (λ i h. at i (dec_lt i n))
  where
    at : (i : ℕ) → Dec (i < n) → get_or b i 0 ≡ get_or d i 0
    at i (yes h) = e i h
    at i (no h) = x.rest i (omega arith) ∙ sym (y.rest i (omega arith))
