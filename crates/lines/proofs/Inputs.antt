-- The rule and the model of an input, by the places where they stand. Assumes nothing.
use Prim.Native.Nat.{ℕ, suc, ◌+◌, ◌≤◌, ◌<◌}
use native.Mathlib.Omega.{arith}
use mathlib.Core.Path.{◌≡◌, refl, sym, ap₂, subst, ◌∙◌}
use mathlib.Core.List.{List, [], ◌∷◌}
use lib.ListN.{length, get_or, take, drop, drop_of_length-le}
use lib.Seq.{take_all, drop-length, get_or-drop}
use Rattle.lines.specs.Input.{rule_in_of, model_in_of}

-- no input
pub rule_none : (s : List ℕ) → length s ≡ 0 → s ≡ rule_in_of s
unfolding rule_in_of
rule_none [] h = refl
rule_none (x ∷ s) h = absurd (omega arith)

pub model_none : (s : List ℕ) → length s ≡ 0 → s ≡ model_in_of s
unfolding model_in_of
model_none [] h = refl
model_none (x ∷ s) h = absurd (omega arith)

-- the first byte, and the rest
module _ (s rest : List ℕ) (long : ℕ) (some : 0 < length s) (follows : rest ≡ drop 1 s) (first : long ≡ get_or s 0 0) where
  rule_at : (t : List ℕ) → 0 < length t → take (get_or t 0 0) (drop 1 t) ≡ rule_in_of t
  unfolding rule_in_of
  rule_at [] h = absurd (omega arith)
  rule_at (x ∷ t) h = refl

  model_at : (t : List ℕ) → 0 < length t → drop (get_or t 0 0) (drop 1 t) ≡ model_in_of t
  unfolding model_in_of
  model_at [] h = absurd (omega arith)
  model_at (x ∷ t) h = refl

  pub rule_part : take long rest ≡ rule_in_of s
  rule_part = ap₂ take first follows ∙ rule_at s some

  pub model_part : drop long rest ≡ model_in_of s
  model_part = ap₂ drop first follows ∙ model_at s some

  -- where the bytes end before the rule does
  pub rule_rest : length rest < long → rest ≡ rule_in_of s
  rule_rest l = sym (take_all long rest (omega arith)) ∙ rule_part

  pub model_rest : length rest < long → drop (length rest) rest ≡ model_in_of s
  model_rest l = let h : length rest ≤ long = omega arith in drop-length rest ∙ sym (drop_of_length-le rest h) ∙ model_part

-- the model's bytes are bytes
pub model_bytes_lem : (s : List ℕ) → ((i : ℕ) → get_or s i 0 < 256) → (i : ℕ) → get_or (model_in_of s) i 0 < 256
unfolding model_in_of
model_bytes_lem [] h i = h i
model_bytes_lem (n ∷ rest) h i = subst (λ (x : ℕ). x < 256) (sym (get_or-drop n rest i 0)) (h (suc (n + i)))
