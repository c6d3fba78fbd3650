-- The digits of a count: one, or a "1" and another. Assumes nothing.
use Prim.Native.Nat.{ℕ, ◌+◌, ◌/◌, ◌%◌, ◌≤◌, ◌<◌}
use native.Mathlib.Omega.{arith}
use native.Mathlib.Decide.{dec_lt}
use mathlib.Core.Path.{◌≡◌, refl, sym, ap, ap₂, ◌∙◌}
use mathlib.Core.List.{List, [], ◌∷◌, ◌++◌}
use lib.ListN.{length, drop, length-append}
use Rattle.definitions.specs.Encoding.{largest_count, CountsFit}
use Rattle.writing.specs.Decimal.{digit, decimal}
use Rattle.writing.proofs.Decimals.{decimal_few, decimal_more}
use Rattle.grammar.specs.Text.{counts_text}
use Rattle.grammar.specs.inner.Reading.{rest}
use Rattle.grammar.specs.inner.Values.{digits, Begun}

pub one_digit : (c v : ℕ) → v ≤ 9 → c ≡ 48 + v → decimal v ≡ c ∷ []
one_digit c v h q = decimal_few v (omega arith) ∙ ap (λ (d : ℕ). d ∷ []) (sym q)

pub two_digits : (c v : ℕ) → 10 ≤ v → v ≤ 15 → c + 10 ≡ 48 + v → decimal v ≡ 49 ∷ c ∷ []
two_digits c v h l q =
    let e : v / 10 ≡ 1 = omega arith in
    let f : digit (v % 10) ≡ c = omega arith in
    decimal_more v h ∙ ap₂ (λ (n d : ℕ). decimal n ++ (d ∷ [])) e f ∙ ap (λ (l : List ℕ). l ++ (c ∷ [])) (decimal_few 1 (omega arith))

-- what follows a first "1"
module _ (v : ℕ) (l : List ℕ) (q : decimal v ≡ 49 ∷ l) where
  pub others_of : digits rest v ≡ l
  others_of = ap (drop 1) q

  pub begun_of : Begun rest v
  begun_of = q ∙ ap (λ (t : List ℕ). 49 ∷ t) (sym others_of)

pub one_alone : decimal 1 ≡ 49 ∷ []
one_alone = decimal_few 1 (omega arith)

-- how long the text of counts is
pub count_length : (v : ℕ) → v ≤ largest_count → (1 ≤ length (decimal v)) × (length (decimal v) ≤ 2)
count_length v h = go (dec_lt v 10)
  where
    go : Dec (v < 10) → (1 ≤ length (decimal v)) × (length (decimal v) ≤ 2)
    go (yes l) = let e = ap length (one_digit (48 + v) v (omega arith) refl) in omega arith
    go (no l) = let e = ap length (two_digits (38 + v) v (omega arith) h (omega arith)) in omega arith

pub counts_length : (i j : ℕ) → CountsFit i j → (5 ≤ length (counts_text i j)) × (length (counts_text i j) ≤ 7)
counts_length i j c =
    let r = c.rising in
    let s = c.small in
    let a = count_length i (omega arith) in
    let b = count_length j s in
    let l = length-append (decimal i) (46 ∷ 46 ∷ (decimal j ++ (93 ∷ []))) in
    let m = length-append (decimal j) (93 ∷ []) in
    omega arith
