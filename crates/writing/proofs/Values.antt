-- The digits of a number read back as the number, and the first is no zero unless the number is 0. Assumes nothing.
use Prim.Native.Nat.{ℕ, zero, suc, ◌+◌, ◌*◌, ◌-◌, ◌/◌, ◌%◌, ◌≤◌, ◌<◌}
use native.Mathlib.Decide.{dec_lt}
use native.Mathlib.Omega.{arith}
use mathlib.Core.Path.{◌≡◌, refl, ap, ◌∙◌}
use mathlib.Core.List.{List, [], ◌∷◌, ◌++◌}
use lib.ListN.{get_or}
use Rattle.writing.specs.Decimal.{digit, decimal}
use Rattle.writing.proofs.Decimals.{decimal_few, decimal_more}

-- the number that digits spell after those of v
abbrev pub value_after : ℕ → List ℕ → ℕ
value_after v [] = v
value_after v (d ∷ ds) = value_after (10 * v + (d - 48)) ds

value_snoc : (ds : List ℕ) (v d : ℕ) → value_after v (ds ++ (d ∷ [])) ≡ 10 * value_after v ds + (d - 48)
value_snoc [] v d = refl
value_snoc (e ∷ ds) v d = value_snoc ds (10 * v + (e - 48)) d

value_within : (k n : ℕ) → n ≤ k → value_after 0 (decimal n) ≡ n
value_within zero n h = let e = ap (value_after 0) (decimal_few n (omega arith)) in omega arith
value_within (suc k) n h = go (dec_lt n 10) (λ l. value_within k (n / 10) l)
  where
    go : Dec (n < 10) → (n / 10 ≤ k → value_after 0 (decimal (n / 10)) ≡ n / 10) → value_after 0 (decimal n) ≡ n
    go (yes t) f = let e = ap (value_after 0) (decimal_few n t) in omega arith
    go (no t) f =
        let e = ap (value_after 0) (decimal_more n (omega arith)) ∙ value_snoc (decimal (n / 10)) 0 (digit (n % 10)) in
        let i = f (omega arith) in
        omega arith

pub decimal_value : (n : ℕ) → value_after 0 (decimal n) ≡ n
decimal_value n = value_within n n (omega arith)

-- the first digit
first_kept : (ds : List ℕ) (d : ℕ) → 48 < get_or ds 0 0 → get_or (ds ++ (d ∷ [])) 0 0 ≡ get_or ds 0 0
first_kept [] d h = absurd (omega arith)
first_kept (x ∷ ds) d h = refl

first_within : (k n : ℕ) → n ≤ k → 0 < n → 48 < get_or (decimal n) 0 0
first_within zero n h p = absurd (omega arith)
first_within (suc k) n h p = go (dec_lt n 10) (λ l q. first_within k (n / 10) l q)
  where
    go : Dec (n < 10) → (n / 10 ≤ k → 0 < n / 10 → 48 < get_or (decimal (n / 10)) 0 0) → 48 < get_or (decimal n) 0 0
    go (yes t) f = let e = ap (λ (ds : List ℕ). get_or ds 0 0) (decimal_few n t) in omega arith
    go (no t) f =
        let i = f (omega arith) (omega arith) in
        let e = ap (λ (ds : List ℕ). get_or ds 0 0) (decimal_more n (omega arith)) ∙ first_kept (decimal (n / 10)) (digit (n % 10)) i in
        omega arith

pub no_zero_in_front : (n : ℕ) → 0 < n → 48 < get_or (decimal n) 0 0
no_zero_in_front n p = first_within n n (omega arith) p
