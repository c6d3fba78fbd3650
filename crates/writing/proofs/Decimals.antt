-- Laws of a number's decimal digits. Assumes nothing.
use Prim.Native.Nat.{ℕ, zero, suc, ◌+◌, ◌/◌, ◌%◌, ◌^◌, ◌≤◌, ◌<◌}
use native.Mathlib.Decide.{dec_lt}
use native.Mathlib.Omega.{arith}
use native.Mathlib.Nat.{pow-suc}
use mathlib.Core.Path.{◌≡◌, refl, sym, ap, ◌∙◌}
use mathlib.Core.Bool.{Bool, cond}
use mathlib.Core.List.{List, [], ◌∷◌, ◌++◌}
use lib.ListN.{length, length-append}
use borrow.Author.Tests.{lt-ltb, le-ltb}
use Rattle.writing.specs.Decimal.{digit, spelt, decimal}

-- which of the two it is
abbrev last_of : ℕ → ℕ → Bool → List ℕ
last_of k n b = cond b (digit n ∷ []) (spelt k (n / 10) ++ (digit (n % 10) ∷ []))

spelt_few : (k n : ℕ) → n < 10 → spelt k n ≡ digit n ∷ []
unfolding spelt
spelt_few zero n h = refl
spelt_few (suc k) n h = ap (last_of k n) (lt-ltb n 10 h)

spelt_more : (k n : ℕ) → 10 ≤ n → spelt (suc k) n ≡ spelt k (n / 10) ++ (digit (n % 10) ∷ [])
unfolding spelt
spelt_more k n h = ap (last_of k n) (le-ltb n 10 h)

-- more tenths than are needed change nothing
spelt_same : (k j n : ℕ) → n ≤ k → n ≤ j → spelt k n ≡ spelt j n
spelt_same zero j n h l = spelt_few zero n (omega arith) ∙ sym (spelt_few j n (omega arith))
spelt_same (suc k) zero n h l = spelt_few (suc k) n (omega arith) ∙ sym (spelt_few zero n (omega arith))
spelt_same (suc k) (suc j) n h l = go (dec_lt n 10) (λ a b. spelt_same k j (n / 10) a b)
  where
    go : Dec (n < 10) → (n / 10 ≤ k → n / 10 ≤ j → spelt k (n / 10) ≡ spelt j (n / 10)) → spelt (suc k) n ≡ spelt (suc j) n
    go (yes t) f = spelt_few (suc k) n t ∙ sym (spelt_few (suc j) n t)
    go (no t) f =
        spelt_more k n (omega arith) ∙ ap (λ (ds : List ℕ). ds ++ (digit (n % 10) ∷ [])) (f (omega arith) (omega arith)) ∙ sym (spelt_more j n (omega arith))

-- a number below 10 is its digit
pub decimal_few : (n : ℕ) → n < 10 → decimal n ≡ digit n ∷ []
unfolding decimal
decimal_few n h = spelt_few n n h

-- any other is its tenth and then its last digit
pub decimal_more : (n : ℕ) → 10 ≤ n → decimal n ≡ decimal (n / 10) ++ (digit (n % 10) ∷ [])
unfolding decimal
decimal_more zero h = absurd (omega arith)
decimal_more (suc n) h =
    spelt_more n (suc n) h ∙ ap (λ (ds : List ℕ). ds ++ (digit (suc n % 10) ∷ [])) (spelt_same n (suc n / 10) (suc n / 10) (omega arith) (omega arith))

pub few_short : (n : ℕ) → n < 10 → length (decimal n) ≡ 1
few_short n t = ap length (decimal_few n t)

pub more_short : (n : ℕ) → 10 ≤ n → length (decimal n) ≡ length (decimal (n / 10)) + 1
more_short n t = ap length (decimal_more n t) ∙ length-append (decimal (n / 10)) (digit (n % 10) ∷ [])

-- a number below 10 ^ (k + 1) has at most k + 1 digits
pub decimal_short : (k n : ℕ) → n < 10 ^ suc k → length (decimal n) ≤ suc k
decimal_short zero n h = let e = few_short n (omega arith) in omega arith
decimal_short (suc k) n h = go (dec_lt n 10) (λ l. decimal_short k (n / 10) l)
  where
    go : Dec (n < 10) → (n / 10 < 10 ^ suc k → length (decimal (n / 10)) ≤ suc k) → length (decimal n) ≤ suc (suc k)
    go (yes t) f = let e = few_short n t in omega arith
    go (no t) f = let e = more_short n (omega arith) in let p = pow-suc 10 (suc k) in let l = f (omega arith) in omega arith
