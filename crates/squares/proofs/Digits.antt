-- The binary digits of the places in a square of 64 by 64: each fact is one computed test over all of them. Assumes nothing.
use Prim.Native.Nat.{ℕ, ◌+◌, ◌-◌, ◌^◌, ◌≤◌, ◌<◌}
use mathlib.Core.Path.{◌≡◌, refl, sym, ◌∙◌}
use mathlib.Core.Bool.{Bool, true, false, not, cond, ◌&&◌, ◌||◌, false≢true}
use lib.Dec.{eqb, ltb, leb}
use borrow.Author.Tests.{ltb-true, leb-true, le-ltb}
use Rattle.bits.specs.Word.{bit, any}
use Rattle.bits.proofs.Laws.{any_intro}
use Rattle.squares.specs.inner.Rounds.{placed, Half}

-- whether f holds of every number below n
abbrev pub every : ℕ → (ℕ → Bool) → Bool
every n f = not (any n (λ k. not (f k)))

pub every_holds : (n : ℕ) (f : ℕ → Bool) → every n f ≡ true → (k : ℕ) → k < n → f k ≡ true
every_holds n f e k l = go (f k) refl (any n (λ j. not (f j))) refl
  where
    go : (b : Bool) → f k ≡ b → (c : Bool) → any n (λ j. not (f j)) ≡ c → f k ≡ true
    go true p c q = p
    go false p true q = absurd (false≢true (rw q at e))
    go false p false q = absurd (false≢true (sym q ∙ any_intro n (λ j. not (f j)) k l (rw p refl)))

-- whether two answers are the same
abbrev pub same : Bool → Bool → Bool
same a b = cond a b (not b)

pub same_is : (a b : Bool) → same a b ≡ true → a ≡ b
same_is true true e = refl
same_is true false e = absurd (false≢true e)
same_is false true e = absurd (false≢true e)
same_is false false e = refl

both : (a b : Bool) → a && b ≡ true → (a ≡ true) × (b ≡ true)
both true b e = (refl, e)
both false b e = absurd (false≢true e)

-- one digit is placed, and the others stay
abbrev digit_test : Bool → Bool
digit_test b = every 6 (λ r. every 64 (λ i. every 6 (λ s. same (bit (placed r i b) s) (cond (eqb s r) b (bit i s)))))

abbrev small_test : Bool → Bool
small_test b = every 6 (λ r. every 64 (λ i. ltb (placed r i b) 64))

digits_placed : (b : Bool) → digit_test b ≡ true
unfolding any bit placed
digits_placed true = refl
digits_placed false = refl

smalls_placed : (b : Bool) → small_test b ≡ true
unfolding any bit placed
smalls_placed true = refl
smalls_placed false = refl

pub bit_placed : (r i : ℕ) (b : Bool) (s : ℕ) → r < 6 → i < 64 → s < 6 → bit (placed r i b) s ≡ cond (eqb s r) b (bit i s)
bit_placed r i b s hr hi hs =
    same_is (bit (placed r i b) s) (cond (eqb s r) b (bit i s))
    (every_holds 6 (λ t. same (bit (placed r i b) t) (cond (eqb t r) b (bit i t)))
    (every_holds 64 (λ k. every 6 (λ t. same (bit (placed r k b) t) (cond (eqb t r) b (bit k t))))
    (every_holds 6 (λ t. every 64 (λ k. every 6 (λ u. same (bit (placed t k b) u) (cond (eqb u t) b (bit k u))))) (digits_placed b) r hr) i hi) s hs)

pub placed_lt : (r i : ℕ) (b : Bool) → r < 6 → i < 64 → placed r i b < 64
placed_lt r i b hr hi =
    ltb-true (placed r i b) 64
    (every_holds 64 (λ k. ltb (placed r k b) 64) (every_holds 6 (λ t. every 64 (λ k. ltb (placed t k b) 64)) (smalls_placed b) r hr) i hi)

-- a place whose digit is clear can go up by the digit's power, one whose digit is set down
abbrev shift_test : ℕ → ℕ → Bool
shift_test r i = cond (bit i r) (leb (2 ^ r) i) (ltb (i + 2 ^ r) 64) && (ltb i (2 ^ r) || same (bit (i - 2 ^ r) r) (not (bit i r)))

shifts : every 6 (λ r. every 64 (λ i. shift_test r i)) ≡ true
unfolding any bit
shifts = refl

shift : (r i : ℕ) → r < 6 → i < 64 → shift_test r i ≡ true
shift r i hr hi = every_holds 64 (λ k. shift_test r k) (every_holds 6 (λ t. every 64 (λ k. shift_test t k)) shifts r hr) i hi

pub up_inside : (r i : ℕ) → r < 6 → i < 64 → bit i r ≡ false → i + 2 ^ r < 64
up_inside r i hr hi e = ltb-true (i + 2 ^ r) 64 (rw e at (both (cond (bit i r) (leb (2 ^ r) i) (ltb (i + 2 ^ r) 64)) (ltb i (2 ^ r) || same (bit (i - 2 ^ r) r) (not (bit i r))) (shift r i hr hi)).0)

pub down_inside : (r i : ℕ) → r < 6 → i < 64 → bit i r ≡ true → 2 ^ r ≤ i
down_inside r i hr hi e = leb-true (2 ^ r) i (rw e at (both (cond (bit i r) (leb (2 ^ r) i) (ltb (i + 2 ^ r) 64)) (ltb i (2 ^ r) || same (bit (i - 2 ^ r) r) (not (bit i r))) (shift r i hr hi)).0)

pub down_digit : (r i : ℕ) → r < 6 → i < 64 → 2 ^ r ≤ i → bit (i - 2 ^ r) r ≡ not (bit i r)
down_digit r i hr hi l =
    same_is (bit (i - 2 ^ r) r) (not (bit i r))
    (rw (le-ltb i (2 ^ r) l) at (both (cond (bit i r) (leb (2 ^ r) i) (ltb (i + 2 ^ r) 64)) (ltb i (2 ^ r) || same (bit (i - 2 ^ r) r) (not (bit i r))) (shift r i hr hi)).1)

powers : every 6 (λ r. ltb (2 ^ r) 64) ≡ true
unfolding any
powers = refl

pub power_lt : (r : ℕ) → r < 6 → 2 ^ r < 64
power_lt r hr = ltb-true (2 ^ r) 64 (every_holds 6 (λ t. ltb (2 ^ t) 64) powers r hr)

-- the mask of the places that lack digit r, by computing
mask_of : (low r : ℕ) → every 64 (λ j. same (bit low j) (not (bit j r))) ≡ true → (j : ℕ) → j < 64 → bit low j ≡ not (bit j r)
mask_of low r e j l = same_is (bit low j) (not (bit j r)) (every_holds 64 (λ k. same (bit low k) (not (bit k r))) e j l)

-- so what a round needs is computed too
pub half_of : (r half low : ℕ) → r < 6 → half ≡ 2 ^ r → every 64 (λ j. same (bit low j) (not (bit j r))) ≡ true → Half r half low
half_of r half low h e t = record { digit = h; power = e; mask = mask_of low r t }
