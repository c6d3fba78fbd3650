-- One round makes of two words the word that it should. Assumes nothing.
use Prim.Native.Nat.{ℕ, ◌+◌, ◌-◌, ◌*◌, ◌/◌, ◌%◌, ◌^◌, ◌≤◌, ◌<◌}
use native.Mathlib.Nat.{lt_of_le_of_lt, add_comm, add-zero, mod-lt}
use native.Mathlib.Omega.{arith}
use mathlib.Core.Path.{◌≡◌, refl, sym, ap, ap₂, ◌∙◌}
use mathlib.Core.Logic.{⊎_elim}
use mathlib.Core.Bool.{Bool, true, false, not, ◌&&◌, ◌||◌, and-true, and-false, or-false}
use mathlib.Core.List.{List}
use lib.Bits.{bit_and, bit_or, and_le_r, or_lt}
use lib.ListN.{get_or}
use lib.Pow.{pow_pos}
use Rattle.bits.specs.Word.{bit}
use Rattle.bits.proofs.Laws.{lt_or_ge, bit_zero, bit_of_or, bit_of_and, bit_not, bit_shr, bit_shl, bit_mod, bit_cat_low, word_unique}
use Rattle.squares.specs.inner.Rounds.{placed, turn, mixed, Half}
use Rattle.squares.proofs.Digits.{down_inside, down_digit}

-- ---- a digit that is placed where it is already, and where it is not
placed_set : (r i : ℕ) → bit i r ≡ true → placed r i true ≡ i
unfolding placed
placed_set r i e = rw e

placed_clear : (r i : ℕ) → bit i r ≡ false → placed r i false ≡ i
unfolding placed
placed_clear r i e = rw e

placed_down : (r i : ℕ) → bit i r ≡ true → placed r i false ≡ i - 2 ^ r
unfolding placed
placed_down r i e = rw e

placed_up : (r i : ℕ) → bit i r ≡ false → placed r i true ≡ i + 2 ^ r
unfolding placed
placed_up r i e = rw e

-- `w << s`, bit by bit
shl_below : (w s j : ℕ) → j < 64 → j < s → bit ((w * 2 ^ s) % 2 ^ 64) j ≡ false
shl_below w s j l h = bit_mod 64 (w * 2 ^ s) j l ∙ ap (λ (x : ℕ). bit x j) (sym (add-zero (w * 2 ^ s))) ∙ bit_cat_low s w 0 j (pow_pos s) h ∙ bit_zero j

shl_above : (w s j : ℕ) → j < 64 → s ≤ j → bit ((w * 2 ^ s) % 2 ^ 64) j ≡ bit w (j - s)
shl_above w s j l h =
    let e : j ≡ s + (j - s) = omega arith in
    bit_mod 64 (w * 2 ^ s) j l ∙ ap (bit (w * 2 ^ s)) e ∙ bit_shl w s (j - s)

module _ (a : List ℕ) (r half low i : ℕ) (h : Half r half low) (small : low < 2 ^ 64) (inside : i < 64) where
  -- the bit that word i should have at j
  abbrev wanted : ℕ → Bool
  wanted j = bit (get_or a (turn r i j) 0) (turn r j i)

  at : (j m n : ℕ) → turn r i j ≡ m → turn r j i ≡ n → bit (get_or a m 0) n ≡ wanted j
  at j m n p q = ap₂ (λ (x y : ℕ). bit (get_or a x 0) y) (sym p) (sym q)

  -- the digit of i is set
  module _ (set : bit i r ≡ true) where
    abbrev high : ℕ
    high = bit_or (bit_and (get_or a (i - half) 0 / 2 ^ half) low) (bit_and (get_or a i 0) (2 ^ 64 - 1 - low))

    high_bit : (j : ℕ) → j < 64 → bit high j ≡ wanted j
    high_bit j l = parts ∙ go (bit j r) refl
      where
        parts : bit high j ≡ (bit (get_or a (i - half) 0) (half + j) && not (bit j r)) || (bit (get_or a i 0) j && not (not (bit j r)))
        parts =
            bit_of_or (bit_and (get_or a (i - half) 0 / 2 ^ half) low) (bit_and (get_or a i 0) (2 ^ 64 - 1 - low)) j
            ∙ ap₂ (λ (x y : Bool). x || y)
            (bit_of_and (get_or a (i - half) 0 / 2 ^ half) low j ∙ ap₂ (λ (x y : Bool). x && y) (bit_shr (get_or a (i - half) 0) half j) (h.mask j l))
            (bit_of_and (get_or a i 0) (2 ^ 64 - 1 - low) j ∙ ap (λ (y : Bool). bit (get_or a i 0) j && y) (bit_not 64 low j small l ∙ ap not (h.mask j l)))

        go : (d : Bool) → bit j r ≡ d → (bit (get_or a (i - half) 0) (half + j) && not (bit j r)) || (bit (get_or a i 0) j && not (not (bit j r))) ≡ wanted j
        go true e =
            ap₂ (λ (x y : Bool). x || y) (ap (λ (d : Bool). bit (get_or a (i - half) 0) (half + j) && not d) e ∙ and-false (bit (get_or a (i - half) 0) (half + j)))
            (ap (λ (d : Bool). bit (get_or a i 0) j && not (not d)) e ∙ and-true (bit (get_or a i 0) j))
            ∙ at j i j (ap (placed r i) e ∙ placed_set r i set) (ap (placed r j) set ∙ placed_set r j e)
        go false e =
            let p : turn r i j ≡ i - half = ap (placed r i) e ∙ placed_down r i set ∙ ap (λ (x : ℕ). i - x) (sym h.power) in
            let q : turn r j i ≡ half + j = ap (placed r j) set ∙ placed_up r j e ∙ ap (λ (x : ℕ). j + x) (sym h.power) ∙ add_comm j half in
            ap₂ (λ (x y : Bool). x || y) (ap (λ (d : Bool). bit (get_or a (i - half) 0) (half + j) && not d) e ∙ and-true (bit (get_or a (i - half) 0) (half + j)))
            (ap (λ (d : Bool). bit (get_or a i 0) j && not (not d)) e ∙ and-false (bit (get_or a i 0) j))
            ∙ or-false (bit (get_or a (i - half) 0) (half + j)) ∙ at j (i - half) (half + j) p q

    pub mix_high : high ≡ mixed r a i
    mix_high =
        word_unique 64 high wanted
        (or_lt 64 (bit_and (get_or a (i - half) 0 / 2 ^ half) low) (bit_and (get_or a i 0) (2 ^ 64 - 1 - low)) (lt_of_le_of_lt (and_le_r (get_or a (i - half) 0 / 2 ^ half) low) small)
        (lt_of_le_of_lt (and_le_r (get_or a i 0) (2 ^ 64 - 1 - low)) (omega arith))) high_bit

  -- it is clear
  module _ (clear : bit i r ≡ false) where
    abbrev flat : ℕ
    flat = bit_or (bit_and (get_or a i 0) low) ((bit_and (get_or a (i + half) 0) low * 2 ^ half) % 2 ^ 64)

    abbrev B : ℕ
    B = get_or a (i + half) 0

    masked : (j : ℕ) → j < 64 → half ≤ j → bit (bit_and B low) (j - half) ≡ bit B (j - half) && bit j r
    masked j l k =
        bit_of_and B low (j - half) ∙ ap (λ (y : Bool). bit B (j - half) && y) (h.mask (j - half) (omega arith) ∙ ap not digit ∙ twice (bit j r))
      where
        twice : (b : Bool) → not (not b) ≡ b
        twice true = refl
        twice false = refl

        digit : bit (j - half) r ≡ not (bit j r)
        digit = ap (λ (x : ℕ). bit (j - x) r) h.power ∙ down_digit r j h.digit l (omega (arith, h.power))

    shifted : (j : ℕ) → j < 64 → half ≤ j → bit ((bit_and B low * 2 ^ half) % 2 ^ 64) j ≡ bit B (j - half) && bit j r
    shifted j l k = shl_above (bit_and B low) half j l k ∙ masked j l k

    flat_bit : (j : ℕ) → j < 64 → bit flat j ≡ wanted j
    flat_bit j l = parts ∙ go (bit j r) refl
      where
        parts : bit flat j ≡ (bit (get_or a i 0) j && not (bit j r)) || bit ((bit_and B low * 2 ^ half) % 2 ^ 64) j
        parts =
            bit_of_or (bit_and (get_or a i 0) low) ((bit_and B low * 2 ^ half) % 2 ^ 64) j
            ∙ ap (λ (x : Bool). x || bit ((bit_and B low * 2 ^ half) % 2 ^ 64) j) (bit_of_and (get_or a i 0) low j ∙ ap (λ (y : Bool). bit (get_or a i 0) j && y) (h.mask j l))

        none : bit j r ≡ false → bit ((bit_and B low * 2 ^ half) % 2 ^ 64) j ≡ false
        none e = ⊎_elim (λ k. shl_below (bit_and B low) half j l k) (λ k. shifted j l k ∙ ap (λ (y : Bool). bit B (j - half) && y) e ∙ and-false (bit B (j - half))) (lt_or_ge j half)

        go : (d : Bool) → bit j r ≡ d → (bit (get_or a i 0) j && not (bit j r)) || bit ((bit_and B low * 2 ^ half) % 2 ^ 64) j ≡ wanted j
        go true e =
            let k : half ≤ j = omega (arith, h.power, down_inside r j h.digit l e) in
            let p : turn r i j ≡ i + half = ap (placed r i) e ∙ placed_up r i clear ∙ ap (λ (x : ℕ). i + x) (sym h.power) in
            let q : turn r j i ≡ j - half = ap (placed r j) clear ∙ placed_down r j e ∙ ap (λ (x : ℕ). j - x) (sym h.power) in
            ap₂ (λ (x y : Bool). x || y) (ap (λ (d : Bool). bit (get_or a i 0) j && not d) e ∙ and-false (bit (get_or a i 0) j)) (shifted j l k ∙ ap (λ (d : Bool). bit B (j - half) && d) e ∙ and-true (bit B (j - half)))
            ∙ at j (i + half) (j - half) p q
        go false e =
            ap₂ (λ (x y : Bool). x || y) (ap (λ (d : Bool). bit (get_or a i 0) j && not d) e ∙ and-true (bit (get_or a i 0) j)) (none e) ∙ or-false (bit (get_or a i 0) j)
            ∙ at j i j (ap (placed r i) e ∙ placed_clear r i clear) (ap (placed r j) clear ∙ placed_clear r j e)

    pub mix_flat : flat ≡ mixed r a i
    mix_flat =
        word_unique 64 flat wanted
        (or_lt 64 (bit_and (get_or a i 0) low) ((bit_and B low * 2 ^ half) % 2 ^ 64) (lt_of_le_of_lt (and_le_r (get_or a i 0) low) small) (mod-lt (bit_and B low * 2 ^ half) (pow_pos 64))) flat_bit
