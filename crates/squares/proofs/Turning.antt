-- Six rounds turn a square over: each takes one digit more of a word's place from the bit's place. Assumes nothing.
use Prim.Native.Nat.{ℕ, zero, suc, ◌≤◌, ◌<◌}
use native.Mathlib.Omega.{arith}
use native.Mathlib.Decide.{ℕ_discrete, dec_lt}
use mathlib.Core.Path.{◌≡◌, refl, sym, ap, ap₂, ◌∙◌}
use mathlib.Core.Bool.{Bool, cond}
use mathlib.Core.List.{List}
use lib.Dec.{eqb, ltb}
use lib.ListN.{get_or}
use lib.Pow.{pow_pos}
use borrow.Author.Tests.{lt-ltb, le-ltb, eq-eqb, ne_eqb}
use Rattle.bits.specs.Word.{bit}
use Rattle.bits.proofs.Laws.{ext, bit_zero, bit_word, word_lt, word_unique}
use Rattle.squares.specs.inner.Rounds.{turn, Round, Empty}
use Rattle.squares.specs.Squares.{TurnedOver}
use Rattle.squares.proofs.Digits.{bit_placed, placed_lt}

-- i with its digits below n taken from j
unfoldable turned : ℕ → ℕ → ℕ → ℕ
turned zero i j = i
turned (suc r) i j = turn r (turned r i j) (turned r j i)

turned_lt : (n i j : ℕ) → n ≤ 6 → i < 64 → j < 64 → turned n i j < 64
unfolding turned
turned_lt zero i j l hi hj = hi
turned_lt (suc n) i j l hi hj = placed_lt n (turned n i j) (bit (turned n j i) n) l (turned_lt n i j (omega arith) hi hj)

turned_bit : (n i j s : ℕ) → n ≤ 6 → i < 64 → j < 64 → s < 6 → bit (turned n i j) s ≡ cond (ltb s n) (bit j s) (bit i s)
unfolding turned
turned_bit zero i j s l hi hj hs = sym (ap (λ (b : Bool). cond b (bit j s) (bit i s)) (le-ltb s 0 (omega arith)))
turned_bit (suc n) i j s l hi hj hs =
    bit_placed n (turned n i j) (bit (turned n j i) n) s l (turned_lt n i j (omega arith) hi hj) hs
    ∙ go (ℕ_discrete s n) (dec_lt s n) (turned_bit n j i n (omega arith) hj hi l) (turned_bit n i j s (omega arith) hi hj hs)
  where
    go : Dec (s ≡ n) → Dec (s < n) → bit (turned n j i) n ≡ cond (ltb n n) (bit i n) (bit j n) → bit (turned n i j) s ≡ cond (ltb s n) (bit j s) (bit i s)
        → cond (eqb s n) (bit (turned n j i) n) (bit (turned n i j) s) ≡ cond (ltb s (suc n)) (bit j s) (bit i s)
    go (yes e) _ x y = rw (eq-eqb s n e, lt-ltb s (suc n) (omega arith)) (x ∙ ap (λ (b : Bool). cond b (bit i n) (bit j n)) (le-ltb n n (omega arith)) ∙ ap (bit j) (sym e))
    go (no e) (yes h) x y = rw (ne_eqb s n e, lt-ltb s (suc n) (omega arith)) (y ∙ ap (λ (b : Bool). cond b (bit j s) (bit i s)) (lt-ltb s n h))
    go (no e) (no h) x y = rw (ne_eqb s n e, le-ltb s (suc n) (omega arith)) (y ∙ ap (λ (b : Bool). cond b (bit j s) (bit i s)) (le-ltb s n (omega arith)))

-- after all digits it is j
turned_whole : (i j : ℕ) → i < 64 → j < 64 → turned 6 i j ≡ j
turned_whole i j hi hj =
    ext 6 (turned 6 i j) j (turned_lt 6 i j (omega arith) hi hj) hj
    (λ s l. turned_bit 6 i j s (omega arith) hi hj l ∙ ap (λ (b : Bool). cond b (bit j s) (bit i s)) (lt-ltb s 6 l))

-- one round, peeled off
module _ (v i j : ℕ) (hi : i < 64) (hj : j < 64) where
  abbrev Comes : ℕ → List ℕ → Type 0
  Comes n x = bit v j ≡ bit (get_or x (turned n i j) 0) (turned n j i)

  peel : {x y : List ℕ} (n : ℕ) → n < 6 → Round n y x 64 → Comes n x → Comes (suc n) y
  unfolding turned
  peel {x} {y} n l k e =
      let a = turned_lt n i j (omega arith) hi hj in
      let b = turned_lt n j i (omega arith) hj hi in
      e ∙ ap (λ (w : ℕ). bit w (turned n j i)) (k.new (turned n i j) a)
      ∙ bit_word 64 (λ t. bit (get_or y (turn n (turned n i j) t) 0) (turn n t (turned n i j))) (turned n j i) b

module _ {a b c d e f g : List ℕ} (r5 : Round 5 a b 64) (r4 : Round 4 b c 64) (r3 : Round 3 c d 64) (r2 : Round 2 d e 64) (r1 : Round 1 e f 64) (r0 : Round 0 f g 64) where
  whole_bit : (i j : ℕ) → i < 64 → j < 64 → bit (get_or g i 0) j ≡ bit (get_or a j 0) i
  unfolding turned
  whole_bit i j hi hj =
      let v = get_or g i 0 in
      let z = peel v i j hi hj 5 (omega arith) r5 (peel v i j hi hj 4 (omega arith) r4 (peel v i j hi hj 3 (omega arith) r3 (peel v i j hi hj 2 (omega arith) r2 (peel v i j hi hj 1 (omega arith) r1 (peel v i j hi hj 0 (omega arith) r0 refl))))) in
      z ∙ ap₂ (λ (x y : ℕ). bit (get_or a x 0) y) (turned_whole i j hi hj) (turned_whole j i hj hi)

  pub turned_over : TurnedOver a g
  turned_over = record {
    size = r0.size ∙ r1.size ∙ r2.size ∙ r3.size ∙ r4.size ∙ r5.size;
    new = λ i l. word_unique 64 (get_or g i 0) (λ j. bit (get_or a j 0) i) (rw (r0.new i l) (word_lt 64 (λ j. bit (get_or f (turn 0 i j) 0) (turn 0 j i)))) (λ j m. whole_bit i j l m);
  }

-- a square of zeros is its own
pub empty_over : {a : List ℕ} → Empty a → TurnedOver a a
empty_over {a} z = record {
  size = refl;
  new = λ i l. word_unique 64 (get_or a i 0) (λ j. bit (get_or a j 0) i) (rw (z.zero_at i l) (pow_pos 64)) (λ j m. ap (λ (w : ℕ). bit w j) (z.zero_at i l) ∙ bit_zero j ∙ sym (bit_zero i) ∙ ap (λ (w : ℕ). bit w i) (sym (z.zero_at j m)));
}
