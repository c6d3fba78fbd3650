-- Sets of final states: moved up, grown pair by pair, and those of `true[*]`. Assumes nothing.
use Prim.Native.Nat.{ℕ, ◌+◌, ◌*◌, ◌-◌, ◌/◌, ◌%◌, ◌^◌, ◌<◌, ◌≤◌}
use native.Mathlib.Omega.{arith}
use native.Mathlib.Nat.{le-mul_of_pos_right, mul_comm, sub-zero, zero-add}
use mathlib.Core.Path.{◌≡◌, refl, sym, ap, ◌∙◌}
use mathlib.Core.Logic.{◌⊎◌, inl, inr}
use mathlib.Core.Bool.{true, false, ◌&&◌}
use lib.Dec.{T}
use Rattle.bits.specs.Word.{bit, word, insert}
use Rattle.bits.proofs.Laws.{bit_shl, bit_shl_low, bit_mod, bit_word, bit_above, word_lt, lt_or_ge}
use Rattle.definitions.specs.declared.kinds.Pair.TheVariants.{Both}
use Rattle.definitions.specs.Definition1.{Rule, Formula, yea, letter, empty, two}
use Rattle.rules.specs.Weight.{weight_of}
use Rattle.automata.specs.Build.{auto, UpF}
use Rattle.automata.specs.inner.Block.{FinalsAt, any_rule}
use Rattle.automata.specs.inner.Sets.{Raised, pair_final_of}
use Rattle.bits.proofs.Truths.{false_no}
use Rattle.rules.proofs.Weighing.{weight_pos}
use Rattle.automata.proofs.Places.{final_at}
use Rattle.automata.proofs.Ends.{empty_finals, letter_finals, star_finals, both_finals}
use Rattle.automata.specs.Table.{table_states}

-- ---- moving up

module _ (f k : ℕ) (small : k < table_states) where
  raised_bit : (j : ℕ) → k + j < table_states → bit ((f * 2 ^ k) % 2 ^ 64) (k + j) ≡ bit f j
  raised_bit j l = bit_mod 64 (f * 2 ^ k) (k + j) l ∙ bit_shl f k j

  raised_low : (q : ℕ) → q < k → bit ((f * 2 ^ k) % 2 ^ 64) q ≡ false
  raised_low q l = bit_mod 64 (f * 2 ^ k) q (omega arith) ∙ bit_shl_low f k q l

  out : (q : ℕ) → q < table_states → (q < k) ⊎ (k ≤ q) → T (bit ((f * 2 ^ k) % 2 ^ 64) q) → UpF k (λ j. T (bit f j)) q
  out q l (inl h) t = absurd (false_no (raised_low q h) t)
  out q l (inr h) t =
      let e : q ≡ k + (q - k) = omega arith in
      UpF.up (q - k) e (rw (raised_bit (q - k) (omega arith)) at (rw e at t))

  into : (q : ℕ) → q < table_states → UpF k (λ j. T (bit f j)) q → T (bit ((f * 2 ^ k) % 2 ^ 64) q)
  into q l (UpF.up j e t) = rw e (rw (raised_bit j (omega arith)) t)

  pub shifted : Raised f k ((f * 2 ^ k) % 2 ^ 64)
  shifted = record { moved = λ q l. (out q l (lt_or_ge q k), into q l) }

map_up : (F G : ℕ → Type 0) (k q : ℕ) → ((j : ℕ) → q ≡ k + j → F j → G j) → UpF k F q → UpF k G q
map_up F G k q h (UpF.up j e f) = UpF.up j e (h j e f)

pub raise_finals : {f k g : ℕ} {r : Rule} → Raised f k g → FinalsAt f 0 r → FinalsAt g k r
raise_finals {f} {k} {g} {r} m h = record {
  ends = λ q l. (
    λ t. map_up (λ j. T (bit f j)) (auto r).final k q (λ j e b. (final_at f 0 r h j j (omega arith) (omega arith)).0 b) ((m.moved q l).0 t),
    λ u. (m.moved q l).1 (map_up (auto r).final (λ j. T (bit f j)) k q (λ j e b. (final_at f 0 r h j j (omega arith) (omega arith)).1 b) u),
  );
}

-- ---- sets of a few states

one : insert 0 0 ≡ 1
unfolding insert
one = refl

two' : insert 0 1 ≡ 2
unfolding insert
two' = refl

three : insert 2 0 ≡ 3
unfolding insert
three = refl

pub empty_set : FinalsAt 1 0 empty
empty_set = rw one at (empty_finals 0)

pub letter_set : (f : Formula) → FinalsAt 2 0 (letter f)
letter_set f = rw two' at (letter_finals 0 f)

pub any_set : FinalsAt 3 0 any_rule
any_set = rw three at (star_finals 0 2 (letter yea) (letter_set yea))

-- ---- the pairs

pub pair_is : (a b n q : ℕ) → bit a (q / n) ≡ true → bit b (q % n) ≡ pair_final_of a b n q
unfolding pair_final_of
pair_is a b n q e = sym (rw e)

pub pair_not : (a b n q : ℕ) → bit a (q / n) ≡ false → false ≡ pair_final_of a b n q
unfolding pair_final_of
pair_not a b n q e = sym (rw e)

module _ (fa fb n w : ℕ) (a b : Rule) (en : n ≡ weight_of b) (ew : w ≡ weight_of a * weight_of b) (small : w ≤ table_states) (u : FinalsAt fa 0 a) (v : FinalsAt fb 0 b) where
  w_is : w ≡ weight_of a * n
  w_is = ew ∙ ap (λ (k : ℕ). weight_of a * k) (sym en)

  inside : (q : ℕ) → 0 ≤ q → q < 0 + weight_of a * n → bit (word w (pair_final_of fa fb n)) q ≡ bit fa (0 + (q - 0) / n) && bit fb (0 + (q - 0) % n)
  unfolding pair_final_of
  inside q h l = simp (sub-zero, zero-add) (bit_word w (pair_final_of fa fb n) q (omega (arith, w_is)))

  outside : (q : ℕ) → q < table_states → (q < 0) ⊎ (0 + weight_of a * n ≤ q) → bit (word w (pair_final_of fa fb n)) q ≡ false
  outside q l (inl h) = absurd (omega arith)
  outside q l (inr h) = bit_above w (word w (pair_final_of fa fb n)) q (word_lt w (pair_final_of fa fb n)) (omega (arith, w_is))

  all_pairs : FinalsAt (word w (pair_final_of fa fb n)) 0 (two Both a b)
  all_pairs =
      both_finals 0 0 0 (weight_of a) n (word w (pair_final_of fa fb n)) fa fb a b refl en
      (omega (arith, ew, le-mul_of_pos_right (weight_of a) (weight_pos b)))
      (omega (arith, ew, mul_comm (weight_of b) (weight_of a), le-mul_of_pos_right (weight_of b) (weight_pos a)))
      u v inside outside

-- the set of all pairs of finals
pub both_done : (set fa fb n w : ℕ) (a b : Rule) → set ≡ word w (pair_final_of fa fb n) → n ≡ weight_of b → w ≡ weight_of a * weight_of b → w ≤ table_states → FinalsAt fa 0 a → FinalsAt fb 0 b
    → FinalsAt set 0 (two Both a b)
both_done set fa fb n w a b e en ew small u v = rw e (all_pairs fa fb n w a b en ew small u v)
