-- Gathering the rows of a set's members. Assumes nothing.
use Prim.Native.Nat.{ℕ, ◌^◌, ◌<◌}
use mathlib.Core.Path.{◌≡◌, sym, subst}
use mathlib.Core.Bool.{Bool, not, ◌&&◌}
use mathlib.Core.List.{List}
use lib.Bits.{bit_and}
use lib.Dec.{T, eqb}
use Rattle.bits.specs.Word.{bit, word, any}
use Rattle.bits.specs.Sets.{In, Members, Over}
use Rattle.bits.proofs.Laws.{bit_word, word_lt, word_unique, any_meet}
use Rattle.bits.proofs.Truths.{any_T, and_T, same_truth}
use Rattle.bits.proofs.Resting.{in_word}
use Rattle.automata.specs.Table.{table_states, cell}
use Rattle.steps.specs.Moves.{row_of, advanced, meets}

-- a member of the row of p
pub row_members : (t : List ℕ) (p x : ℕ) → Members (row_of t p x) (λ q. (q < table_states) × T (bit (cell t p q) x))
unfolding row_of
row_members t p x = record { holds = λ q s. holds q s (in_word q (word_lt table_states f) s); has = λ q h. subst T (sym (bit_word table_states f q h.0)) h.1 }
  where
    f : ℕ → Bool
    f q = bit (cell t p q) x

    holds : (q : ℕ) → T (bit (word table_states f) q) → q < table_states → (q < table_states) × T (f q)
    holds q s h = (h, subst T (bit_word table_states f q h) s)

-- the rows of all members, united
pub gathered : (t : List ℕ) (set x reached : ℕ) → set < 2 ^ 64 → reached < 2 ^ 64 → Members reached (λ q. Over (In set) (λ p. (q < table_states) × T (bit (cell t p q) x))) → reached ≡ advanced t set x
unfolding advanced
gathered t set x reached hs hr m = word_unique 64 reached (λ q. any 64 (λ p. bit set p && bit (cell t p q) x)) hr (λ q l. same_truth (bit reached q) (any 64 (λ p. bit set p && bit (cell t p q) x)) (out q) (back q l))
  where
    out : (q : ℕ) → T (bit reached q) → T (any 64 (λ p. bit set p && bit (cell t p q) x))
    out q s = let o = m.holds q s in (any_T 64 (λ p. bit set p && bit (cell t p q) x)).1 (o.at, in_word o.at hs o.inside, (and_T (bit set o.at) (bit (cell t o.at q) x)).1 (o.inside, o.holds.1))

    back : (q : ℕ) → q < 64 → T (any 64 (λ p. bit set p && bit (cell t p q) x)) → T (bit reached q)
    back q l s =
        let w = (any_T 64 (λ p. bit set p && bit (cell t p q) x)).0 s in
        let k = (and_T (bit set w.0) (bit (cell t w.0 q) x)).0 w.2 in
        m.has q (record { at = w.0; inside = k.0; holds = (l, k.1) })

pub advanced_lt : (t : List ℕ) (set x : ℕ) → advanced t set x < 2 ^ 64
unfolding advanced
advanced_lt t set x = word_lt 64 (λ q. any 64 (λ p. bit set p && bit (cell t p q) x))

-- `set & finals != 0`
pub meets_test : (set finals : ℕ) → set < 2 ^ 64 → not (eqb (bit_and set finals) 0) ≡ meets set finals
unfolding meets
meets_test set finals h = sym (any_meet 64 set finals h)
