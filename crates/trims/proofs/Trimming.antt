-- What the moves leave behind is the trimmed table. Assumes nothing.
use Prim.Native.Nat.{ℕ, ◌+◌, ◌*◌, ◌/◌, ◌%◌, ◌^◌, ◌<◌, ◌≤◌}
use native.Mathlib.Omega.{arith}
use native.Mathlib.Decide.{ℕ_discrete}
use mathlib.Core.Path.{◌≡◌, refl, sym, ap, ap₂, subst, ◌∙◌}
use mathlib.Core.Logic.{◌⊎◌, inl, inr}
use mathlib.Core.Bool.{Bool, true, false, not}
use mathlib.Core.List.{List}
use lib.Dec.{T}
use lib.ListN.{get_or, length}
use borrow.Author.Tests.{not-true, not-false}
use Rattle.bits.specs.Word.{bit, word}
use Rattle.bits.proofs.Laws.{bit_word, bit_above, word_lt}
use Rattle.definitions.specs.Numbers.{short_slice_number, no_table_number}
use Rattle.automata.specs.Table.{table_states, table_entries, cell}
use Rattle.automata.specs.inner.Cells.{In, Put}
use Rattle.tables.specs.Beyond.{Beyond}
use Rattle.automata.proofs.Puts.{dec_in}
use Rattle.trims.specs.Kept.{KeptSet, new_number}
use Rattle.trims.specs.Stands.{Stands}
use Rattle.trims.specs.Trimmed.{Trimmed}
use Rattle.trims.specs.Answer.{trimmed, refused, TrimRight, short_table, no_table, the_trimmed}
use Rattle.trims.specs.inner.Outside.{Judged}
use Rattle.trims.specs.inner.Lists.{Lists}
use Rattle.trims.specs.inner.Moves.{moved_label_of, moved_final, moved_finals_of}
use Rattle.trims.proofs.Numbers.{number_less, number_once, number_le}
use Rattle.trims.proofs.Ways.{kept_inside}
use Rattle.trims.proofs.Moving.{moved_here, moved_row_none, moved_column_none}

-- a rectangle of the table leaves the entries past it
put_beyond : {t u : List ℕ} {n : ℕ} {g : ℕ → ℕ → ℕ} → n ≤ table_states → length u ≡ length t → Put t u 0 n 0 n g → Beyond table_entries t u
put_beyond {t} {u} {n} small e x = record { size = e; rest = rest }
  where
    rest : (i : ℕ) → table_entries ≤ i → get_or u i 0 ≡ get_or t i 0
    rest i l =
        let z : 64 * (i / 64) + i % 64 ≡ i = omega arith in
        subst (λ (m : ℕ). get_or u m 0 ≡ get_or t m 0) z (x.old (i / 64) (i % 64) (omega arith) (λ k. omega (arith, k.bottom)))

module _ {t u from : List ℕ} {n f k m g : ℕ} (s : Stands t n f) (c : KeptSet t n f k) (l : Lists from k m) (long : length from ≡ m) (x : Put t u 0 n 0 n (moved_label_of t from))
    (e : length u ≡ length t) (d : g ≡ moved_finals_of from f) (h : g < 2 ^ 64) where
  -- what stands at the number of a member is the member
  inside : (q : ℕ) → T (bit k q) → q < n
  inside q b = kept_inside s (c.states.holds q b)

  listed : (q : ℕ) → T (bit k q) → (new_number k q < m) × (get_or from (new_number k q) 0 ≡ q)
  listed q b =
      let i : new_number k q < m = omega (arith, l.count, number_less k q (omega (arith, inside q b, s.small)) b) in
      (i, number_once k (get_or from (new_number k q) 0) q (l.members (new_number k q) i).member b (l.members (new_number k q) i).number)

  -- there are no more new states than old ones
  fewer : (i : ℕ) → i < m → i < n
  fewer i o = let z = l.members i o in omega (arith, inside (get_or from i 0) z.member, z.number, number_le k (get_or from i 0))

  new_label : (p q : ℕ) → T (bit k p) → T (bit k q) → cell u (new_number k p) (new_number k q) ≡ cell t p q
  new_label p q bp bq =
      let a = listed p bp in let b = listed q bq in
      x.new (new_number k p) (new_number k q) (record { top = omega arith; bottom = fewer (new_number k p) a.0; left = omega arith; right = fewer (new_number k q) b.0 })
      ∙ moved_here t from (new_number k p) (new_number k q) (omega (arith, a.0)) (omega (arith, b.0)) ∙ ap₂ (cell t) a.1 b.1

  -- outside the new states the moves write no label, and outside the old ones there was none
  no_move : (p q : ℕ) → (m ≤ p) ⊎ (m ≤ q) → moved_label_of t from p q ≡ 0
  no_move p q (inl o) = sym (moved_row_none t from p q (omega arith))
  no_move p q (inr o) = sym (moved_column_none t from p q (omega arith))

  none_there : (p q : ℕ) → p < table_states → q < table_states → (In 0 n 0 n p q → ⊥) → cell t p q ≡ 0
  none_there p q lp lq o = go (ℕ_discrete (cell t p q) 0)
    where
      go : Dec (cell t p q ≡ 0) → cell t p q ≡ 0
      go (yes i) = i
      go (no i) = let z = s.labels p q lp lq i in absurd (o (record { top = omega arith; bottom = z.0; left = omega arith; right = z.1 }))

  empty : (p q : ℕ) → p < table_states → q < table_states → (m ≤ p) ⊎ (m ≤ q) → cell u p q ≡ 0
  empty p q lp lq o = go (dec_in 0 n 0 n p q)
    where
      go : Dec (In 0 n 0 n p q) → cell u p q ≡ 0
      go (yes i) = x.new p q i ∙ no_move p q o
      go (no i) = x.old p q lq i ∙ none_there p q lp lq i

  new_final : (q : ℕ) → T (bit k q) → bit g (new_number k q) ≡ bit f q
  unfolding moved_finals_of moved_final
  new_final q b =
      let a = listed q b in
      ap (λ (z : ℕ). bit z (new_number k q)) d ∙ bit_word (length from) (λ i. bit f (get_or from i 0)) (new_number k q) (omega (arith, a.0)) ∙ ap (bit f) a.1

  no_final : (q : ℕ) → m ≤ q → bit g q ≡ false
  unfolding moved_finals_of
  no_final q o = ap (λ (z : ℕ). bit z q) d ∙ bit_above (length from) (word (length from) (moved_final from f)) q (word_lt (length from) (moved_final from f)) (omega arith)

  pub moved_trimmed : Trimmed t u n f m g
  moved_trimmed = record {
    kept = k;
    states = c;
    weight = l.count;
    labels = new_label;
    no_label = empty;
    rest = put_beyond s.small e x;
    word = h;
    finals = new_final;
    no_final = λ q i o. no_final q o;
  }

-- ---- the three ways out of `trim`

module _ (t : List ℕ) (n f : ℕ) where
  pub right_short : length t < table_entries → TrimRight t t n f (refused short_slice_number 0)
  right_short l = short_table l refl

  module _ (b : Bool) (j : Judged t n f b) (long : table_entries ≤ length t) where
    pub right_outside : not b ≡ true → TrimRight t t n f (refused no_table_number 0)
    right_outside e = no_table long (j.bad (not-true b e)) refl

    pub stands_of : not b ≡ false → Stands t n f
    stands_of e = j.good (not-false b e)

    pub right_trimmed : {u : List ℕ} {m g : ℕ} → not b ≡ false → Trimmed t u n f m g → TrimRight t u n f (trimmed m g)
    right_trimmed e z = the_trimmed long (stands_of e) z
