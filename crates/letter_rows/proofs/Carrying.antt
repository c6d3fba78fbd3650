-- The words of one state after the other are carried into the other layout. Assumes nothing.
use Prim.Native.Nat.{ℕ, ◌+◌, ◌*◌, ◌^◌, ◌≤◌, ◌<◌}
use native.Mathlib.Nat.{one-mul}
use native.Mathlib.Omega.{arith}
use native.Mathlib.Decide.{ℕ_discrete}
use mathlib.Core.Path.{◌≡◌, sym, ap, subst, ◌∙◌}
use mathlib.Core.Logic.{◌≢◌}
use mathlib.Core.Bool.{Bool}
use mathlib.Core.List.{List}
use lib.ListN.{length, get_or}
use Rattle.bits.specs.Word.{bit, word}
use Rattle.bits.proofs.Laws.{bit_word, word_lt, word_unique}
use Rattle.automata.specs.Table.{table_states, table_entries, cell}
use Rattle.tables.proofs.promise.Beyonds.{beyond_none}
use Rattle.steps.specs.Moves.{row_of}
use Rattle.letter_rows.specs.Layouts.{row_at, label_of}
use Rattle.letter_rows.specs.Answer.{Result, short_slice, whole, RowsRight, TableRight}
use Rattle.squares.specs.Squares.{TurnedOver}
use Rattle.letter_rows.specs.inner.Conversions.{Converts, short, carried}
use Rattle.letter_rows.specs.inner.Blocks.{Lies, ReadOut, WrittenTo, Steps, by_state, by_letter, turned_word, Carried, CarriedTo}

-- words of the same bits
pub word_same : (n : ℕ) (f g : ℕ → Bool) → ((k : ℕ) → k < n → f k ≡ g k) → word n f ≡ word n g
word_same n f g e = word_unique n (word n f) g (word_lt n f) (λ k l. bit_word n f k l ∙ e k l)

-- ---- places in a layout

pub far_fits : {far near : ℕ} (p : ℕ) → Steps far near → p < 64 → far * p < 2 ^ 64
far_fits p (by_state e d) h = rw e (omega arith)
far_fits p (by_letter e d) h = rw e (omega arith)

pub near_fits : {far near : ℕ} (p : ℕ) → Steps far near → p < 64 → near * p < 2 ^ 64
near_fits p (by_state e d) h = rw d (omega arith)
near_fits p (by_letter e d) h = rw d (omega arith)

pub far_some : {far near : ℕ} → Steps far near → 0 < far
far_some (by_state e d) = omega arith
far_some (by_letter e d) = omega arith

pub lies_given : {far near : ℕ} (p : ℕ) (words : List ℕ) → Steps far near → p < 64 → table_entries ≤ length words → Lies words (far * p) near
lies_given p words (by_state e d) h l k m = rw (e, d) (omega arith)
lies_given p words (by_letter e d) h l k m = rw (e, d) (omega arith)

pub lies_to : {far near : ℕ} (p : ℕ) (words : List ℕ) → Steps far near → p < 64 → table_entries ≤ length words → Lies words (near * p) far
lies_to p words (by_state e d) h l k m = rw (e, d) (omega arith)
lies_to p words (by_letter e d) h l k m = rw (e, d) (omega arith)

-- other states' words stand elsewhere, and all stand in the first 4,096
elsewhere : {far near : ℕ} (p n k j : ℕ) → Steps far near → p < n → n < 64 → k < 64 → j < 64 → near * p + far * k ≢ near * n + far * j
elsewhere p n k j (by_state e d) h l a b q = let z : 1 * p + 64 * k ≡ 1 * n + 64 * j = rw (e, d) at q in omega arith
elsewhere p n k j (by_letter e d) h l a b q = let z : 64 * p + 1 * k ≡ 64 * n + 1 * j = rw (e, d) at q in omega arith

among : {far near : ℕ} (n k : ℕ) → Steps far near → n < 64 → k < 64 → near * n + far * k < table_entries
among n k (by_state e d) h l = rw (e, d) (omega arith)
among n k (by_letter e d) h l = rw (e, d) (omega arith)

-- ---- one state, and all

pub carried_of : {given before after b b' : List ℕ} {far near p : ℕ} → ReadOut given b (far * p) near → TurnedOver b b' → WrittenTo before after b' (near * p) far 64
    → Carried given before after far near p
carried_of {given} {b = b} {far = far} {near} {p} x y z = record {
  size = z.size;
  new = λ k l. z.new k l ∙ y.new k l ∙ word_same 64 (λ j. bit (get_or b j 0) k) (λ j. bit (get_or given (far * p + near * j) 0) k) (λ j m. ap (λ (w : ℕ). bit w k) (x.new j m));
  old = z.old;
}

pub carried_none : (given before : List ℕ) (far near : ℕ) → CarriedTo given before before far near 0
carried_none given before far near = record { rest = beyond_none table_entries before; new = λ p k l m. absurd (omega arith) }

pub carried_next : {given before a b : List ℕ} {far near : ℕ} (n : ℕ) → Steps far near → n < 64 → CarriedTo given before a far near n → Carried given a b far near n → CarriedTo given before b far near (n + 1)
carried_next {given} {before} {a} {b} {far} {near} n s h x y = record {
  rest = record { size = y.size ∙ x.rest.size; rest = λ i l. y.old i (λ k m e. omega (arith, among n k s h m)) ∙ x.rest.rest i l };
  new = λ p k l m. new p k l m (ℕ_discrete p n);
}
  where
    new : (p k : ℕ) → p < n + 1 → k < 64 → Dec (p ≡ n) → get_or b (near * p + far * k) 0 ≡ turned_word given far near p k
    new p k l m (yes e) = subst (λ (j : ℕ). get_or b (near * j + far * k) 0 ≡ turned_word given far near j k) (sym e) (y.new k m)
    new p k l m (no e) = y.old (near * p + far * k) (λ j o. elsewhere p n k j s (omega arith) h m o) ∙ x.new p k (omega arith) m

-- ---- the two conversions

module _ {given before after : List ℕ} where
  pub rows_right : {r : Result} → Converts given before after 64 1 r → RowsRight given before after r
  unfolding row_of
  rows_right (short s e) = short_slice s e
  rows_right (carried long long' x) = whole long long' entry x.rest
    where
      entry : (i j : ℕ) → i < table_states → j < table_states → get_or after (64 * i + j) 0 ≡ row_of given j i
      entry i j h l =
          let e : 1 * j + 64 * i ≡ 64 * i + j = omega arith in
          subst (λ (n : ℕ). get_or after n 0 ≡ row_of given j i) e
          (x.new j i l h ∙ word_same 64 (λ q. bit (get_or given (64 * j + 1 * q) 0) i) (λ q. bit (cell given j q) i) (λ q m. ap (λ (n : ℕ). bit (get_or given (64 * j + n) 0) i) (one-mul q)))

  pub table_right : {r : Result} → Converts given before after 1 64 r → TableRight given before after r
  unfolding label_of
  table_right (short s e) = short_slice s e
  table_right (carried long long' x) = whole long long' entry x.rest
    where
      entry : (i j : ℕ) → i < table_states → j < table_states → get_or after (64 * i + j) 0 ≡ label_of given i j
      entry i j h l =
          let e : 64 * i + 1 * j ≡ 64 * i + j = omega arith in
          subst (λ (n : ℕ). get_or after n 0 ≡ label_of given i j) e
          (x.new i j h l ∙ word_same 64 (λ y. bit (get_or given (1 * i + 64 * y) 0) j) (λ y. bit (row_at given y i) j) (λ y m. let d : 1 * i + 64 * y ≡ 64 * y + i = omega arith in ap (λ (n : ℕ). bit (get_or given n 0) j) d))
