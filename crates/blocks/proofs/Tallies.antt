-- `[=i..j]`: the labels of the counted letters. Assumes nothing.
use Prim.Native.Nat.{ℕ, ◌+◌, ◌-◌, ◌^◌, ◌<◌, ◌≤◌}
use native.Mathlib.Omega.{arith}
use native.Mathlib.Decide.{ℕ_discrete}
use mathlib.Core.Path.{◌≡◌, refl, ap, ◌∙◌}
use mathlib.Core.Logic.Iff
use mathlib.Core.Logic.{◌⊎◌, inl, inr, ◌↔◌}
use mathlib.Core.Bool.{Bool, not}
use mathlib.Core.List.{List}
use lib.Bits.{bit_or}
use lib.Dec.{T}
use borrow.Author.Tests.{eq-eqb, ne_eqb}
use Rattle.bits.specs.Word.{bit, word}
use Rattle.bits.proofs.Laws.{bit_word, word_not, lt_or_ge}
use Rattle.definitions.specs.Definition1.{Formula, occurs}
use Rattle.definitions.specs.Definition2.{letter_count, holds}
use Rattle.automata.specs.Table.{table_states, cell}
use Rattle.automata.specs.Build.{auto, Satisfied, at_first, so_far, OccursStep}
use Rattle.automata.specs.inner.Cells.{In, Put, Clean, tallied}
use Rattle.automata.specs.inner.Block.{Built}
use Rattle.blocks.specs.inner.Building.{TallyOf}
use Rattle.automata.proofs.Labels.{Has, has_or}
use Rattle.automata.proofs.Places.{by_cell, by_none, drop_none}

-- ---- the three kinds of a cell

module _ (t : List ℕ) (hit miss p q : ℕ) where
  pub tallied_stay : q ≡ p → tallied t hit miss p q ≡ miss
  unfolding tallied
  tallied_stay e = rw (eq-eqb q p e)

  pub tallied_rise : q ≡ p + 1 → tallied t hit miss p q ≡ hit
  unfolding tallied
  tallied_rise e = rw (ne_eqb q p (omega arith), eq-eqb q (p + 1) e)

  pub tallied_none : (q ≡ p → ⊥) → (q ≡ p + 1 → ⊥) → tallied t hit miss p q ≡ cell t p q
  unfolding tallied
  tallied_none n m = rw (ne_eqb q p n, ne_eqb q (p + 1) m)

-- ---- the steps

module _ (f : ℕ → Bool) (j x : ℕ) where
  first_as_one : (q : ℕ) → OccursStep f j 1 x q ↔ OccursStep f j 0 x q
  first_as_one q = (out, back)
    where
      count : (c : ℕ) → Satisfied c 1 → Satisfied c 0
      count c (at_first e d) = absurd (omega arith)
      count c (so_far e) = at_first refl (omega arith)

      uncount : (c : ℕ) → Satisfied c 0 → Satisfied c 1
      uncount c (at_first e d) = so_far (omega arith)
      uncount c (so_far e) = absurd (omega arith)

      out : OccursStep f j 1 x q → OccursStep f j 0 x q
      out (OccursStep.stays c a l t e) = OccursStep.stays c (count c a) l t e
      out (OccursStep.rises c a l t e) = OccursStep.rises c (count c a) l t e

      back : OccursStep f j 0 x q → OccursStep f j 1 x q
      back (OccursStep.stays c a l t e) = OccursStep.stays c (uncount c a) l t e
      back (OccursStep.rises c a l t e) = OccursStep.rises c (uncount c a) l t e

  module _ (p : ℕ) (some : 0 < p) (last : p < j + 2) where
    counted : (c : ℕ) → Satisfied c p → p ≡ 1 + c
    counted c (at_first e d) = absurd (omega arith)
    counted c (so_far e) = e

    step_stays : (q : ℕ) → q ≡ p → T (not (f x)) ↔ OccursStep f j p x q
    step_stays q e = (λ t. OccursStep.stays (p - 1) (so_far (omega arith)) (omega arith) t (omega arith), out)
      where
        out : OccursStep f j p x q → T (not (f x))
        out (OccursStep.stays c a l t d) = t
        out (OccursStep.rises c a l t d) = let z = counted c a in absurd (omega arith)

    step_rises : (q : ℕ) → q ≡ p + 1 → q < j + 2 → T (f x) ↔ OccursStep f j p x q
    step_rises q e h = (λ t. OccursStep.rises (p - 1) (so_far (omega arith)) (omega arith) t (omega arith), out)
      where
        out : OccursStep f j p x q → T (f x)
        out (OccursStep.stays c a l t d) = let z = counted c a in absurd (omega arith)
        out (OccursStep.rises c a l t d) = t

    step_none : (q : ℕ) → (q ≡ p → ⊥) → (q ≡ p + 1 → ⊥) → OccursStep f j p x q → ⊥
    step_none q n m (OccursStep.stays c a l t d) = let z = counted c a in n (omega arith)
    step_none q n m (OccursStep.rises c a l t d) = let z = counted c a in m (omega arith)

  enters_none : (p q : ℕ) → q ≡ 0 → OccursStep f j p x q → ⊥
  enters_none p q e (OccursStep.stays c a l t d) = omega arith
  enters_none p q e (OccursStep.rises c a l t d) = omega arith

-- ---- the block: first the states of the counts, then the first state like that of none

module _ (t t₁ t₂ : List ℕ) (base j hit : ℕ) (f : Formula) (clean : Clean t base) (room : base + (j + 2) ≤ table_states) (is : hit ≡ word letter_count (holds f))
    (rows : Put t t₁ (base + 1) (base + (j + 2)) (base + 1) (base + (j + 2)) (tallied t hit (2 ^ letter_count - 1 - hit)))
    (first : Put t₁ t₂ base (base + 1) (base + 1) (base + (j + 2)) (λ r s. bit_or (cell t₁ r s) (cell t₁ (base + 1) s))) where
  hit_bit : (x : ℕ) → x < letter_count → Has hit x ↔ T (holds f x)
  hit_bit x h = let e : bit hit x ≡ holds f x = ap (λ (v : ℕ). bit v x) is ∙ bit_word letter_count (holds f) x h in rw e (λ t. t, λ t. t)

  miss_bit : (x : ℕ) → x < letter_count → Has (2 ^ letter_count - 1 - hit) x ↔ T (not (holds f x))
  miss_bit x h =
      let e : bit (2 ^ letter_count - 1 - hit) x ≡ not (holds f x) =
      ap (λ (v : ℕ). bit (2 ^ letter_count - 1 - v) x) is ∙ ap (λ (v : ℕ). bit v x) (word_not letter_count (holds f)) ∙ bit_word letter_count (λ k. not (holds f k)) x h in
      rw e (λ t. t, λ t. t)

  blank : (p q : ℕ) → p < j + 2 → q < j + 2 → cell t (base + p) (base + q) ≡ 0
  blank p q hp hq = clean.none (base + p) (base + q) (omega arith) (omega arith) (omega arith) (omega arith)

  -- a state of a count, in t₁
  count_label : (p q x : ℕ) → 0 < p → p < j + 2 → 0 < q → q < j + 2 → x < letter_count → Has (cell t₁ (base + p) (base + q)) x ↔ OccursStep (holds f) j p x q
  count_label p q x sp hp sq hq hx = go (ℕ_discrete q p) (ℕ_discrete q (p + 1))
    where
      stored : (v : ℕ) → tallied t hit (2 ^ letter_count - 1 - hit) (base + p) (base + q) ≡ v → cell t₁ (base + p) (base + q) ≡ v
      stored v e = rows.new (base + p) (base + q) (omega arith) ∙ e

      go : Dec (q ≡ p) → Dec (q ≡ p + 1) → Has (cell t₁ (base + p) (base + q)) x ↔ OccursStep (holds f) j p x q
      go (yes e) d =
          by_cell (cell t₁ (base + p) (base + q)) (2 ^ letter_count - 1 - hit) x (stored (2 ^ letter_count - 1 - hit) (tallied_stay t hit (2 ^ letter_count - 1 - hit) (base + p) (base + q) (omega arith)))
          (Iff.trans (miss_bit x hx) (step_stays (holds f) j x p sp hp q e))
      go (no n) (yes e) =
          by_cell (cell t₁ (base + p) (base + q)) hit x (stored hit (tallied_rise t hit (2 ^ letter_count - 1 - hit) (base + p) (base + q) (omega arith)))
          (Iff.trans (hit_bit x hx) (step_rises (holds f) j x p sp hp q e hq))
      go (no n) (no m) =
          by_none (cell t₁ (base + p) (base + q)) x
          (stored 0 (tallied_none t hit (2 ^ letter_count - 1 - hit) (base + p) (base + q) (λ e. n (omega arith)) (λ e. m (omega arith)) ∙ blank p q hp hq))
          (step_none (holds f) j x p sp hp q n m)

  label : (p q x : ℕ) → p < j + 2 → q < j + 2 → x < letter_count → Has (cell t₂ (base + p) (base + q)) x ↔ OccursStep (holds f) j p x q
  label p q x hp hq hx = go (lt_or_ge 0 q) (lt_or_ge 0 p)
    where
      -- the first state, by what leaves the state of none
      from_first : p ≡ 0 → 0 < q → Has (cell t₂ (base + p) (base + q)) x ↔ OccursStep (holds f) j p x q
      from_first z sq =
          let none : cell t₁ (base + p) (base + q) ≡ 0 = rows.old (base + p) (base + q) (omega arith) (λ i. omega arith) ∙ blank p q hp hq in
          by_cell (cell t₂ (base + p) (base + q)) (bit_or (cell t₁ (base + p) (base + q)) (cell t₁ (base + 1) (base + q))) x (first.new (base + p) (base + q) (omega arith))
          (Iff.trans (has_or (cell t₁ (base + p) (base + q)) (cell t₁ (base + 1) (base + q)) x)
          (Iff.trans (drop_none (cell t₁ (base + p) (base + q)) x none)
          (Iff.trans (count_label 1 q x (omega arith) (omega arith) sq hq hx) (rw z (first_as_one (holds f) j x q)))))

      go : (0 < q) ⊎ (q ≤ 0) → (0 < p) ⊎ (p ≤ 0) → Has (cell t₂ (base + p) (base + q)) x ↔ OccursStep (holds f) j p x q
      go (inr z) k =
          by_none (cell t₂ (base + p) (base + q)) x
          (first.old (base + p) (base + q) (omega arith) (λ i. omega arith) ∙ rows.old (base + p) (base + q) (omega arith) (λ i. omega arith) ∙ blank p q hp hq)
          (enters_none (holds f) j x p q (omega arith))
      go (inl sq) (inl sp) =
          by_cell (cell t₂ (base + p) (base + q)) (cell t₁ (base + p) (base + q)) x (first.old (base + p) (base + q) (omega arith) (λ i. omega arith)) (count_label p q x sp hp sq hq hx)
      go (inl sq) (inr z) = from_first (omega arith) sq

  occurs_built : (i : ℕ) → Built t t₂ base (occurs i j f)
  unfolding auto
  occurs_built i = record {
    block = record { label = label };
    others = λ p q h out. first.old p q h (λ i. out (omega arith)) ∙ rows.old p q h (λ i. out (omega arith));
  }

pub tally_of : (t t₁ t₂ : List ℕ) (base j hit : ℕ) → base + (j + 2) ≤ table_states
    → Put t t₁ (base + 1) (base + 1 + j + 1) (base + 1) (base + 1 + j + 1) (tallied t hit (2 ^ letter_count - 1 - hit))
    → Put t₁ t₂ base (base + 1) (base + 1) (base + 1 + j + 1) (λ r s. bit_or (cell t₁ r s) (cell t₁ (base + 1) s)) → TallyOf hit j t t₂ base
tally_of t t₁ t₂ base j hit room rows first = record {
  tally = λ i f clean is.
      let e : base + 1 + j + 1 ≡ base + (j + 2) = omega arith in
      occurs_built t t₁ t₂ base j hit f clean room is (rw e at rows) (rw e at first) i;
}

-- ---- the stores

module _ (t t₁ t₂ : List ℕ) (p hi hit miss lo : ℕ) (l : lo ≤ p) (h : p < hi) (s : hi ≤ table_states) where
  -- both labels, and the one where there is no next state
  pub both_stored : p + 1 < hi → Put t t₁ p (p + 1) p (p + 1) (λ a b. miss) → Put t₁ t₂ p (p + 1) (p + 1) (p + 1 + 1) (λ a b. hit) → Put t t₂ p (p + 1) lo hi (tallied t hit miss)
  both_stored n x y = record {
    new = λ a b i. go a b i (ℕ_discrete b a) (ℕ_discrete b (a + 1));
    old = λ a b m out. y.old a b m (λ i. out (omega arith)) ∙ x.old a b m (λ i. out (omega arith));
  }
    where
      go : (a b : ℕ) → In p (p + 1) lo hi a b → Dec (b ≡ a) → Dec (b ≡ a + 1) → cell t₂ a b ≡ tallied t hit miss a b
      go a b i (yes e) d = y.old a b (omega arith) (λ k. omega arith) ∙ x.new a b (omega arith) ∙ (let z = tallied_stay t hit miss a b e in cc)
      go a b i (no u) (yes e) = y.new a b (omega arith) ∙ (let z = tallied_rise t hit miss a b e in cc)
      go a b i (no u) (no v) =
          y.old a b (omega arith) (λ k. v (omega arith)) ∙ x.old a b (omega arith) (λ k. u (omega arith)) ∙ (let z = tallied_none t hit miss a b u v in cc)

  pub one_stored : hi ≤ p + 1 → Put t t₁ p (p + 1) p (p + 1) (λ a b. miss) → Put t t₁ p (p + 1) lo hi (tallied t hit miss)
  one_stored n x = record {
    new = λ a b i. go a b i (ℕ_discrete b a);
    old = λ a b m out. x.old a b m (λ i. out (omega arith));
  }
    where
      go : (a b : ℕ) → In p (p + 1) lo hi a b → Dec (b ≡ a) → cell t₁ a b ≡ tallied t hit miss a b
      go a b i (yes e) = x.new a b (omega arith) ∙ (let z = tallied_stay t hit miss a b e in cc)
      go a b i (no u) = x.old a b (omega arith) (λ k. u (omega arith)) ∙ (let z = tallied_none t hit miss a b u (λ e. omega arith) in cc)

-- a row that is not changed yet is tallied as it was
pub tallied_same : (t u : List ℕ) (hit miss p q : ℕ) → cell t p q ≡ cell u p q → tallied t hit miss p q ≡ tallied u hit miss p q
unfolding tallied
tallied_same t u hit miss p q e = rw e
