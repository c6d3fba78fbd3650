-- `;` and `:`: what leads across stands in the rectangle right of a and above b. Assumes nothing.
use Prim.Native.Nat.{ℕ, ◌+◌, ◌-◌, ◌<◌, ◌≤◌}
use native.Mathlib.Omega.{arith}
use mathlib.Core.Path.{◌≡◌, refl, ◌∙◌}
use mathlib.Core.Logic.Iff
use mathlib.Core.Logic.{◌⊎◌, inl, inr, ◌↔◌}
use mathlib.Core.List.{List}
use Rattle.definitions.specs.declared.kinds.Pair.TheVariants.{Then, Overlap}
use Rattle.definitions.specs.Definition1.{Rule, two}
use Rattle.rules.specs.Weight.{weight_of}
use Rattle.automata.specs.declared.shape.Shape.{Shape}
use Rattle.automata.specs.Table.{table_states, cell}
use Rattle.automata.specs.Build.{auto}
use Rattle.automata.specs.inner.Cells.{In, Put, Clean, linked, overlapped}
use Rattle.automata.specs.inner.Block.{FinalsAt, Block, Built, Beside}
use Rattle.automata.specs.inner.Sets.{Raised}
use Rattle.blocks.specs.inner.Building.{Room, Joins}
use Rattle.automata.proofs.Labels.{Has, has_linked, overlapped_out, overlapped_in}
use Rattle.automata.proofs.language.Thens.{then_aa, then_ab, then_bb}
use Rattle.automata.proofs.language.Overlaps.{overlap_aa, overlap_ab, overlap_bb}
use Rattle.automata.proofs.language.Language.{good, size_weight}
use Rattle.rules.proofs.Weighing.{weight_pos}
use Rattle.automata.proofs.Serving.{step_inside, final_inside}
use Rattle.automata.proofs.FinalSets.{raise_finals}
use Rattle.automata.proofs.Places.{split, by_cell, by_none, drop_none, block_at, drop_sum, final_at, blank}
use Rattle.definitions.specs.Definition2.{letter_count}

module _ (t t₂ t₃ : List ℕ) (base : ℕ) (a b : Rule) (g : ℕ → ℕ → ℕ) (room : base + weight_of a + weight_of b ≤ table_states) (clean : Clean t base) (s : Beside t t₂ base a b)
    (put : Put t₂ t₃ base (base + weight_of a) (base + weight_of a) (base + weight_of a + weight_of b) g) (S : ℕ → ℕ → ℕ → Type 0)
    (aa : (p x q : ℕ) → q < weight_of a → S p x q ↔ (auto a).step p x q)
    (bb : (p x q i j : ℕ) → p ≡ weight_of a + i → q ≡ weight_of a + j → S p x q ↔ (auto b).step i x j)
    (ab : (p x q j : ℕ) → p < weight_of a → q ≡ weight_of a + j → j < weight_of b → x < letter_count → Has (g (base + p) (base + q)) x ↔ S p x q) where
  across : (p q x : ℕ) → p < weight_of a + weight_of b → q < weight_of a + weight_of b → x < letter_count → Has (cell t₃ (base + p) (base + q)) x ↔ S p x q
  across p q x hp hq hx = go (split p (weight_of a) (weight_of b) hp) (split q (weight_of a) (weight_of b) hq)
    where
      go : (p < weight_of a) ⊎ ((i : ℕ) × (p ≡ weight_of a + i) × (i < weight_of b)) → (q < weight_of a) ⊎ ((j : ℕ) × (q ≡ weight_of a + j) × (j < weight_of b))
          → Has (cell t₃ (base + p) (base + q)) x ↔ S p x q
      go (inl lp) (inl lq) =
          by_cell (cell t₃ (base + p) (base + q)) (cell t₂ (base + p) (base + q)) x (put.old (base + p) (base + q) (omega arith) (λ i. omega arith))
          (Iff.trans (s.a_block.label p q x lp lq hx) (Iff.symm (aa p x q lq)))
      go (inl lp) (inr (j, e, lj)) =
          by_cell (cell t₃ (base + p) (base + q)) (g (base + p) (base + q)) x (put.new (base + p) (base + q) (omega arith)) (ab p x q j lp e lj hx)
      go (inr (i, d, li)) (inl lq) =
          by_none (cell t₃ (base + p) (base + q)) x
          (put.old (base + p) (base + q) (omega arith) (λ i. omega arith)
          ∙ blank t t₂ base base a b clean s (base + p) (base + q) (omega arith) (omega arith) (omega arith) (omega arith) (λ i. omega arith) (λ i. omega arith))
          (λ k. let z = (step_inside a p x q ((aa p x q lq).0 k)).lo in omega arith)
      go (inr (i, d, li)) (inr (j, e, lj)) =
          by_cell (cell t₃ (base + p) (base + q)) (cell t₂ (base + p) (base + q)) x (put.old (base + p) (base + q) (omega arith) (λ i. omega arith))
          (Iff.trans (block_at t₂ (base + weight_of a) b s.b_block (base + p) (base + q) i j x (omega arith) (omega arith) li lj hx) (Iff.symm (bb p x q i j d e)))

  across_others : (p q : ℕ) → q < table_states
      → (In base (base + (weight_of a + weight_of b)) base (base + (weight_of a + weight_of b)) p q → ⊥) → cell t₃ p q ≡ cell t p q
  across_others p q h out = put.old p q h (λ i. out (omega arith)) ∙ s.others p q h (λ i. out (omega arith)) (λ i. out (omega arith))

-- what leads across is what leaves b's first state, from a final state of a
module _ (a b : Rule) where
  then_aa_step : (p x q : ℕ) → q < weight_of a → (auto (two Then a b)).step p x q ↔ (auto a).step p x q
  unfolding auto
  then_aa_step p x q l = then_aa (auto a) (auto b) (good a) (good b) p x q (omega (arith, size_weight a))

  then_bb_step : (p x q i j : ℕ) → p ≡ weight_of a + i → q ≡ weight_of a + j → (auto (two Then a b)).step p x q ↔ (auto b).step i x j
  unfolding auto
  then_bb_step p x q i j d e =
      let d' : p ≡ (auto a).size + i = omega (arith, size_weight a) in let e' : q ≡ (auto a).size + j = omega (arith, size_weight a) in
      Iff.trans (rw d' (then_bb (auto a) (auto b) (good a) (good b) i x q)) (drop_sum {P = λ k. (auto b).step i x k} (auto a).size j q e')

  then_ab_step : (p x q j : ℕ) → p < weight_of a → q ≡ weight_of a + j → (auto (two Then a b)).step p x q ↔ ((auto a).final p × (auto b).step 0 x j)
  unfolding auto
  then_ab_step p x q j l e =
      let e' : q ≡ (auto a).size + j = omega (arith, size_weight a) in
      rw e' (then_ab (auto a) (auto b) (good a) (good b) p x j (omega (arith, size_weight a)))

  overlap_aa_step : (p x q : ℕ) → q < weight_of a → (auto (two Overlap a b)).step p x q ↔ (auto a).step p x q
  unfolding auto
  overlap_aa_step p x q l = overlap_aa (auto a) (auto b) (good a) (good b) p x q (omega (arith, size_weight a))

  overlap_bb_step : (p x q i j : ℕ) → p ≡ weight_of a + i → q ≡ weight_of a + j → (auto (two Overlap a b)).step p x q ↔ (auto b).step i x j
  unfolding auto
  overlap_bb_step p x q i j d e =
      let d' : p ≡ (auto a).size + i = omega (arith, size_weight a) in let e' : q ≡ (auto a).size + j = omega (arith, size_weight a) in
      Iff.trans (rw d' (overlap_bb (auto a) (auto b) (good a) (good b) i x q)) (drop_sum {P = λ k. (auto b).step i x k} (auto a).size j q e')

  overlap_ab_step : (p x q j : ℕ) → p < weight_of a → q ≡ weight_of a + j
      → (auto (two Overlap a b)).step p x q ↔ ((f : ℕ) × (auto a).step p x f × (auto a).final f × (auto b).step 0 x j)
  unfolding auto
  overlap_ab_step p x q j l e =
      let e' : q ≡ (auto a).size + j = omega (arith, size_weight a) in
      rw e' (overlap_ab (auto a) (auto b) (good a) (good b) p x j (omega (arith, size_weight a)))

module _ (t t₂ t₃ : List ℕ) (base f : ℕ) (a b : Rule) (clean : Clean t base) (room : base + weight_of a + weight_of b ≤ table_states)
    (s : Beside t t₂ base a b) (fa : FinalsAt f base a) where
  -- in the rectangle there was nothing
  above : (p q j : ℕ) → p < weight_of a → q ≡ weight_of a + j → j < weight_of b → cell t₂ (base + p) (base + q) ≡ 0
  above p q j lp e lj = blank t t₂ base base a b clean s (base + p) (base + q) (omega arith) (omega arith) (omega arith) (omega arith) (λ i. omega arith) (λ i. omega arith)

  -- what leaves b's first state
  leaves_b : (q j x : ℕ) → q ≡ weight_of a + j → j < weight_of b → x < letter_count → Has (cell t₂ (base + weight_of a) (base + q)) x ↔ (auto b).step 0 x j
  leaves_b q j x e lj hx =
      block_at t₂ (base + weight_of a) b s.b_block (base + weight_of a) (base + q) 0 j x (omega arith) (omega arith) (omega (arith, weight_pos b)) lj hx

  then_ab_label : (p x q j : ℕ) → p < weight_of a → q ≡ weight_of a + j → j < weight_of b → x < letter_count
      → Has (linked t₂ (base + weight_of a) f (base + p) (base + q)) x ↔ (auto (two Then a b)).step p x q
  then_ab_label p x q j lp e lj hx =
      let c = Iff.trans (has_linked t₂ (base + weight_of a) f (base + p) (base + q) x) (drop_none (cell t₂ (base + p) (base + q)) x (above p q j lp e lj)) in
      let k = final_at f base a fa (base + p) p refl (omega arith) in
      let l = leaves_b q j x e lj hx in
      let z = then_ab_step a b p x q j lp e in
      (λ h. z.1 (k.0 (c.0 h).0, l.0 (c.0 h).1), λ w. c.1 (k.1 (z.0 w).0, l.1 (z.0 w).1))

  then_block : Put t₂ t₃ base (base + weight_of a) (base + weight_of a) (base + weight_of a + weight_of b) (linked t₂ (base + weight_of a) f) → Built t t₃ base (two Then a b)
  then_block put = record {
    block = record { label = across t t₂ t₃ base a b (linked t₂ (base + weight_of a) f) room clean s put (auto (two Then a b)).step (then_aa_step a b) (then_bb_step a b) then_ab_label };
    others = across_others t t₂ t₃ base a b (linked t₂ (base + weight_of a) f) room clean s put (auto (two Then a b)).step (then_aa_step a b) (then_bb_step a b) then_ab_label;
  }

  overlap_out : (p x q j : ℕ) → p < weight_of a → q ≡ weight_of a + j → j < weight_of b → x < letter_count
      → Has (overlapped t₂ f base (base + weight_of a) (weight_of a) (base + p) (base + q)) x → (auto (two Overlap a b)).step p x q
  overlap_out p x q j lp e lj hx h =
      let w = (drop_none (cell t₂ (base + p) (base + q)) x (above p q j lp e lj)).0 (overlapped_out t₂ f base (base + weight_of a) (weight_of a) (base + p) (base + q) x h) in
      let lw = w.inside in
      (overlap_ab_step a b p x q j lp e).1
      (w.by, (s.a_block.label p w.by x lp lw hx).0 w.first, (final_at f base a fa (base + w.by) w.by refl (omega arith)).0 w.ends, (leaves_b q j x e lj hx).0 w.second)

  overlap_in : (p x q j : ℕ) → p < weight_of a → q ≡ weight_of a + j → j < weight_of b → x < letter_count
      → (auto (two Overlap a b)).step p x q → Has (overlapped t₂ f base (base + weight_of a) (weight_of a) (base + p) (base + q)) x
  overlap_in p x q j lp e lj hx k =
      let h = (overlap_ab_step a b p x q j lp e).0 k in
      let l = final_inside a h.0 h.2 in
      overlapped_in t₂ f base (base + weight_of a) (weight_of a) (base + p) (base + q) x
      (inr (record {
        by = h.0;
        inside = l;
        ends = (final_at f base a fa (base + h.0) h.0 refl (omega arith)).1 h.2;
        first = (s.a_block.label p h.0 x lp l hx).1 h.1;
        second = (leaves_b q j x e lj hx).1 h.3;
      }))

  overlap_ab_label : (p x q j : ℕ) → p < weight_of a → q ≡ weight_of a + j → j < weight_of b → x < letter_count
      → Has (overlapped t₂ f base (base + weight_of a) (weight_of a) (base + p) (base + q)) x ↔ (auto (two Overlap a b)).step p x q
  overlap_ab_label p x q j lp e lj hx = (overlap_out p x q j lp e lj hx, overlap_in p x q j lp e lj hx)

  overlap_block : Put t₂ t₃ base (base + weight_of a) (base + weight_of a) (base + weight_of a + weight_of b) (overlapped t₂ f base (base + weight_of a) (weight_of a))
      → Built t t₃ base (two Overlap a b)
  overlap_block put = record {
    block = record { label = across t t₂ t₃ base a b (overlapped t₂ f base (base + weight_of a) (weight_of a)) room clean s put (auto (two Overlap a b)).step (overlap_aa_step a b) (overlap_bb_step a b) overlap_ab_label };
    others = across_others t t₂ t₃ base a b (overlapped t₂ f base (base + weight_of a) (weight_of a)) room clean s put (auto (two Overlap a b)).step (overlap_aa_step a b) (overlap_bb_step a b) overlap_ab_label;
  }

-- a at base to mid, b at mid to hi
module _ (t t₂ t₃ : List ℕ) (base mid hi f : ℕ) (a b : Rule) (clean : Clean t base) (e : mid ≡ base + weight_of a) (d : hi ≡ mid + weight_of b) (room : hi ≤ table_states)
    (s : Beside t t₂ base a b) (fa : FinalsAt f base a) where
  pub then_built : Put t₂ t₃ base mid mid hi (linked t₂ mid f) → Built t t₃ base (two Then a b)
  then_built put = then_block t t₂ t₃ base f a b clean (omega arith) s fa (rw (d, e) at put)

  pub overlap_built : (k : ℕ) → k ≡ weight_of a → Put t₂ t₃ base mid mid hi (overlapped t₂ f base mid k) → Built t t₃ base (two Overlap a b)
  overlap_built k w put = overlap_block t t₂ t₃ base f a b clean (omega arith) s fa (rw (w, d, e) at put)

-- the operators, over operands of the shapes a and b
module _ (a b : Shape) (t t' : List ℕ) (base f : ℕ) (raised : Raised a.finals base f) where
  pub then_joins : Room Then a b t base → Put t t' base (base + a.weight) (base + a.weight) (base + a.weight + b.weight) (linked t (base + a.weight) f) → Joins Then a b t t' base
  then_joins room put = record {
    joined = λ t₀ x y d e clean u v s.
        then_built t₀ t t' base _ _ f x y clean (omega (arith, u.weighs)) (omega (arith, v.weighs)) (omega (arith, room.square)) s (raise_finals raised u.final_set) put;
  }

  pub overlap_joins : Room Overlap a b t base
      → Put t t' base (base + a.weight) (base + a.weight) (base + a.weight + b.weight) (overlapped t f base (base + a.weight) (base + a.weight - base)) → Joins Overlap a b t t' base
  overlap_joins room put = record {
    joined = λ t₀ x y d e clean u v s.
        overlap_built t₀ t t' base _ _ f x y clean (omega (arith, u.weighs)) (omega (arith, v.weighs)) (omega (arith, room.square)) s (raise_finals raised u.final_set)
        (base + a.weight - base) (omega (arith, u.weighs)) put;
  }

-- what stands before the second part is the first alone
pub then_first : (t : List ℕ) (base : ℕ) (a b : Rule) → Block t base (two Then a b) → Block t base a
then_first t base a b k = record { label = λ p q x hp hq hx. Iff.trans (k.label p q x (omega arith) (omega arith) hx) (then_aa_step a b p x q hq) }
