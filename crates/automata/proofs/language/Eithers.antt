-- `|`. Assumes nothing.
use Prim.Native.Nat.{ℕ, ◌+◌, ◌<◌}
use native.Mathlib.Omega.{arith}
use mathlib.Core.Path.{◌≡◌, refl}
use mathlib.Core.Logic.{◌⊎◌, inl, inr, ◌↔◌}
use mathlib.Core.List.{List, [], ◌∷◌}
use Rattle.automata.specs.Auto.{Auto}
use Rattle.automata.specs.Build.{Up, UpF, EitherStep, EitherFinal, either_a}
use Rattle.automata.proofs.language.Lang.{Acc, Edge, Good, up_edge, copy_in, copy_out}

module _ (A B : Auto) (gA : Good A) (gB : Good B) where
  either_edge : (p x q : ℕ) → EitherStep A B p x q → Edge (1 + A.size + B.size) p q
  either_edge p x q (EitherStep.a's s) = let d = up_edge 1 A.size A.step gA.edge p x q s in omega arith
  either_edge p x q (EitherStep.b's s) = up_edge (1 + A.size) B.size B.step gB.edge p x q s
  either_edge p x q (EitherStep.from_a j e e' s) = let d = gA.edge 0 x j s in omega arith
  either_edge p x q (EitherStep.from_b j e e' s) = let d = gB.edge 0 x j s in omega arith

  either_fin : (q : ℕ) → EitherFinal A B q → q < 1 + A.size + B.size
  either_fin q (EitherFinal.a's (UpF.up j e f)) = omega (arith, gA.fin j f)
  either_fin q (EitherFinal.b's (UpF.up j e f)) = omega (arith, gB.fin j f)
  either_fin q (EitherFinal.new e f) = omega arith

  pub good_either : Good (either_a A B)
  good_either = record { pos = omega arith; edge = either_edge; fin = either_fin }

  -- the regions of the table: the rows of a's copy, of b's, and of the new 0
  ra : (i x q : ℕ) → i < A.size → EitherStep A B (1 + i) x q → (j : ℕ) × (q ≡ 1 + j) × A.step i x j
  ra i x q l (EitherStep.a's (Up.up k j e e' s)) = let d : k ≡ i = omega arith in (j, e', rw d at s)
  ra i x q l (EitherStep.b's (Up.up k j e e' s)) = absurd (omega arith)
  ra i x q l (EitherStep.from_a j e e' s) = absurd (omega arith)
  ra i x q l (EitherStep.from_b j e e' s) = absurd (omega arith)

  pub either_a_lem : (i x q : ℕ) → i < A.size → EitherStep A B (1 + i) x q ↔ ((j : ℕ) × (q ≡ 1 + j) × A.step i x j)
  either_a_lem i x q l = (ra i x q l, λ h. EitherStep.a's (Up.up i h.0 refl h.1 h.2))

  rb : (i x q : ℕ) → EitherStep A B (1 + A.size + i) x q → (j : ℕ) × (q ≡ 1 + A.size + j) × B.step i x j
  rb i x q (EitherStep.a's (Up.up k j e e' s)) = let d = gA.edge k x j s in absurd (omega arith)
  rb i x q (EitherStep.b's (Up.up k j e e' s)) = let d : k ≡ i = omega arith in (j, e', rw d at s)
  rb i x q (EitherStep.from_a j e e' s) = absurd (omega arith)
  rb i x q (EitherStep.from_b j e e' s) = absurd (omega arith)

  pub either_b : (i x q : ℕ) → EitherStep A B (1 + A.size + i) x q ↔ ((j : ℕ) × (q ≡ 1 + A.size + j) × B.step i x j)
  either_b i x q = (rb i x q, λ h. EitherStep.b's (Up.up i h.0 refl h.1 h.2))

  abbrev FromZero : ℕ → ℕ → Type 0
  FromZero x q = ((j : ℕ) × (q ≡ 1 + j) × A.step 0 x j) ⊎ ((j : ℕ) × (q ≡ 1 + A.size + j) × B.step 0 x j)

  r0 : (x q : ℕ) → EitherStep A B 0 x q → FromZero x q
  r0 x q (EitherStep.a's (Up.up k j e e' s)) = absurd (omega arith)
  r0 x q (EitherStep.b's (Up.up k j e e' s)) = absurd (omega arith)
  r0 x q (EitherStep.from_a j e e' s) = inl (j, e', s)
  r0 x q (EitherStep.from_b j e e' s) = inr (j, e', s)

  fa : (i : ℕ) → i < A.size → EitherFinal A B (1 + i) → A.final i
  fa i l (EitherFinal.a's (UpF.up j e f)) = let d : j ≡ i = omega arith in rw d at f
  fa i l (EitherFinal.b's (UpF.up j e f)) = absurd (omega arith)
  fa i l (EitherFinal.new e f) = absurd (omega arith)

  pub either_final_a : (i : ℕ) → i < A.size → EitherFinal A B (1 + i) ↔ A.final i
  either_final_a i l = (fa i l, λ f. EitherFinal.a's (UpF.up i refl f))

  fb : (i : ℕ) → EitherFinal A B (1 + A.size + i) → B.final i
  fb i (EitherFinal.a's (UpF.up j e f)) = absurd (omega (arith, gA.fin j f))
  fb i (EitherFinal.b's (UpF.up j e f)) = let d : j ≡ i = omega arith in rw d at f
  fb i (EitherFinal.new e f) = absurd (omega arith)

  pub either_final_b : (i : ℕ) → EitherFinal A B (1 + A.size + i) ↔ B.final i
  either_final_b i = (fb i, λ f. EitherFinal.b's (UpF.up i refl f))

  f0 : EitherFinal A B 0 → A.final 0 ⊎ B.final 0
  f0 (EitherFinal.a's (UpF.up j e f)) = absurd (omega arith)
  f0 (EitherFinal.b's (UpF.up j e f)) = absurd (omega arith)
  f0 (EitherFinal.new e f) = f

  -- the new state 0
  split : (w : List ℕ) → Acc (either_a A B) 0 w → Acc A 0 w ⊎ Acc B 0 w
  split [] f = f0 f
  split (x ∷ w) (q, s, a) = go (r0 x q s)
    where
      go : FromZero x q → Acc A 0 (x ∷ w) ⊎ Acc B 0 (x ∷ w)
      go (inl (j, e, t)) = inl (j, t, copy_out A (either_a A B) gA 1 either_final_a either_a_lem j (gA.edge 0 x j t).hi w (rw e at a))
      go (inr (j, e, t)) = inr (j, t, copy_out B (either_a A B) gB (1 + A.size) (λ i h. either_final_b i) (λ i y r h. either_b i y r) j (gB.edge 0 x j t).hi w (rw e at a))

  unite : (w : List ℕ) → Acc A 0 w ⊎ Acc B 0 w → Acc (either_a A B) 0 w
  unite [] f = EitherFinal.new refl f
  unite (x ∷ w) (inl (j, s, a)) = (1 + j, EitherStep.from_a j refl refl s, copy_in A (either_a A B) gA 1 either_final_a either_a_lem j (gA.edge 0 x j s).hi w a)
  unite (x ∷ w) (inr (j, s, b)) =
      (1 + A.size + j, EitherStep.from_b j refl refl s, copy_in B (either_a A B) gB (1 + A.size) (λ i h. either_final_b i) (λ i y r h. either_b i y r) j (gB.edge 0 x j s).hi w b)

  pub either_lang : (w : List ℕ) → Acc (either_a A B) 0 w ↔ (Acc A 0 w ⊎ Acc B 0 w)
  either_lang w = (split w, unite w)
