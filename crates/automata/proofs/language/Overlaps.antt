-- `:`. Assumes nothing.
use Prim.Native.Nat.{ℕ, ◌+◌, ◌<◌}
use native.Mathlib.Omega.{arith}
use mathlib.Core.Path.{◌≡◌, refl, ap}
use mathlib.Core.Logic.{◌↔◌}
use mathlib.Core.List.{List, [], ◌∷◌, ◌++◌}
use Rattle.definitions.specs.Definition2.{Overlaps}
use Rattle.automata.specs.Auto.{Auto}
use Rattle.automata.specs.Build.{Up, UpF, OverlapStep, overlap_a}
use Rattle.automata.proofs.language.Lang.{Acc, Edge, Good, up_edge, copy_in, copy_out}

module _ (A B : Auto) (gA : Good A) (gB : Good B) where
  overlap_edge : (p x q : ℕ) → OverlapStep A B p x q → Edge (A.size + B.size) p q
  overlap_edge p x q (OverlapStep.a's s) = let d = gA.edge p x q s in omega arith
  overlap_edge p x q (OverlapStep.b's s) = up_edge A.size B.size B.step gB.edge p x q s
  overlap_edge p x q (OverlapStep.cross f j e s n t) = let d = gA.edge p x f s in let c = gB.edge 0 x j t in omega arith

  overlap_fin : (q : ℕ) → UpF A.size B.final q → q < A.size + B.size
  overlap_fin q (UpF.up j e f) = omega (arith, gB.fin j f)

  pub good_overlap : Good (overlap_a A B)
  good_overlap = record { pos = omega (arith, gA.pos); edge = overlap_edge; fin = overlap_fin }

  -- the regions of the table
  bb : (i x q : ℕ) → OverlapStep A B (A.size + i) x q → (j : ℕ) × (q ≡ A.size + j) × B.step i x j
  bb i x q (OverlapStep.a's s) = let d = gA.edge (A.size + i) x q s in absurd (omega arith)
  bb i x q (OverlapStep.b's (Up.up k j e₁ e₂ s)) = let d : k ≡ i = omega arith in (j, e₂, rw d at s)
  bb i x q (OverlapStep.cross f j e s n t) = let d = gA.edge (A.size + i) x f s in absurd (omega arith)

  pub overlap_bb : (i x q : ℕ) → OverlapStep A B (A.size + i) x q ↔ ((j : ℕ) × (q ≡ A.size + j) × B.step i x j)
  overlap_bb i x q = (bb i x q, λ h. OverlapStep.b's (Up.up i h.0 refl h.1 h.2))

  aa : (p x q : ℕ) → q < A.size → OverlapStep A B p x q → A.step p x q
  aa p x q l (OverlapStep.a's s) = s
  aa p x q l (OverlapStep.b's (Up.up k j e₁ e₂ s)) = absurd (omega arith)
  aa p x q l (OverlapStep.cross f j e s n t) = absurd (omega arith)

  pub overlap_aa : (p x q : ℕ) → q < A.size → OverlapStep A B p x q ↔ A.step p x q
  overlap_aa p x q l = (aa p x q l, OverlapStep.a's)

  ab : (p x j : ℕ) → p < A.size → OverlapStep A B p x (A.size + j) → (f : ℕ) × A.step p x f × A.final f × B.step 0 x j
  ab p x j l (OverlapStep.a's s) = let d = gA.edge p x (A.size + j) s in absurd (omega arith)
  ab p x j l (OverlapStep.b's (Up.up k i e₁ e₂ s)) = absurd (omega arith)
  ab p x j l (OverlapStep.cross f i e s n t) = let d : i ≡ j = omega arith in (f, s, n, rw d at t)

  pub overlap_ab : (p x j : ℕ) → p < A.size → OverlapStep A B p x (A.size + j) ↔ ((f : ℕ) × A.step p x f × A.final f × B.step 0 x j)
  overlap_ab p x j l = (ab p x j l, λ h. OverlapStep.cross h.0 j refl h.1 h.2 h.3)

  fb : (i : ℕ) → UpF A.size B.final (A.size + i) → B.final i
  fb i (UpF.up j e f) = let d : j ≡ i = omega arith in rw d at f

  pub overlap_final_b : (i : ℕ) → UpF A.size B.final (A.size + i) ↔ B.final i
  overlap_final_b i = (fb i, λ f. UpF.up i refl f)

  -- a state of a: what a accepts there, then what b does, with a letter in common
  cut : (p : ℕ) → p < A.size → (w : List ℕ) → Acc (overlap_a A B) p w → Overlaps (Acc A p) (Acc B 0) w
  cut p l [] (UpF.up j e f) = absurd (omega arith)
  cut p l (x ∷ w) (q, OverlapStep.a's s, a) =
      let h = cut q (gA.edge p x q s).hi w a in
      record { w1 = x ∷ h.w1; x = h.x; w2 = h.w2; whole = ap (λ t. x ∷ t) h.whole; first = (q, s, h.first); second = h.second }
  cut p l (x ∷ w) (q, OverlapStep.b's (Up.up i j e e' s), a) = absurd (omega arith)
  cut p l (x ∷ w) (q, OverlapStep.cross f j e s n t, a) =
      record {
        w1 = [];
        x = x;
        w2 = w;
        whole = refl;
        first = (f, s, n);
        second = (j, t, copy_out B (overlap_a A B) gB A.size (λ i h. overlap_final_b i) (λ i y r h. overlap_bb i y r) j (gB.edge 0 x j t).hi w (rw e at a));
      }

  join : (p : ℕ) (u : List ℕ) (x : ℕ) (v : List ℕ) → Acc A p (u ++ (x ∷ [])) → Acc B 0 (x ∷ v) → Acc (overlap_a A B) p (u ++ (x ∷ v))
  join p [] x v (f, s, n) (j, t, b) =
      (A.size + j, OverlapStep.cross f j refl s n t, copy_in B (overlap_a A B) gB A.size (λ i h. overlap_final_b i) (λ i y r h. overlap_bb i y r) j (gB.edge 0 x j t).hi v b)
  join p (y ∷ u) x v (q, s, a) b = (q, OverlapStep.a's s, join q u x v a b)

  pub overlap_lang : (w : List ℕ) → Acc (overlap_a A B) 0 w ↔ Overlaps (Acc A 0) (Acc B 0) w
  overlap_lang w = (cut 0 gA.pos w, λ h. rw h.whole (join 0 h.w1 h.x h.w2 h.first h.second))
