-- `;`. Assumes nothing.
use Prim.Native.Nat.{ℕ, ◌+◌, ◌<◌}
use native.Mathlib.Omega.{arith}
use mathlib.Core.Path.{◌≡◌, refl, ap}
use mathlib.Core.Logic.{◌↔◌}
use mathlib.Core.List.{List, [], ◌∷◌, ◌++◌}
use Rattle.definitions.specs.Definition2.{Parts}
use Rattle.automata.specs.Auto.{Auto}
use Rattle.automata.specs.Build.{Up, UpF, ThenStep, ThenFinal, then_a}
use Rattle.automata.proofs.language.Lang.{Acc, Edge, Good, up_edge, copy_in, copy_out}

module _ (A B : Auto) (gA : Good A) (gB : Good B) where
  then_edge : (p x q : ℕ) → ThenStep A B p x q → Edge (A.size + B.size) p q
  then_edge p x q (ThenStep.a's s) = let d = gA.edge p x q s in omega arith
  then_edge p x q (ThenStep.b's s) = up_edge A.size B.size B.step gB.edge p x q s
  then_edge p x q (ThenStep.cross j e f s) = let d = gB.edge 0 x j s in omega (arith, gA.fin p f)

  then_fin : (q : ℕ) → ThenFinal A B q → q < A.size + B.size
  then_fin q (ThenFinal.b's (UpF.up j e f)) = omega (arith, gB.fin j f)
  then_fin q (ThenFinal.a's f g) = omega (arith, gA.fin q f)

  pub good_then : Good (then_a A B)
  good_then = record { pos = omega (arith, gA.pos); edge = then_edge; fin = then_fin }

  -- the regions of the table
  bb : (i x q : ℕ) → ThenStep A B (A.size + i) x q → (j : ℕ) × (q ≡ A.size + j) × B.step i x j
  bb i x q (ThenStep.a's s) = let d = gA.edge (A.size + i) x q s in absurd (omega arith)
  bb i x q (ThenStep.b's (Up.up k j e₁ e₂ s)) = let d : k ≡ i = omega arith in (j, e₂, rw d at s)
  bb i x q (ThenStep.cross j e f s) = absurd (omega (arith, gA.fin (A.size + i) f))

  pub then_bb : (i x q : ℕ) → ThenStep A B (A.size + i) x q ↔ ((j : ℕ) × (q ≡ A.size + j) × B.step i x j)
  then_bb i x q = (bb i x q, λ h. ThenStep.b's (Up.up i h.0 refl h.1 h.2))

  aa : (p x q : ℕ) → q < A.size → ThenStep A B p x q → A.step p x q
  aa p x q l (ThenStep.a's s) = s
  aa p x q l (ThenStep.b's (Up.up k j e₁ e₂ s)) = absurd (omega arith)
  aa p x q l (ThenStep.cross j e f s) = absurd (omega arith)

  pub then_aa : (p x q : ℕ) → q < A.size → ThenStep A B p x q ↔ A.step p x q
  then_aa p x q l = (aa p x q l, ThenStep.a's)

  ab : (p x j : ℕ) → p < A.size → ThenStep A B p x (A.size + j) → A.final p × B.step 0 x j
  ab p x j l (ThenStep.a's s) = let d = gA.edge p x (A.size + j) s in absurd (omega arith)
  ab p x j l (ThenStep.b's (Up.up k i e₁ e₂ s)) = absurd (omega arith)
  ab p x j l (ThenStep.cross i e f s) = let d : i ≡ j = omega arith in (f, rw d at s)

  pub then_ab : (p x j : ℕ) → p < A.size → ThenStep A B p x (A.size + j) ↔ (A.final p × B.step 0 x j)
  then_ab p x j l = (ab p x j l, λ h. ThenStep.cross j refl h.0 h.1)

  fb : (i : ℕ) → ThenFinal A B (A.size + i) → B.final i
  fb i (ThenFinal.b's (UpF.up j e f)) = let d : j ≡ i = omega arith in rw d at f
  fb i (ThenFinal.a's f g) = absurd (omega (arith, gA.fin (A.size + i) f))

  pub then_final_b : (i : ℕ) → ThenFinal A B (A.size + i) ↔ B.final i
  then_final_b i = (fb i, λ f. ThenFinal.b's (UpF.up i refl f))

  fa : (q : ℕ) → q < A.size → ThenFinal A B q → A.final q × B.final 0
  fa q l (ThenFinal.b's (UpF.up j e f)) = absurd (omega arith)
  fa q l (ThenFinal.a's f g) = (f, g)

  -- a state of a: what a accepts there, then what b does
  cut : (p : ℕ) → p < A.size → (w : List ℕ) → Acc (then_a A B) p w → Parts (Acc A p) (Acc B 0) w
  cut p l [] f = let h = fa p l f in record { w1 = []; w2 = []; whole = refl; first = h.0; second = h.1 }
  cut p l (x ∷ w) (q, ThenStep.a's s, a) =
      let h = cut q (gA.edge p x q s).hi w a in
      record { w1 = x ∷ h.w1; w2 = h.w2; whole = ap (λ t. x ∷ t) h.whole; first = (q, s, h.first); second = h.second }
  cut p l (x ∷ w) (q, ThenStep.b's (Up.up i j e e' s), a) = absurd (omega arith)
  cut p l (x ∷ w) (q, ThenStep.cross j e f s, a) =
      record {
        w1 = [];
        w2 = x ∷ w;
        whole = refl;
        first = f;
        second = (j, s, copy_out B (then_a A B) gB A.size (λ i h. then_final_b i) (λ i y r h. then_bb i y r) j (gB.edge 0 x j s).hi w (rw e at a));
      }

  join : (p : ℕ) (u v : List ℕ) → Acc A p u → Acc B 0 v → Acc (then_a A B) p (u ++ v)
  join p [] [] f g = ThenFinal.a's f g
  join p [] (x ∷ v) f (j, s, b) =
      (A.size + j, ThenStep.cross j refl f s, copy_in B (then_a A B) gB A.size (λ i h. then_final_b i) (λ i y r h. then_bb i y r) j (gB.edge 0 x j s).hi v b)
  join p (x ∷ u) v (q, s, a) b = (q, ThenStep.a's s, join q u v a b)

  pub then_lang : (w : List ℕ) → Acc (then_a A B) 0 w ↔ Parts (Acc A 0) (Acc B 0) w
  then_lang w = (cut 0 gA.pos w, λ h. rw h.whole (join 0 h.w1 h.w2 h.first h.second))
