-- `&&`. Assumes nothing.
use Prim.Native.Nat.{ℕ, ◌+◌, ◌*◌, ◌/◌, ◌%◌, ◌<◌}
use native.Mathlib.Nat.{mul-add-div_right, mul-add-mod_self_right, mod-eq_of_lt, div-eq_of_lt, mul-le-mul_right, suc-mul, mul-pos, add-zero}
use native.Mathlib.Omega.{arith}
use mathlib.Core.Path.{◌≡◌, refl, sym, ap, ◌∙◌}
use mathlib.Core.Logic.{◌↔◌}
use mathlib.Core.List.{List, [], ◌∷◌}
use Rattle.automata.specs.Auto.{Auto}
use Rattle.automata.specs.Build.{BothStep, BothFinal, both_a}
use Rattle.automata.proofs.language.Lang.{Acc, Edge, Good}

-- i·n+j with j < n gives i and j back
pub pair_fst : (n i j : ℕ) → j < n → (i * n + j) / n ≡ i
pair_fst n i j l = mul-add-div_right (omega arith) i j ∙ rw (div-eq_of_lt l) (add-zero i)

pub pair_snd : (n i j : ℕ) → j < n → (i * n + j) % n ≡ j
pair_snd n i j l = mul-add-mod_self_right i n j ∙ mod-eq_of_lt l

pub pair_lt : (m n i j : ℕ) → i < m → j < n → i * n + j < m * n
pair_lt m n i j l k = omega (arith, mul-le-mul_right n l, suc-mul i n)

pub pair_inj : (n i j k l p : ℕ) → j < n → l < n → p ≡ i * n + j → p ≡ k * n + l → (k ≡ i) × (l ≡ j)
pair_inj n i j k l p h g e d = (
  sym (pair_fst n k l g) ∙ ap (λ t. t / n) (sym d ∙ e) ∙ pair_fst n i j h,
  sym (pair_snd n k l g) ∙ ap (λ t. t % n) (sym d ∙ e) ∙ pair_snd n i j h,
)

module _ (A B : Auto) (gA : Good A) (gB : Good B) where
  both_edge : (p x q : ℕ) → BothStep A B p x q → Edge (A.size * B.size) p q
  both_edge p x q (BothStep.pair i j k l e e' s t) =
      let a = gA.edge i x k s in let b = gB.edge j x l t in
      let c = pair_lt A.size B.size i j a.lo b.lo in let d = pair_lt A.size B.size k l a.hi b.hi in omega arith

  both_fin : (q : ℕ) → BothFinal A B q → q < A.size * B.size
  both_fin q (BothFinal.pair i j e f g) = omega (arith, pair_lt A.size B.size i j (gA.fin i f) (gB.fin j g))

  pub good_both : Good (both_a A B)
  good_both = record { pos = mul-pos gA.pos gB.pos; edge = both_edge; fin = both_fin }

  -- the label of a pair of pairs
  lab : (i j k l x : ℕ) → j < B.size → l < B.size → BothStep A B (i * B.size + j) x (k * B.size + l) → A.step i x k × B.step j x l
  lab i j k l x h g (BothStep.pair i' j' k' l' e₁ e₂ s t) =
      let b = gB.edge j' x l' t in
      let d = pair_inj B.size i j i' j' (i * B.size + j) h b.lo refl e₁ in
      let c = pair_inj B.size k l k' l' (k * B.size + l) g b.hi refl e₂ in
      (rw (d.0, c.0) at s, rw (d.1, c.1) at t)

  pub both_label : (i j k l x : ℕ) → j < B.size → l < B.size
      → BothStep A B (i * B.size + j) x (k * B.size + l) ↔ (A.step i x k × B.step j x l)
  both_label i j k l x h g = (lab i j k l x h g, λ s. BothStep.pair i j k l refl refl s.0 s.1)

  into : (i j p : ℕ) → p ≡ i * B.size + j → (w : List ℕ) → Acc A i w → Acc B j w → Acc (both_a A B) p w
  into i j p e [] f g = BothFinal.pair i j e f g
  into i j p e (x ∷ w) (k, s, a) (l, t, b) =
      (k * B.size + l, BothStep.pair i j k l e refl s t, into k l (k * B.size + l) refl w a b)

  back : (i j p : ℕ) → j < B.size → p ≡ i * B.size + j → (w : List ℕ) → Acc (both_a A B) p w → Acc A i w × Acc B j w
  back i j p h e [] (BothFinal.pair k l e' f g) =
      let d = pair_inj B.size i j k l p h (gB.fin l g) e e' in (rw d.0 at f, rw d.1 at g)
  back i j p h e (x ∷ w) (q, BothStep.pair k l k' l' e₁ e₂ s t, c) =
      let g = gB.edge l x l' t in
      let d = pair_inj B.size i j k l p h g.lo e e₁ in
      let r = back k' l' q g.hi e₂ w c in
      ((k', rw d.0 at s, r.0), (l', rw d.1 at t, r.1))

  pub both_lang : (w : List ℕ) → Acc (both_a A B) 0 w ↔ (Acc A 0 w × Acc B 0 w)
  both_lang w = (back 0 0 0 gB.pos (omega arith) w, λ h. into 0 0 0 (omega arith) w h.0 h.1)
