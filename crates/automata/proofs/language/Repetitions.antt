-- `[*]`, `[+]`. Assumes nothing.
use Prim.Native.Nat.{ℕ, ◌<◌}
use native.Mathlib.Omega.{arith}
use mathlib.Core.Path.{◌≡◌, refl, ap}
use mathlib.Core.Logic.{◌⊎◌, inl, inr, ◌≢◌, ◌↔◌}
use mathlib.Core.List.{List, [], ◌∷◌, ◌++◌, cons≢nil}
use Rattle.definitions.specs.Definition2.{Parts, Repeats, none, more}
use Rattle.automata.specs.Auto.{Auto}
use Rattle.automata.specs.Build.{PlusStep, plus_a, opt_a, star_a}
use Rattle.automata.proofs.language.Lang.{Acc, Edge, Good}

-- 0 is final too, and nothing enters it: the empty sequence is accepted too, and no other
module _ (C : Auto) (gC : Good C) where
  opt_fin : (q : ℕ) → C.final q ⊎ (q ≡ 0) → q < C.size
  opt_fin q (inl f) = gC.fin q f
  opt_fin q (inr e) = omega (arith, gC.pos)

  pub good_opt : Good (opt_a C)
  good_opt = record { pos = gC.pos; edge = gC.edge; fin = opt_fin }

  off_0 : (q : ℕ) → 0 < q → C.final q ⊎ (q ≡ 0) → C.final q
  off_0 q l (inl f) = f
  off_0 q l (inr e) = absurd (omega arith)

  drop_opt : (q : ℕ) → 0 < q → (w : List ℕ) → Acc (opt_a C) q w → Acc C q w
  drop_opt q l [] f = off_0 q l f
  drop_opt q l (x ∷ w) (r, s, a) = (r, s, drop_opt r (gC.edge q x r s).no0 w a)

  add_opt : (q : ℕ) (w : List ℕ) → Acc C q w → Acc (opt_a C) q w
  add_opt q [] f = inl f
  add_opt q (x ∷ w) (r, s, a) = (r, s, add_opt r w a)

  opt_out : (w : List ℕ) → Acc (opt_a C) 0 w → (w ≡ []) ⊎ Acc C 0 w
  opt_out [] f = inl refl
  opt_out (x ∷ w) (q, s, a) = inr (q, s, drop_opt q (gC.edge 0 x q s).no0 w a)

  opt_in : (w : List ℕ) → (w ≡ []) ⊎ Acc C 0 w → Acc (opt_a C) 0 w
  opt_in w (inl e) = rw e (inr refl)
  opt_in w (inr a) = add_opt 0 w a

  pub opt_lang : (w : List ℕ) → Acc (opt_a C) 0 w ↔ ((w ≡ []) ⊎ Acc C 0 w)
  opt_lang w = (opt_out w, opt_in w)

plus→star : (P : List ℕ → Type 0) (w : List ℕ) → Parts P (Repeats P) w → Repeats P w
plus→star P w h = go h.w1 h.whole h.first
  where
    go : (u : List ℕ) → w ≡ u ++ h.w2 → P u → Repeats P w
    go [] e a = rw e h.second
    go (x ∷ u) e a = more (x ∷ u) h.w2 e cons≢nil a h.second

module _ (A : Auto) (gA : Good A) where
  plus_edge : (p x q : ℕ) → PlusStep A p x q → Edge A.size p q
  plus_edge p x q (PlusStep.a's s) = gA.edge p x q s
  plus_edge p x q (PlusStep.anew f s) = let d = gA.edge 0 x q s in omega (arith, gA.fin p f)

  pub good_plus : Good (plus_a A)
  good_plus = record { pos = gA.pos; edge = plus_edge; fin = gA.fin }

  pub good_star : Good (star_a A)
  good_star = good_opt (plus_a A) good_plus

  -- cut a path at the first return to what leaves 0
  cut : (p : ℕ) (w : List ℕ) → Acc (plus_a A) p w → Parts (Acc A p) (Repeats (Acc A 0)) w
  cut p [] f = record { w1 = []; w2 = []; whole = refl; first = f; second = none }
  cut p (x ∷ w) (q, PlusStep.a's s, a) =
      let h = cut q w a in
      record { w1 = x ∷ h.w1; w2 = h.w2; whole = ap (λ t. x ∷ t) h.whole; first = (q, s, h.first); second = h.second }
  cut p (x ∷ w) (q, PlusStep.anew f s, a) =
      let h = cut q w a in
      record { w1 = []; w2 = x ∷ w; whole = refl; first = f; second = more (x ∷ h.w1) h.w2 (ap (λ t. x ∷ t) h.whole) cons≢nil (q, s, h.first) h.second }

  -- v is accepted from every final state of a: then u v is, wherever u is
  join : (v : List ℕ) → ((p : ℕ) → A.final p → Acc (plus_a A) p v) → (p : ℕ) (u : List ℕ) → Acc A p u → Acc (plus_a A) p (u ++ v)
  join v h p [] f = h p f
  join v h p (x ∷ u) (q, s, a) = (q, PlusStep.a's s, join v h q u a)

  again : (u v : List ℕ) → u ≢ [] → Acc A 0 u → ((p : ℕ) → A.final p → Acc (plus_a A) p v) → (p : ℕ) → A.final p → Acc (plus_a A) p (u ++ v)
  again [] v n a h p f = absurd (n refl)
  again (x ∷ u) v n (q, s, a) h p f = (q, PlusStep.anew f s, join v h q u a)

  round : (v : List ℕ) → Repeats (Acc A 0) v → (p : ℕ) → A.final p → Acc (plus_a A) p v
  round v none p f = f
  round v (more u v' e n a r) p f = rw e (again u v' n a (λ p' f'. round v' r p' f') p f)

  pub plus_lang : (w : List ℕ) → Acc (plus_a A) 0 w ↔ Parts (Acc A 0) (Repeats (Acc A 0)) w
  plus_lang w = (cut 0 w, λ h. rw h.whole (join h.w2 (round h.w2 h.second) 0 h.w1 h.first))

  star_out : (w : List ℕ) → (w ≡ []) ⊎ Acc (plus_a A) 0 w → Repeats (Acc A 0) w
  star_out w (inl e) = rw e none
  star_out w (inr a) = plus→star (Acc A 0) w ((plus_lang w).0 a)

  star_in : (w : List ℕ) → Repeats (Acc A 0) w → (w ≡ []) ⊎ Acc (plus_a A) 0 w
  star_in w none = inl refl
  star_in w (more u v e n a r) = inr (rw e (join v (round v r) 0 u a))

  pub star_lang : (w : List ℕ) → Acc (star_a A) 0 w ↔ Repeats (Acc A 0) w
  star_lang w = let e = opt_lang (plus_a A) good_plus w in (λ a. star_out w (e.0 a), λ s. e.1 (star_in w s))
