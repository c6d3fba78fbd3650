-- Marks by levels: what a forward pass has shown after j levels. Assumes nothing.
use Prim.Native.Nat.{ℕ, zero, suc, ◌≤◌, ◌<◌}
use mathlib.Core.Path.{◌≡◌, sym, subst}
use mathlib.Core.Logic.{◌≢◌}
use native.Mathlib.Omega.{arith}
use native.Mathlib.Decide.{ℕ_discrete}
use lib.Dec.{T}
use Rattle.automata.specs.Table.{Table, table_states}
use Rattle.models.specs.Model.{Model, model_states}
use Rattle.levels.specs.inner.Passes.{Way, start, onto, Level}

-- a model and a table that the search can take: at most 64 states each, labels stay inside the weight, nothing enters state 0
pub record Fair (M : Model) (A : Table) : Type 0 where
  pub few : M.states ≤ model_states
  pub small : A.weight ≤ table_states
  pub within : (p x q : ℕ) → T (A.edge p x q) → q < A.weight
  pub root : (p x : ℕ) → T (A.edge p x 0) → ⊥

-- one edge of the product
pub record Link (M : Model) (A : Table) (s q t p : ℕ) : Type 0 where
  pub in_model : t < M.states
  pub steps : T (M.next s t)
  pub reads : T (A.edge q (M.letter t) p)

-- a way's ends
pub record Ends (M : Model) (A : Table) (k s q : ℕ) : Type 0 where
  pub some : 1 ≤ k
  pub state : s < M.states
  pub above : 0 < q
  pub below : q < A.weight

-- one round of the forward pass at level j
pub record Round (M : Model) (A : Table) (j : ℕ) (m n : ℕ → ℕ → ℕ) : Type 0 where
  pub kept : (s q : ℕ) → s < model_states → q < table_states → m s q ≢ 0 → n s q ≡ m s q
  pub fresh : (t p : ℕ) → t < model_states → p < table_states → m t p ≡ 0 → n t p ≢ 0
      → (n t p ≡ suc j) × ((s : ℕ) × (q : ℕ) × (s < model_states) × (q < table_states) × (m s q ≡ j) × Link M A s q t p)
  pub all : (s q t p : ℕ) → s < M.states → q < table_states → m s q ≡ j → Link M A s q t p → n t p ≢ 0

module _ (M : Model) (A : Table) (fair : Fair M A) where
  pos : (p x q : ℕ) → T (A.edge p x q) → 0 < q
  pos p x zero e = absurd (fair.root p x e)
  pos p x (suc q) e = omega arith

  pub ends : {k s q : ℕ} → Way M A k s q → Ends M A k s q
  ends (start {s = s} {q = q} a b c) = record { some = omega arith; state = a; above = pos 0 (M.letter s) q c; below = fair.within 0 (M.letter s) q c }
  ends (onto {q = q} {t = t} {m = m} w a b c) = record { some = omega arith; state = a; above = pos q (M.letter t) m c; below = fair.within q (M.letter t) m c }

  module _ (j : ℕ) (some : 1 ≤ j) (m n : ℕ → ℕ → ℕ) (l : Level M A j m) (o : Round M A j m n) where
    round_low : (s q : ℕ) → s < model_states → q < table_states → n s q ≤ suc j
    round_low s q hs hq = go (ℕ_discrete (m s q) 0) (ℕ_discrete (n s q) 0)
      where
        go : Dec (m s q ≡ 0) → Dec (n s q ≡ 0) → n s q ≤ suc j
        go (yes a) (yes b) = omega arith
        go (yes a) (no b) = omega (arith, (o.fresh s q hs hq a b).0)
        go (no a) b = omega (arith, o.kept s q hs hq a, l.low s q hs hq)

    round_sound : (s q : ℕ) → s < model_states → q < table_states → n s q ≢ 0 → Way M A (n s q) s q
    round_sound s q hs hq h = go (ℕ_discrete (m s q) 0)
      where
        made : (n s q ≡ suc j) × ((s₀ : ℕ) × (q₀ : ℕ) × (s₀ < model_states) × (q₀ < table_states) × (m s₀ q₀ ≡ j) × Link M A s₀ q₀ s q) → Way M A (n s q) s q
        made f =
            let w : Way M A j f.1.0 f.1.1 = subst (λ (x : ℕ). Way M A x f.1.0 f.1.1) f.1.4 (l.sound f.1.0 f.1.1 f.1.2 f.1.3 (omega arith)) in
            subst (λ (x : ℕ). Way M A x s q) (sym f.0) (onto w f.1.5.in_model f.1.5.steps f.1.5.reads)

        go : Dec (m s q ≡ 0) → Way M A (n s q) s q
        go (yes a) = made (o.fresh s q hs hq a h)
        go (no a) = subst (λ (x : ℕ). Way M A x s q) (sym (o.kept s q hs hq a)) (l.sound s q hs hq a)

    stays : {i s q : ℕ} → Way M A i s q → i ≤ j → (n s q ≢ 0) × (n s q ≤ i)
    stays {i} {s} {q} w h =
        let e = ends w in
        let c : (m s q ≢ 0) × (m s q ≤ i) = l.complete w h in
        let k : n s q ≡ m s q = o.kept s q (omega arith) (omega arith) c.0 in
        (omega arith, omega arith)

    -- the new level: a way of suc j states leads to a marked pair
    grown : {s q t p : ℕ} → Way M A j s q → Link M A s q t p → n t p ≢ 0
    grown {s} {q} {t} {p} w k = go (ℕ_discrete (m s q) j)
      where
        go : Dec (m s q ≡ j) → n t p ≢ 0
        go (yes a) = let e = ends w in o.all s q t p (omega arith) (omega arith) a k
        go (no a) =
            let e = ends w in
            let c : (m s q ≢ 0) × (m s q ≤ j) = l.complete w (omega arith) in
            let v : Way M A (m s q) s q = l.sound s q (omega arith) (omega arith) c.0 in
            (stays (onto v k.in_model k.steps k.reads) (omega arith)).0

    round_complete : {i s q : ℕ} → Way M A i s q → i ≤ suc j → (n s q ≢ 0) × (n s q ≤ i)
    round_complete (start {s = s} {q = q} a b c) h = stays (start a b c) some
    round_complete (onto {k = k} {s = s} {q = q} {t = t} {m = p} w a b c) h = go (ℕ_discrete k j)
      where
        go : Dec (k ≡ j) → (n t p ≢ 0) × (n t p ≤ suc k)
        go (yes e) =
            let g = ends (onto w a b c) in
            let z : n t p ≢ 0 = grown (subst (λ (x : ℕ). Way M A x s q) e w) (record { in_model = a; steps = b; reads = c }) in
            let y : n t p ≤ suc j = round_low t p (omega arith) (omega arith) in
            (z, omega arith)
        go (no e) = stays (onto w a b c) (omega arith)

    pub round_level : Level M A (suc j) n
    round_level = record { low = round_low; sound = round_sound; complete = round_complete }

  -- a level that nothing is on: every pair that is reached at all is marked
  pub closed : (j : ℕ) → 1 ≤ j → (m : ℕ → ℕ → ℕ) → Level M A j m → ((s q : ℕ) → s < model_states → q < table_states → m s q ≢ j) → {i s q : ℕ} → Way M A i s q → m s q ≢ 0
  closed j some m l empty (start a b c) = (l.complete (start a b c) some).0
  closed j some m l empty (onto {s = s} {q = q} w a b c) =
      let e = ends w in
      let z : m s q ≢ 0 = closed j some m l empty w in
      let y : m s q ≤ j = l.low s q (omega arith) (omega arith) in
      let x : m s q ≢ j = empty s q (omega arith) (omega arith) in
      let v : Way M A (m s q) s q = l.sound s q (omega arith) (omega arith) z in
      (l.complete (onto v a b c) (omega arith)).0
