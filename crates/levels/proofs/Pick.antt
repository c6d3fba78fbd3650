-- The row that picks the lowest useful state each time is the first in state order. Assumes nothing.
use Prim.Native.Nat.{ℕ, suc, ◌+◌, ◌≤◌, ◌<◌}
use mathlib.Core.Path.{◌≡◌, refl, ap, sym, subst, ◌∙◌}
use mathlib.Core.Bool.{Bool}
use mathlib.Core.Logic.{◌⊎◌, inl, inr, ⊎_elim}
use mathlib.Core.List.{List, [], ◌∷◌, ◌++◌, append_assoc, append-nil}
use native.Mathlib.Omega.{arith}
use native.Mathlib.Decide.{ℕ_discrete}
use lib.Dec.{T}
use lib.ListN.{length, length-append}
use Rattle.automata.specs.Table.{Table, Goes, Accepts}
use Rattle.models.specs.Model.{Model, Walk, spelled}
use Rattle.levels.specs.Right.{Before, here, there}
use Rattle.levels.specs.inner.Passes.{Left, Picked}
use Rattle.levels.proofs.Way.{goes_append}
use Rattle.levels.proofs.Useful.{left_of}

-- what is allowed after a row, where `ok` is allowed before it
abbrev pub after : Model → (ℕ → Bool) → List ℕ → ℕ → Bool
after M ok [] = ok
after M ok (s ∷ r) = after M (M.next s) r

pub before_more : {r u : List ℕ} → Before r u → (v : List ℕ) → Before (r ++ v) u
before_more (here l) v = here l
before_more (there b) v = there (before_more b v)

pub before_at : (r : List ℕ) {s t : ℕ} → s < t → (v w : List ℕ) → Before (r ++ s ∷ v) (r ++ t ∷ w)
before_at [] l v w = here l
before_at (x ∷ r) l v w = there (before_at r l v w)

module _ (M : Model) (A : Table) where
  goes_split : (p f : ℕ) (r u : List ℕ) → Goes A p (spelled M (r ++ u)) f → (q : ℕ) × Goes A p (spelled M r) q × Goes A q (spelled M u) f
  goes_split p f [] u g = (p, refl, g)
  goes_split p f (s ∷ r) u g = let x = goes_split g.0 f r u g.2 in (x.0, (g.0, g.1, x.1), x.2)

  walk_rest : (ok : ℕ → Bool) (r u : List ℕ) → Walk M ok (r ++ u) → Walk M (after M ok r) u
  walk_rest ok [] u w = w
  walk_rest ok (s ∷ r) u w = walk_rest (M.next s) r u w.2

  pub walk_more : (ok : ℕ → Bool) (r u : List ℕ) → Walk M ok r → Walk M (after M ok r) u → Walk M ok (r ++ u)
  walk_more ok [] u w v = v
  walk_more ok (s ∷ r) u w v = (w.0, w.1, walk_more (M.next s) r u w.2 v)

  after_snoc : (ok : ℕ → Bool) (r : List ℕ) (s : ℕ) → after M ok (r ++ s ∷ []) ≡ M.next s
  after_snoc ok [] s = refl
  after_snoc ok (t ∷ r) s = after_snoc (M.next t) r s

  -- r is chosen, d states are to go, ok says which may come next, and Q are the table states still useful
  pub record Chosen (k d : ℕ) (r : List ℕ) (ok : ℕ → Bool) (Q : ℕ → Type 0) : Type 0 where
    pub size : k ≡ length r + d
    pub walk : Walk M M.initial r
    pub next_ok : after M M.initial r ≡ ok
    pub sound : (q : ℕ) → Q q → Goes A 0 (spelled M r) q
    pub complete : (q : ℕ) → Goes A 0 (spelled M r) q → Left M A ok d q → Q q
    pub some : (q : ℕ) × Q q × Left M A ok d q
    pub first : (u : List ℕ) → Walk M M.initial u → Accepts A (spelled M u) → length u ≡ k → ((v : List ℕ) × (u ≡ r ++ v)) ⊎ Before r u

  -- t can be the next state
  pub record Can (ok : ℕ → Bool) (Q : ℕ → Type 0) (d t : ℕ) : Type 0 where
    pub state : t < M.states
    pub allowed : T (ok t)
    pub old : ℕ
    pub new : ℕ
    pub held : Q old
    pub reads : T (A.edge old (M.letter t) new)
    pub on : Left M A (M.next t) d new

  -- the table states that are useful after it
  pub record Held (Q : ℕ → Type 0) (d t p : ℕ) : Type 0 where
    pub old : ℕ
    pub held : Q old
    pub reads : T (A.edge old (M.letter t) p)
    pub on : Left M A (M.next t) d p

  pub begin : (k : ℕ) → Left M A M.initial k 0 → Chosen k k [] M.initial (λ q. 0 ≡ q)
  begin k h = record {
    size = omega arith;
    walk = tt;
    next_ok = refl;
    sound = λ q e. e;
    complete = λ q e g. e;
    some = (0, refl, h);
    first = λ u w a e. inl (u, refl);
  }

  pub can_some : {k d : ℕ} {r : List ℕ} {ok : ℕ → Bool} {Q : ℕ → Type 0} → Chosen k (suc d) r ok Q → (t : ℕ) × Can ok Q d t
  can_some c =
      let h = c.some in
      (h.2.0, record { state = h.2.2; allowed = h.2.3; old = h.0; new = h.2.1; held = h.1; reads = h.2.4; on = h.2.5 })

  module _ (k d : ℕ) (r : List ℕ) (ok : ℕ → Bool) (Q : ℕ → Type 0) (c : Chosen k (suc d) r ok Q)
      (s : ℕ) (can : Can ok Q d s) (lowest : (t : ℕ) → Can ok Q d t → s ≤ t) where
    -- a matching row that begins with r goes on with a state that can be next
    goes_on : (t : ℕ) (v u : List ℕ) → u ≡ r ++ t ∷ v → Walk M M.initial u → Accepts A (spelled M u) → length u ≡ k → Can ok Q d t
    goes_on t v u e w a n =
        let w' : Walk M M.initial (r ++ t ∷ v) = rw e at w in
        let g : Goes A 0 (spelled M (r ++ t ∷ v)) a.0 = subst (λ (x : List ℕ). Goes A 0 (spelled M x) a.0) e a.1 in
        let x = goes_split 0 a.0 r (t ∷ v) g in
        let y : Walk M ok (t ∷ v) = subst (λ (o : ℕ → Bool). Walk M o (t ∷ v)) c.next_ok (walk_rest M.initial r (t ∷ v) w') in
        let z : length u ≡ length r + suc (length v) = ap length e ∙ length-append r (t ∷ v) in
        let dv : length v ≡ d = omega (arith, c.size) in
        let lf : Left M A (M.next t) d x.2.0 = subst (λ (i : ℕ). Left M A (M.next t) i x.2.0) dv (left_of M A (M.next t) v x.2.0 a.0 y.2 x.2.2 a.2) in
        record {
          state = y.0;
          allowed = y.1;
          old = x.0;
          new = x.2.0;
          held = c.complete x.0 x.1 (t, x.2.0, y.0, y.1, x.2.1, lf);
          reads = x.2.1;
          on = lf;
        }

    pub picked : Chosen k d (r ++ s ∷ []) (M.next s) (Held Q d s)
    picked = record {
      size = omega (arith, c.size, length-append r (s ∷ []));
      walk = walk_more M.initial r (s ∷ []) c.walk (can.state, rw c.next_ok can.allowed, tt);
      next_ok = after_snoc M.initial r s;
      sound = λ q h. goes_append M A 0 h.old q r (s ∷ []) (c.sound h.old h.held) (q, h.reads, refl);
      complete = whole;
      some = (can.new, record { old = can.old; held = can.held; reads = can.reads; on = can.on }, can.on);
      first = least;
    }
      where
        whole : (p : ℕ) → Goes A 0 (spelled M (r ++ s ∷ [])) p → Left M A (M.next s) d p → Held Q d s p
        whole p g h =
            let x = goes_split 0 p r (s ∷ []) g in
            let e : T (A.edge x.0 (M.letter s) p) = subst (λ (y : ℕ). T (A.edge x.0 (M.letter s) y)) x.2.2 x.2.1 in
            record { old = x.0; held = c.complete x.0 x.1 (s, p, can.state, can.allowed, e, h); reads = e; on = h }

        split : (t : ℕ) (v u : List ℕ) → u ≡ r ++ t ∷ v → Dec (s ≡ t) → s ≤ t → ((x : List ℕ) × (u ≡ (r ++ s ∷ []) ++ x)) ⊎ Before (r ++ s ∷ []) u
        split t v u e (yes p) l = inl (v, e ∙ (rw (append_assoc, p)))
        split t v u e (no p) l = inr (subst (λ (x : List ℕ). Before (r ++ s ∷ []) x) (sym e) (before_at r (omega arith) [] v))

        begins : (v u : List ℕ) → u ≡ r ++ v → Walk M M.initial u → Accepts A (spelled M u) → length u ≡ k → ((x : List ℕ) × (u ≡ (r ++ s ∷ []) ++ x)) ⊎ Before (r ++ s ∷ []) u
        begins [] u e w a n = absurd (let z : length u ≡ length r + 0 = ap length e ∙ length-append r [] in omega (arith, c.size))
        begins (t ∷ v) u e w a n = split t v u e (ℕ_discrete s t) (lowest t (goes_on t v u e w a n))

        least : (u : List ℕ) → Walk M M.initial u → Accepts A (spelled M u) → length u ≡ k → ((v : List ℕ) × (u ≡ (r ++ s ∷ []) ++ v)) ⊎ Before (r ++ s ∷ []) u
        least u w a n = ⊎_elim (λ b. begins b.0 u b.1 w a n) (λ b. inr (before_more b (s ∷ []))) (c.first u w a n)

  -- at the end: r is accepted, and the first of its length
  pub done : {k : ℕ} {r : List ℕ} {ok : ℕ → Bool} {Q : ℕ → Type 0} → Chosen k 0 r ok Q → Picked M A k r
  done {k} {r} c = record { size = omega (arith, c.size); walk = c.walk; accepted = (c.some.0, c.sound c.some.0 c.some.1, c.some.2); first = least }
    where
      same : (v u : List ℕ) → u ≡ r ++ v → length u ≡ k → r ≡ u
      same [] u e n = sym (e ∙ append-nil r)
      same (t ∷ v) u e n = absurd (let z : length u ≡ length r + suc (length v) = ap length e ∙ length-append r (t ∷ v) in omega (arith, c.size))

      least : (u : List ℕ) → Walk M M.initial u → Accepts A (spelled M u) → length u ≡ k → (r ≡ u) ⊎ Before r u
      least u w a n = ⊎_elim (λ b. inl (same b.0 u b.1 n)) (λ b. inr b) (c.first u w a n)
