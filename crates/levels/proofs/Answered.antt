-- What the passes have shown is what makes the answer right. Assumes nothing.
use Prim.Native.Nat.{ℕ, ◌*◌, ◌-◌, ◌/◌, ◌%◌, ◌≤◌, ◌<◌}
use mathlib.Core.Path.{◌≡◌, refl, sym, subst, ◌∙◌}
use mathlib.Core.Bool.{Bool, true, false}
use mathlib.Core.Logic.{◌≢◌, ◌⊎◌}
use mathlib.Core.List.{List, [], ◌∷◌}
use native.Mathlib.Omega.{arith}
use lib.Dec.{T}
use lib.ListN.{length, get_or}
use Rattle.definitions.specs.Definition1.{Rule}
use Rattle.definitions.specs.Definition2.{letter_count}
use Rattle.automata.specs.Table.{Table, Accepts, table_states}
use Rattle.automata.specs.Promise.{Letters, Serves}
use Rattle.models.specs.Model.{Model, Walk, NonEmpty, Run, last, spelled, model_states}
use Rattle.levels.specs.Right.{Matches, Before, Count, Reached, Pairs, found, nothing, Right, Bounded}
use Rattle.levels.specs.Lent.{pair_count}
use Rattle.levels.specs.inner.Passes.{Nz, Way, Level, view, FinalOn, Marked, Ended, Left, Picked, pair_at}
use Rattle.levels.proofs.Way.{way_of_run, run_of_way}
use Rattle.levels.proofs.Level.{Fair, ends, closed}
use Rattle.levels.proofs.Tally.{count_map, box}
use Rattle.levels.proofs.Useful.{nearest, left_of}

-- the pairs with a mark, by their numbers
abbrev MarkedAt : (ℕ → ℕ → ℕ) → ℕ → Type 0
MarkedAt m i = m (i / table_states) (i % table_states) ≢ 0

marked_all : (m : List ℕ) {c : ℕ} → Count (Nz m) pair_count c → Count (MarkedAt (view m)) pair_count c
marked_all m k =
    count_map k (λ i h x. subst (λ (z : ℕ). get_or m z 0 ≢ 0) (sym (same i)) x) (λ i h x. subst (λ (z : ℕ). get_or m z 0 ≢ 0) (same i) x)
  where
    same : (i : ℕ) → pair_at (i / table_states) (i % table_states) ≡ i
    same i = omega arith

-- what a run spells is made of letters
pub letters_spelled : (M : Model) → ((s : ℕ) → s < M.states → M.letter s < letter_count) → (ok : ℕ → Bool) (r : List ℕ) → Walk M ok r → Letters (spelled M r)
letters_spelled M small ok [] w = tt
letters_spelled M small ok (s ∷ r) w = (small s w.0, letters_spelled M small (M.next s) r w.2)

-- ---- ways to a final, whatever the table accepts

module _ (M : Model) (A : Table) (fair : Fair M A) where
  way : {In : ℕ → Type 0} {s q : ℕ} (x : Reached Run M A In s q) → Way M A (length x.run) s q
  way {q = q} x = subst (λ (y : ℕ). Way M A (length x.run) y q) x.ends (way_of_run M A x.run x.is_run q x.goes)

  -- neither count exceeds s·(n-1)
  pub at_most : {In : ℕ → Type 0} {c : ℕ} → Pairs Run M A In c → c ≤ M.states * (A.weight - 1)
  at_most k = box M.states A.weight fair.few (λ i x. let e = ends M A fair (way x) in (e.state, e.above, e.below)) k

  pairs_within : (j : ℕ) (m : ℕ → ℕ → ℕ) {c : ℕ} → Level M A j m → Count (MarkedAt m) pair_count c → Pairs Run M A (λ k. k ≤ j) c
  pairs_within j m l k =
      count_map k
      (λ i h z. let x = run_of_way M A (l.sound (i / table_states) (i % table_states) (omega arith) (omega arith) z) in
      let y : m (i / table_states) (i % table_states) ≤ j = l.low (i / table_states) (i % table_states) (omega arith) (omega arith) in
      record { run = x.run; is_run = x.is_run; inside = omega (arith, x.inside); ends = x.ends; goes = x.goes })
      (λ i h x. (l.complete (way x) x.inside).0)

  pairs_all : (j : ℕ) → 1 ≤ j → (m : ℕ → ℕ → ℕ) {c : ℕ} → Level M A j m → ((s q : ℕ) → s < model_states → q < table_states → m s q ≢ j) → Count (MarkedAt m) pair_count c → Pairs Run M A (λ k. Unit {0}) c
  pairs_all j some m l empty k =
      count_map k
      (λ i h z. let x = run_of_way M A (l.sound (i / table_states) (i % table_states) (omega arith) (omega arith) z) in
      record { run = x.run; is_run = x.is_run; inside = tt; ends = x.ends; goes = x.goes })
      (λ i h x. closed M A fair j some m l empty (way x))

  module _ (k c : ℕ) (m : List ℕ) (x : Marked M A k c m) where
    -- a final on the last level is what is left at the beginning
    pub left_at_start : ((q : ℕ) → T (A.final q) → q < A.weight) → FinalOn A.final m k M.states → Left M A M.initial k 0
    left_at_start inside f =
        let s = f.row in
        let q = f.there.state in
        let h : view m s q ≢ 0 = omega (arith, f.there.on, x.some) in
        let w : Way M A k s q = subst (λ (i : ℕ). Way M A i s q) f.there.on (x.levels.sound s q (omega (arith, f.below, fair.few)) (omega (arith, inside q f.there.is_final, fair.small)) h) in
        let r = run_of_way M A w in
        subst (λ (i : ℕ). Left M A M.initial i 0) r.inside (left_of M A M.initial r.run 0 q r.is_run.1 r.goes f.there.is_final)

  -- the pairs of each answer
  pub pairs_nothing : (k c : ℕ) (m : List ℕ) → Ended M A false k c m → Pairs Run M A (λ i. Unit {0}) c
  pairs_nothing k c m e = pairs_all k e.marked.some (view m) e.marked.levels (e.empty refl) (marked_all m e.marked.counted)

  pub pairs_found : (k c : ℕ) (m : List ℕ) → Ended M A true k c m → (r : List ℕ) → length r ≡ k → Pairs Run M A (λ i. i ≤ length r) c
  pairs_found k c m e r h = subst (λ (y : ℕ). Pairs Run M A (λ i. i ≤ y) c) (sym h) (pairs_within k (view m) e.marked.levels (marked_all m e.marked.counted))

  pub bounded_nothing : (k c : ℕ) (m : List ℕ) → Ended M A false k c m → Bounded M A (nothing c)
  bounded_nothing k c m e = at_most (pairs_nothing k c m e)

  pub bounded_found : (k c : ℕ) (m : List ℕ) → Ended M A true k c m → (r : List ℕ) → length r ≡ k → Bounded M A (found r c)
  bounded_found k c m e r h = let b : c ≤ M.states * (A.weight - 1) = at_most (pairs_found k c m e r h) in (omega (arith, (e.some_final refl).1), b)

-- ---- the two answers, of a table that serves the rule

module _ (M : Model) (A : Table) (f : Rule) (fair : Fair M A) (serves : Serves A f) (small : (s : ℕ) → s < M.states → M.letter s < letter_count) where
  accepts_of : (r : List ℕ) → Matches Run M f r → Accepts A (spelled M r)
  accepts_of r x = serves.complete (spelled M r) (letters_spelled M small M.initial r x.0.1) x.1

  pub right_nothing : (k c : ℕ) (m : List ℕ) → Ended M A false k c m → Right Run M A f (nothing c)
  right_nothing k c m e = (no_run, pairs_nothing M A fair k c m e)
    where
      x : Marked M A k c m
      x = e.marked

      no_run : (r : List ℕ) → Matches Run M f r → ⊥
      no_run r y =
          let a = accepts_of r y in
          let w = way_of_run M A r y.0 a.0 a.1 in
          let n = ends M A fair w in
          let hs : last r < model_states = omega (arith, fair.few) in
          let hq : a.0 < table_states = omega (arith, fair.small) in
          e.empty refl (last r) a.0 hs hq (x.last_only (last r) a.0 hs hq (closed M A fair k x.some (view m) x.levels (e.empty refl) w) a.2)

  pub right_found : (k c : ℕ) (m : List ℕ) → Ended M A true k c m → (r : List ℕ) → Picked M A k r → Right Run M A f (found r c)
  right_found k c m e r d = (
    record {
      matches = ((full r d.size, d.walk), serves.sound (spelled M r) (letters_spelled M small M.initial r d.walk) d.accepted);
      shortest = short;
      first = first;
    },
    pairs_found M A fair k c m e r d.size,
  )
    where
      full : (r : List ℕ) → length r ≡ k → NonEmpty r
      full [] n = absurd (omega (arith, e.marked.some))
      full (s ∷ r) n = tt

      short : (u : List ℕ) → Matches Run M f u → length r ≤ length u
      short u y =
          let a = accepts_of u y in
          let h : k ≤ length u = (nearest M A fair k c m e.marked).shortest (length u) (last u) a.0 (way_of_run M A u y.0 a.0 a.1) a.2 in
          omega (arith, d.size)

      first : (u : List ℕ) → Matches Run M f u → length u ≡ length r → (r ≡ u) ⊎ Before r u
      first u y n = d.first u y.0.1 (accepts_of u y) (n ∙ d.size)
