-- Marks that are stored and listed. Assumes nothing.
use Prim.Native.Nat.{ℕ, suc, ◌+◌, ◌<◌, ◌≤◌}
use mathlib.Core.Path.{◌≡◌, refl, sym, ap, subst, ◌∙◌}
use mathlib.Core.Logic.{◌≢◌, ◌⊎◌, inl, inr, ⊎_elim}
use mathlib.Core.List.{List}
use native.Mathlib.Omega.{arith}
use native.Mathlib.Decide.{ℕ_discrete}
use native.Mathlib.Numerals.{add-one}
use lib.Dec.{T}
use lib.ListN.{length, get_or, set}
use lib.Seq.{get_or-set_same, get_or-set_other}
use Rattle.bits.specs.Word.{bit, remove, Lowest}
use Rattle.bits.specs.Sets.{Over, In}
use Rattle.bits.proofs.Begun.{over_begun}
use Rattle.bits.proofs.Resting.{Done, Rest, over_older, over_newest, over_split, over_end, over_start}
use Rattle.tables.proofs.promise.Beyonds.{beyond_none, beyond_next, beyond_then}
use Rattle.levels.specs.Lent.{pair_count}
use Rattle.levels.specs.inner.Passes.{Nz, Step, view, pair_at}
use Rattle.levels.specs.inner.Waves.{Queued, Pushed}
use Rattle.levels.proofs.Tally.{count_le}
use Rattle.levels.proofs.Steps.{step_none, step_one, step_then}

-- at most 4,096 are listed, and less where a place has no mark
pub queue_room : {top c : ℕ} {m queue : List ℕ} (at : ℕ) → Queued top m queue c → at < pair_count → pair_count ≤ length m → get_or m at 0 ≡ 0 → c < pair_count
queue_room {top} {c} {m} at x l h z =
    let n = count_le ((step_one 0 m at l h z).tally c x.counted) in
    omega arith

pub queued_up : {top c : ℕ} {m queue : List ℕ} → Queued top m queue c → Queued (suc top) m queue c
queued_up x = record { counted = x.counted; low = λ i h. let y = x.low i h in omega arith; listed = x.listed; marked = x.marked; rising = x.rising }

-- one place
module _ (j : ℕ) (m queue : List ℕ) (at c : ℕ) (l : at < pair_count) (h : pair_count ≤ length m) (g : pair_count ≤ length queue) (z : get_or m at 0 ≡ 0) (x : Queued (suc j) m queue c) where
  abbrev m' : List ℕ
  m' = set m at (suc j)

  abbrev queue' : List ℕ
  queue' = set queue c at

  room : c < pair_count
  room = queue_room at x l h z

  new_mark : get_or m' at 0 ≡ suc j
  new_mark = get_or-set_same m at (suc j) 0 (omega arith)

  new_entry : get_or queue' c 0 ≡ at
  new_entry = let r = room in get_or-set_same queue c at 0 (omega arith)

  old_entry : (k : ℕ) → k < c → get_or queue' k 0 ≡ get_or queue k 0
  old_entry k lt = get_or-set_other queue c k at 0 (omega arith)

  not_at : (k : ℕ) → k < c → get_or queue k 0 ≢ at
  not_at k lt e = (x.marked k lt).1 (ap (λ (i : ℕ). get_or m i 0) e ∙ z)

  old_mark : (k : ℕ) → k < c → get_or m' (get_or queue' k 0) 0 ≡ get_or m (get_or queue k 0) 0
  old_mark k lt = ap (λ (i : ℕ). get_or m' i 0) (old_entry k lt) ∙ get_or-set_other m at (get_or queue k 0) (suc j) 0 (not_at k lt)

  low : (i : ℕ) → i < pair_count → get_or m' i 0 ≤ suc j
  low i lt = go (ℕ_discrete i at)
    where
      go : Dec (i ≡ at) → get_or m' i 0 ≤ suc j
      go (yes e) = let y : get_or m' i 0 ≡ suc j = ap (λ (i : ℕ). get_or m' i 0) e ∙ new_mark in omega arith
      go (no e) = let y : get_or m' i 0 ≡ get_or m i 0 = get_or-set_other m at i (suc j) 0 e in let u = x.low i lt in omega arith

  listed : (i : ℕ) → i < pair_count → Nz m' i → (k : ℕ) × (k < c + 1) × (get_or queue' k 0 ≡ i)
  listed i lt n = go (ℕ_discrete i at)
    where
      go : Dec (i ≡ at) → (k : ℕ) × (k < c + 1) × (get_or queue' k 0 ≡ i)
      go (yes e) = (c, omega arith, new_entry ∙ sym e)
      go (no e) =
          let y : get_or m' i 0 ≡ get_or m i 0 = get_or-set_other m at i (suc j) 0 e in
          let o = x.listed i lt (λ w. n (y ∙ w)) in
          (o.0, omega (arith, o.1), old_entry o.0 o.1 ∙ o.2)

  marked : (k : ℕ) → k < c + 1 → (get_or queue' k 0 < pair_count) × Nz m' (get_or queue' k 0)
  marked k lt = go (ℕ_discrete k c)
    where
      go : Dec (k ≡ c) → (get_or queue' k 0 < pair_count) × Nz m' (get_or queue' k 0)
      go (yes e) =
          let y : get_or queue' k 0 ≡ at = ap (λ (i : ℕ). get_or queue' i 0) e ∙ new_entry in
          let w : get_or m' (get_or queue' k 0) 0 ≡ suc j = ap (λ (i : ℕ). get_or m' i 0) y ∙ new_mark in
          (omega arith, omega arith)
      go (no e) =
          let d : k < c = omega arith in
          let o = x.marked k d in
          let y : get_or queue' k 0 ≡ get_or queue k 0 = old_entry k d in
          (omega (arith, o.0), λ w. o.1 (sym (old_mark k d) ∙ w))

  rising : (k e : ℕ) → k ≤ e → e < c + 1 → get_or m' (get_or queue' k 0) 0 ≤ get_or m' (get_or queue' e 0) 0
  rising k e le lt = go (ℕ_discrete e c)
    where
      go : Dec (e ≡ c) → get_or m' (get_or queue' k 0) 0 ≤ get_or m' (get_or queue' e 0) 0
      go (yes d) =
          let y : get_or queue' e 0 ≡ at = ap (λ (i : ℕ). get_or queue' i 0) d ∙ new_entry in
          let w : get_or m' (get_or queue' e 0) 0 ≡ suc j = ap (λ (i : ℕ). get_or m' i 0) y ∙ new_mark in
          let u = low (get_or queue' k 0) (marked k (omega arith)).0 in
          omega arith
      go (no d) =
          let y = old_mark k (omega arith) in
          let w = old_mark e (omega arith) in
          let u = x.rising k e le (omega arith) in
          omega arith

  pushed_one : Pushed j m m' queue queue' (λ i. i ≡ at) c (c + 1)
  pushed_one =
      let s = step_one j m at l h z in
      record {
        new = 1;
        sum = refl;
        step = s;
        queued = record { counted = s.tally c x.counted; low = low; listed = listed; marked = marked; rising = rising };
        beyond = beyond_next c at (beyond_none pair_count queue) room;
      }

  -- as the code stores it
  pub push_one : Pushed j m (set m at (j + 1)) queue queue' (λ i. i ≡ at) c (c + 1)
  push_one = subst (λ (v : ℕ). Pushed j m (set m at v) queue queue' (λ i. i ≡ at) c (c + 1)) (sym (add-one j)) pushed_one

pub pushed_none : {j c : ℕ} {m queue : List ℕ} (S : ℕ → Type 0) → ((i : ℕ) → S i → ⊥) → Queued (suc j) m queue c → Pushed j m m queue queue S c c
pushed_none {j} {c} {m} {queue} S f x = record { new = 0; sum = omega arith; step = step_none j m S (λ i s. absurd (f i s)); queued = x; beyond = beyond_none pair_count queue }

pub pushed_then : {j c d e : ℕ} {m m' m'' q q' q'' : List ℕ} {S S' : ℕ → Type 0} (U : ℕ → Type 0) → Pushed j m m' q q' S c d → Pushed j m' m'' q' q'' S' d e
    → ((i : ℕ) → S i → U i) → ((i : ℕ) → S' i → U i) → ((i : ℕ) → U i → S i ⊎ S' i) → Pushed j m m'' q q'' U c e
pushed_then U x y f g h = record {
  new = x.new + y.new;
  sum = omega (arith, x.sum, y.sum);
  step = step_then x.step y.step U f g h;
  queued = y.queued;
  beyond = beyond_then x.beyond y.beyond;
}

-- a set that has some marked places more
pub step_wide : {j : ℕ} {a b : List ℕ} {S : ℕ → Type 0} {c : ℕ} → Step j a b S c → (U : ℕ → Type 0) → ((i : ℕ) → S i → U i) → ((i : ℕ) → U i → S i ⊎ Nz a i) → Step j a b U c
step_wide {j} {a} {b} {S} x U f g = record {
  size = x.size;
  only = λ i. ⊎_elim (λ e. inl e) (λ e. inr (f i e.0, e.1, e.2)) (x.only i);
  all = λ i u. ⊎_elim (λ s. x.all i s) (λ n. stays i n (x.only i)) (g i u);
  tally = x.tally;
  quiet = x.quiet;
}
  where
    stays : (i : ℕ) → Nz a i → (get_or b i 0 ≡ get_or a i 0) ⊎ (S i × (get_or a i 0 ≡ 0) × (get_or b i 0 ≡ suc j)) → Nz b i
    stays i n (inl e) = λ z. n (sym e ∙ z)
    stays i n (inr e) = absurd (n e.1)

pub pushed_wide : {j c d : ℕ} {m m' q q' : List ℕ} {S : ℕ → Type 0} (U : ℕ → Type 0) → Pushed j m m' q q' S c d → ((i : ℕ) → S i → U i) → ((i : ℕ) → U i → S i ⊎ Nz m i) → Pushed j m m' q q' U c d
pushed_wide U x f g = record { new = x.new; sum = x.sum; step = step_wide x.step U f g; queued = x.queued; beyond = x.beyond }

pub pushed_same : {j c d : ℕ} {m m' q q' : List ℕ} {S : ℕ → Type 0} (U : ℕ → Type 0) → Pushed j m m' q q' S c d → ((i : ℕ) → S i → U i) → ((i : ℕ) → U i → S i) → Pushed j m m' q q' U c d
pushed_same U x f g = pushed_wide U x f (λ i u. inl (g i u))

-- a loop over the members of a set
pub pushing_begun : {j c w r : ℕ} {m queue : List ℕ} → r ≡ w → (S : ℕ → ℕ → Type 0) → Queued (suc j) m queue c → Pushed j m m queue queue (λ i. Over (Done w r) (λ t. S t i)) c c
pushing_begun {w = w} {r = r} e S x = pushed_none (λ i. Over (Done w r) (λ t. S t i)) (λ i o. over_begun e o) x

pub pushing_turn : {w r s t j c d e : ℕ} {m m' m'' q q' q'' : List ℕ} (S : ℕ → ℕ → Type 0) → Rest w r → Lowest 64 r t → s ≡ remove 64 r t → Pushed j m m' q q' (λ i. Over (Done w r) (λ t. S t i)) c d → Pushed j m' m'' q' q'' (S t) d e
    → Pushed j m m'' q q'' (λ i. Over (Done w s) (λ t. S t i)) c e
pushing_turn {w} {r} {s} S x l e p y =
    pushed_then (λ i. Over (Done w s) (λ t. S t i)) p y (λ i o. over_older x l e (λ t. S t i) o) (λ i o. over_newest x l e (λ t. S t i) o) (λ i o. over_split x l e (λ t. S t i) o)

pub pushing_end : {w r j c d : ℕ} {m m' q q' : List ℕ} (S : ℕ → ℕ → Type 0) → r ≡ 0 → Pushed j m m' q q' (λ i. Over (Done w r) (λ t. S t i)) c d → Pushed j m m' q q' (λ i. Over (In w) (λ t. S t i)) c d
pushing_end {w} S e p = pushed_same (λ i. Over (In w) (λ t. S t i)) p (λ i o. over_end o) (λ i o. over_start e o)

-- the pairs of the row that are still to be marked have no mark
pub push_zero : {w r j c d : ℕ} {m m' q q' : List ℕ} (t : ℕ) → ((k : ℕ) → T (bit w k) → view m t k ≡ 0) → Rest w r → Pushed j m m' q q' (λ i. Over (Done w r) (λ k. i ≡ pair_at t k)) c d
    → (k : ℕ) → T (bit r k) → view m' t k ≡ 0
push_zero {w} {r} t zeros x p k h =
    ⊎_elim (λ e. e ∙ zeros k (x.sub k h))
    (λ e. let o = e.0 in let i : o.at ≡ k = omega (arith, o.holds) in absurd (o.inside.gone (subst (λ (y : ℕ). T (bit r y)) (sym i) h))) (p.step.only (pair_at t k))
