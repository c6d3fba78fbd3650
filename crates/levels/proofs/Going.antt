-- The forward pass: what holds at the head of its loop, and that it is kept. Assumes nothing.
use Prim.Native.Nat.{ℕ, zero, suc, ◌+◌, ◌*◌, ◌-◌, ◌/◌, ◌%◌, ◌≤◌, ◌<◌}
use mathlib.Core.Path.{◌≡◌, sym, subst}
use mathlib.Core.Bool.{true, false, false≢true}
use mathlib.Core.Logic.{◌≢◌, ⊎_elim}
use mathlib.Core.List.{List}
use native.Mathlib.Omega.{arith}
use native.Mathlib.Numerals.{add-one}
use native.Mathlib.Nat.{mul-le-mul_right}
use lib.Dec.{T}
use lib.ListN.{get_or}
use Rattle.bits.specs.Sets.{Below}
use Rattle.automata.specs.Table.{Table, table_states}
use Rattle.models.specs.Model.{Model, model_states}
use Rattle.levels.specs.Right.{Count, none, passed}
use Rattle.levels.specs.Lent.{pair_count}
use Rattle.levels.specs.inner.Passes.{Step, Along, FromAll, Nz, Level, view, FinalOn, Marked, Ended, pair_at}
use Rattle.levels.proofs.Level.{ends}
use Rattle.levels.proofs.SearchInput.{SearchInput, model_for, table_for, labels_for, fair}
use Rattle.levels.proofs.Tally.{box, count_map}
use Rattle.levels.proofs.Rounds.{level_up, level_empty, level_one, one_empty}

-- at the head of the loop
pub record Going (M : Model) (A : Table) (fresh level count : ℕ) (m : List ℕ) : Type 0 where
  pub marked : Marked M A level count m
  pub spread : fresh ≢ 0 → level ≤ count
  pub empty : fresh ≡ 0 → (s q : ℕ) → s < model_states → q < table_states → view m s q ≢ level

no_marks : (a : List ℕ) → ((i : ℕ) → i < pair_count → get_or a i 0 ≡ 0) → (n : ℕ) → n ≤ pair_count → Count (Nz a) n 0
no_marks a z zero h = none
no_marks a z (suc n) h = passed (λ x. x (z n (omega arith))) (no_marks a z n (omega arith))

module _ (G : SearchInput) where
  abbrev A : Table
  A = table_for G

  abbrev M : Model
  M = model_for G

  -- no more than 64 · 63 pairs are ever marked
  tally_small : (j : ℕ) (m : List ℕ) (c : ℕ) → Level M A j (view m) → Count (Nz m) pair_count c → c ≤ (pair_count - model_states)
  tally_small j m c l k =
      let b : c ≤ G.sizes.states * (G.sizes.weight - 1) = box G.sizes.states G.sizes.weight G.model.few inside (count_map k (λ i h x. (h, x)) (λ i h x. x.1)) in
      let u : G.sizes.states * (G.sizes.weight - 1) ≤ model_states * (G.sizes.weight - 1) = mul-le-mul_right (G.sizes.weight - 1) G.model.few in
      omega (arith, G.table.small)
    where
      inside : (i : ℕ) → (i < pair_count) × Nz m i → (i / table_states < G.sizes.states) × (0 < i % table_states) × (i % table_states < G.sizes.weight)
      inside i x =
          let e : pair_at (i / table_states) (i % table_states) ≡ i = omega arith in
          let y : view m (i / table_states) (i % table_states) ≢ 0 = subst (λ (z : ℕ). get_or m z 0 ≢ 0) (sym e) x.1 in
          let b = ends M A (fair G) (l.sound (i / table_states) (i % table_states) (omega (arith, x.0)) (omega arith) y) in
          (b.state, b.above, b.below)

  pub go_start : (a b : List ℕ) (c : ℕ) → ((i : ℕ) → i < pair_count → get_or a i 0 ≡ 0)
      → Step 0 a b (Below (Along (labels_for G) G.letters G.sizes.initial (λ q. 0 ≡ q)) G.sizes.states) c → Going M A c 1 c b
  go_start a b c z s =
      let l = level_one G a b c z s in
      let e : 0 + c ≡ c = omega arith in
      let k : Count (Nz b) pair_count c = subst (λ (x : ℕ). Count (Nz b) pair_count x) e (s.tally 0 (no_marks a z pair_count (omega arith))) in
      record {
        marked = record {
          some = omega arith;
          levels = l;
          counted = k;
          few = tally_small 1 b c l k;
          last_only = λ s₁ q₁ hs hq h f. let y : view b s₁ q₁ ≤ 1 = l.low s₁ q₁ hs hq in omega arith;
        };
        spread = λ h. omega arith;
        empty = one_empty G a b c z s;
      }

  pub go_on : (fresh level count new : ℕ) (a b : List ℕ) → Going M A fresh level count a → fresh ≢ 0 → (FinalOn A.final a level G.sizes.states → ⊥)
      → Step level a b (FromAll (labels_for G) G.letters G.sizes.states G.successors level a) new → Going M A new (level + 1) (count + new) b
  go_on fresh level count new a b g h no_final s =
      subst (λ (x : ℕ). Going M A new x (count + new) b) (sym (add-one level))
      (record {
        marked = record { some = omega arith; levels = l; counted = k; few = tally_small (suc level) b (count + new) l k; last_only = last_only };
        spread = λ x. omega (arith, g.spread h);
        empty = level_empty G level g.marked.some a b new s g.marked.levels;
      })
    where
      l : Level M A (suc level) (view b)
      l = level_up G level g.marked.some a b new s g.marked.levels

      k : Count (Nz b) pair_count (count + new)
      k = s.tally count g.marked.counted

      -- an older mark is no final's
      old : (s₁ q₁ : ℕ) → s₁ < model_states → q₁ < table_states → view a s₁ q₁ ≢ 0 → T (A.final q₁) → ⊥
      old s₁ q₁ hs hq x f =
          let e : view a s₁ q₁ ≡ level = g.marked.last_only s₁ q₁ hs hq x f in
          let b = ends M A (fair G) (g.marked.levels.sound s₁ q₁ hs hq x) in
          no_final (record { row = s₁; below = b.state; there = record { state = q₁; on = e; is_final = f } })

      last_only : (s₁ q₁ : ℕ) → s₁ < model_states → q₁ < table_states → view b s₁ q₁ ≢ 0 → T (A.final q₁) → view b s₁ q₁ ≡ suc level
      last_only s₁ q₁ hs hq x f = ⊎_elim (λ e. absurd (old s₁ q₁ hs hq (omega arith) f)) (λ e. e.2) (s.only (pair_at s₁ q₁))

  pub go_found : (fresh level count : ℕ) (a : List ℕ) → Going M A fresh level count a → fresh ≢ 0 → FinalOn A.final a level G.sizes.states → Ended M A true level count a
  go_found fresh level count a g h f = record { marked = g.marked; some_final = λ e. (f, g.spread h); empty = λ e. absurd (false≢true (sym e)) }

  pub go_none : (fresh level count : ℕ) (a : List ℕ) → Going M A fresh level count a → fresh ≡ 0 → Ended M A false level count a
  go_none fresh level count a g h = record { marked = g.marked; some_final = λ e. absurd (false≢true e); empty = λ e. g.empty h }
