-- The forward pass by levels: what holds at the head of its loop, and that it is kept. Assumes nothing.
use Prim.Native.Nat.{ℕ, suc, ◌+◌, ◌*◌, ◌-◌, ◌<◌, min}
use mathlib.Core.Path.{◌≡◌, sym, subst}
use mathlib.Core.Bool.{Bool, true, false}
use mathlib.Core.Logic.{◌≢◌}
use mathlib.Core.List.{List}
use native.Mathlib.Omega.{arith}
use native.Mathlib.Numerals.{add-one}
use lib.Dec.{T}
use lib.ListN.{length, get_or}
use Rattle.bits.specs.Word.{bit}
use Rattle.bits.specs.Says.{Says}
use Rattle.bits.specs.Sets.{Below, Over, In}
use Rattle.bits.proofs.Sayings.{says_map}
use Rattle.automata.specs.Table.{Table, table_states}
use Rattle.tables.specs.Beyond.{Beyond}
use Rattle.tables.proofs.promise.Beyonds.{beyond_none, beyond_then}
use Rattle.automata.proofs.TableOf.{final_out, final_in}
use Rattle.models.specs.Model.{Model, model_states}
use Rattle.levels.specs.Lent.{pair_count}
use Rattle.levels.specs.inner.Passes.{Step, Along, FromAll, view, FinalOn, Ended, Unmarked}
use Rattle.levels.specs.inner.Waves.{Queued, Pushed, Fronts}
use Rattle.levels.proofs.Level.{ends}
use Rattle.levels.proofs.SearchInput.{SearchInput, model_for, table_for, labels_for, fair}
use Rattle.levels.proofs.Steps.{step_rows, in_rows}
use Rattle.levels.proofs.Going.{Going, go_start, go_on, go_found, go_none}

-- at the head of the loop
pub record Flow (M : Model) (A : Table) (states : ℕ) (m₀ queue₀ m queue front : List ℕ) (level fresh count new : ℕ) : Type 0 where
  pub marks_past : Beyond (table_states * states) m₀ m
  pub queue_past : Beyond pair_count queue₀ queue
  pub going : Going M A new level count m
  pub queued : Queued level m queue count
  pub fronts : Fronts m states level fresh front
  pub room : length front ≡ model_states

module _ (G : SearchInput) where
  abbrev A : Table
  A = table_for G

  abbrev M : Model
  M = model_for G

  -- before the loop
  module _ {m m' q q' : List ℕ} {c : ℕ} (p : Pushed 0 m m' q q' (Below (Along (labels_for G) G.letters G.sizes.initial (λ q. 0 ≡ q)) G.sizes.states) 0 c) where
    pub begin_past : Beyond (table_states * G.sizes.states) m m'
    begin_past = step_rows G.sizes.states p.step (λ i x. in_rows G.table.small x.below x.holds.1)

    flow_start : {fresh : ℕ} {front : List ℕ} → ((i : ℕ) → i < pair_count → get_or m i 0 ≡ 0) → Fronts m' G.sizes.states 1 fresh front → length front ≡ model_states → Flow M A G.sizes.states m' q' m' q' front 1 fresh c c
    flow_start z f r =
        let e : p.new ≡ c = omega (arith, p.sum) in
        record {
          marks_past = beyond_none (table_states * G.sizes.states) m';
          queue_past = beyond_none pair_count q';
          going = go_start G m m' c z (subst (λ (x : ℕ). Step 0 m m' (Below (Along (labels_for G) G.letters G.sizes.initial (λ q. 0 ≡ q)) G.sizes.states) x) e p.step);
          queued = p.queued;
          fronts = f;
          room = r;
        }

  pub flow_begin : {m m' q q' front : List ℕ} {c fresh level : ℕ} → level ≡ 1 → Pushed 0 m m' q q' (Below (Along (labels_for G) G.letters G.sizes.initial (λ q. 0 ≡ q)) G.sizes.states) 0 c → Unmarked m
      → Fronts m' G.sizes.states 1 fresh front → length front ≡ model_states → Flow M A G.sizes.states m' q' m' q' front level fresh c c
  flow_begin {m' = m'} {q' = q'} {front = front} {c = c} {fresh = fresh} e p z f r = subst (λ (l : ℕ). Flow M A G.sizes.states m' q' m' q' front l fresh c c) (sym e) (flow_start p z f r)

  module _ {m₀ q₀ m q front : List ℕ} {level fresh count new : ℕ} (x : Flow M A G.sizes.states m₀ q₀ m q front level fresh count new) where
    -- what the code tests is that a final is on the level
    pub flow_final : {b : Bool} → Says b (Over (In fresh) (λ s. ((q : ℕ) × T (bit (get_or front s 0) q) × T (bit G.sizes.finals q)))) → Says b (FinalOn A.final m level G.sizes.states)
    flow_final y = says_map there back y
      where
        there : Over (In fresh) (λ s. ((q : ℕ) × T (bit (get_or front s 0) q) × T (bit G.sizes.finals q))) → FinalOn A.final m level G.sizes.states
        there o =
            let h = o.holds in
            let f = x.fronts.holds o.at h.0 o.inside h.1 in
            let n : view m o.at h.0 ≢ 0 = omega (arith, f.2, x.going.marked.some) in
            let e = ends M A (fair G) (x.going.marked.levels.sound o.at h.0 (omega (arith, f.0, G.model.few)) f.1 n) in
            record { row = o.at; below = f.0; there = record { state = h.0; on = f.2; is_final = final_in G.sizes.weight G.sizes.finals h.0 e.below h.2 } }

        back : FinalOn A.final m level G.sizes.states → Over (In fresh) (λ s. ((q : ℕ) × T (bit (get_or front s 0) q) × T (bit G.sizes.finals q)))
        back f =
            let o = final_out G.sizes.weight G.sizes.finals f.there.state f.there.is_final in
            let h = x.fronts.has f.row f.there.state (omega (arith, f.below, G.model.few)) (omega (arith, o.0, G.table.small)) f.there.on in
            record { at = f.row; inside = h.0; holds = (f.there.state, h.1, o.1) }

    pub flow_level : new ≢ 0 → level < pair_count
    flow_level h = omega (arith, x.going.spread h, x.going.marked.few)

    pub flow_found : new ≢ 0 → FinalOn A.final m level G.sizes.states → Ended M A true level count m
    flow_found h f = go_found G new level count m x.going h f

    pub flow_none : new ≡ 0 → Ended M A false level count m
    flow_none h = go_none G new level count m x.going h

    -- one level on
    module _ {m' q' : List ℕ} {c : ℕ} (h : new ≢ 0) (no_final : FinalOn A.final m level G.sizes.states → ⊥)
        (p : Pushed level m m' q q' (FromAll (labels_for G) G.letters G.sizes.states G.successors level m) count c) where
      next : Going M A (c - count) (level + 1) c m'
      next =
          let e : p.new ≡ c - count = omega (arith, p.sum) in
          let d : count + p.new ≡ c = omega (arith, p.sum) in
          subst (λ (i : ℕ). Going M A i (level + 1) c m') e (subst (λ (i : ℕ). Going M A p.new (level + 1) i m') d (go_on G new level count p.new m m' x.going h no_final p.step))

      pub flow_less : min (c - count) 1 + (pair_count - c) < min new 1 + (pair_count - count)
      flow_less = let u = p.sum in let w = next.marked.few in omega arith

      pub flow_on : {front' : List ℕ} {level' fresh' : ℕ} → level' ≡ suc level → Fronts m' G.sizes.states (suc level) fresh' front' → length front' ≡ model_states → Flow M A G.sizes.states m₀ q₀ m' q' front' level' fresh' c (c - count)
      flow_on {front'} {level'} {fresh'} e f r = subst (λ (l : ℕ). Flow M A G.sizes.states m₀ q₀ m' q' front' l fresh' c (c - count)) (sym e) (record {
        marks_past = beyond_then x.marks_past (step_rows G.sizes.states p.step (λ i y. in_rows G.table.small y.holds.below y.holds.holds.1));
        queue_past = beyond_then x.queue_past p.beyond;
        going = subst (λ (l : ℕ). Going M A (c - count) l c m') (add-one level) next;
        queued = p.queued;
        fronts = f;
        room = r;
      })
