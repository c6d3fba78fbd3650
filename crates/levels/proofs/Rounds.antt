-- A round's step takes level j to level j + 1, and the first step makes level 1. Assumes nothing.
use Prim.Native.Nat.{ℕ, suc, ◌≤◌, ◌<◌}
use mathlib.Core.Path.{◌≡◌, refl, ap, sym, subst, subst₂, ◌∙◌}
use mathlib.Core.Logic.{◌≢◌, ⊎_elim}
use mathlib.Core.List.{List}
use native.Mathlib.Omega.{arith}
use lib.Dec.{T}
use lib.ListN.{get_or}
use Rattle.bits.specs.Word.{bit}
use Rattle.bits.specs.Sets.{Below}
use Rattle.automata.specs.Table.{Table, table_states}
use Rattle.automata.proofs.TableOf.{edge_out}
use Rattle.steps.proofs.Rowing.{same_place}
use Rattle.models.specs.Model.{Model, model_states}
use Rattle.levels.specs.Lent.{pair_count}
use Rattle.levels.specs.inner.Passes.{Step, Along, FromAll, Way, start, onto, Level, view, pair_at}
use Rattle.levels.proofs.Level.{Link, Round, round_level, ends}
use Rattle.levels.proofs.SearchInput.{SearchInput, model_for, table_for, labels_for, fair}

module _ (G : SearchInput) where
  abbrev A : Table
  A = table_for G

  abbrev M : Model
  M = model_for G

  module _ (j : ℕ) (some : 1 ≤ j) (a b : List ℕ) (c : ℕ) (s : Step j a b (FromAll (labels_for G) G.letters G.sizes.states G.successors j a) c) where
    made : (t p : ℕ) → t < model_states → p < table_states → FromAll (labels_for G) G.letters G.sizes.states G.successors j a (pair_at t p)
        → (s₀ : ℕ) × (q₀ : ℕ) × (s₀ < model_states) × (q₀ < table_states) × (view a s₀ q₀ ≡ j) × Link M A s₀ q₀ t p
    made t p ht hp x =
        let y = x.holds in
        let z = y.holds.1 in
        let i = z.holds.is in
        let e = same_place t p y.at z.at hp (omega (arith, z.below, G.table.small)) z.holds.place in (
          x.at,
          i.from,
          omega (arith, x.below, G.model.few),
          omega (arith, i.held.below, G.table.small),
          i.held.is,
          record {
            in_model = omega (arith, e.0, y.below);
            steps = subst (λ (u : ℕ). T (bit (get_or G.successors x.at 0) u)) e.0 y.holds.0;
            reads = subst₂ (λ (u v : ℕ). T (A.edge i.from (get_or G.letters u 0) v)) e.0 e.1 i.reads;
          },
        )

    pub round_of_step : Round M A j (view a) (view b)
    round_of_step = record { kept = kept; fresh = fresh; all = all }
      where
        kept : (s₁ q₁ : ℕ) → s₁ < model_states → q₁ < table_states → view a s₁ q₁ ≢ 0 → view b s₁ q₁ ≡ view a s₁ q₁
        kept s₁ q₁ hs hq h = ⊎_elim (λ e. e) (λ e. absurd (h e.1)) (s.only (pair_at s₁ q₁))

        fresh : (t p : ℕ) → t < model_states → p < table_states → view a t p ≡ 0 → view b t p ≢ 0
            → (view b t p ≡ suc j) × ((s₀ : ℕ) × (q₀ : ℕ) × (s₀ < model_states) × (q₀ < table_states) × (view a s₀ q₀ ≡ j) × Link M A s₀ q₀ t p)
        fresh t p ht hp z h = ⊎_elim (λ e. absurd (h (e ∙ z))) (λ e. (e.2, made t p ht hp e.0)) (s.only (pair_at t p))

        all : (s₁ q₁ t p : ℕ) → s₁ < G.sizes.states → q₁ < table_states → view a s₁ q₁ ≡ j → Link M A s₁ q₁ t p → view b t p ≢ 0
        all s₁ q₁ t p hs hq e k =
            s.all (pair_at t p)
            (record {
              at = s₁;
              below = hs;
              holds = record {
                at = t;
                below = k.in_model;
                holds = (
                  k.steps,
                  record {
                    at = p;
                    below = (edge_out G.labels G.sizes.weight G.sizes.finals q₁ (get_or G.letters t 0) p k.reads).1;
                    holds = record {
                      is = record { from = q₁; held = record { below = (edge_out G.labels G.sizes.weight G.sizes.finals q₁ (get_or G.letters t 0) p k.reads).0; is = e }; reads = k.reads };
                      place = refl;
                    };
                  },
                );
              };
            })

    -- level j + 1, and what the marks below were stays
    pub level_up : Level M A j (view a) → Level M A (suc j) (view b)
    level_up l = round_level M A (fair G) j some (view a) (view b) l round_of_step

    -- nothing new: nothing is on level j + 1
    pub level_empty : Level M A j (view a) → c ≡ 0 → (s₁ q₁ : ℕ) → s₁ < model_states → q₁ < table_states → view b s₁ q₁ ≢ suc j
    level_empty l e s₁ q₁ hs hq h =
        let x : view b s₁ q₁ ≡ view a s₁ q₁ = ap (λ (y : List ℕ). view y s₁ q₁) (s.quiet e) in
        let y : view a s₁ q₁ ≤ j = l.low s₁ q₁ hs hq in
        omega arith

  -- the first level, on marks that are all 0: from table state 0 alone
  module _ (a b : List ℕ) (c : ℕ) (zeros : (i : ℕ) → i < pair_count → get_or a i 0 ≡ 0)
      (s : Step 0 a b (Below (Along (labels_for G) G.letters G.sizes.initial (λ q. 0 ≡ q)) G.sizes.states) c) where
    pub level_one : Level M A 1 (view b)
    level_one = record { low = low; sound = sound; complete = complete }
      where
        low : (s₁ q₁ : ℕ) → s₁ < model_states → q₁ < table_states → view b s₁ q₁ ≤ 1
        low s₁ q₁ hs hq = ⊎_elim (λ e. let z : view a s₁ q₁ ≡ 0 = zeros (pair_at s₁ q₁) (omega arith) in omega arith) (λ e. omega arith) (s.only (pair_at s₁ q₁))

        begun : (t p : ℕ) → t < model_states → p < table_states → Below (Along (labels_for G) G.letters G.sizes.initial (λ q. 0 ≡ q)) G.sizes.states (pair_at t p) → Way M A 1 t p
        begun t p ht hp x =
            let z = x.holds.1 in
            let i = z.holds.is in
            let e = same_place t p x.at z.at hp (omega (arith, z.below, G.table.small)) z.holds.place in
            let r : T (A.edge 0 (get_or G.letters x.at 0) z.at) = subst (λ (u : ℕ). T (A.edge u (get_or G.letters x.at 0) z.at)) (sym i.held) i.reads in
            start {s = t} {q = p} (omega (arith, e.0, x.below)) (subst (λ (u : ℕ). T (bit G.sizes.initial u)) e.0 x.holds.0)
            (subst₂ (λ (u v : ℕ). T (A.edge 0 (get_or G.letters u 0) v)) e.0 e.1 r)

        sound : (s₁ q₁ : ℕ) → s₁ < model_states → q₁ < table_states → view b s₁ q₁ ≢ 0 → Way M A (view b s₁ q₁) s₁ q₁
        sound s₁ q₁ hs hq h =
            ⊎_elim (λ e. absurd (h (e ∙ zeros (pair_at s₁ q₁) (omega arith))))
            (λ e. subst (λ (y : ℕ). Way M A y s₁ q₁) (sym e.2) (begun s₁ q₁ hs hq e.0)) (s.only (pair_at s₁ q₁))

        complete : {i s₁ q₁ : ℕ} → Way M A i s₁ q₁ → i ≤ 1 → (view b s₁ q₁ ≢ 0) × (view b s₁ q₁ ≤ i)
        complete (start {s = t} {q = p} x y z) h = (
          s.all (pair_at t p)
              (record {
                at = t;
                below = x;
                holds = (y, record { at = p; below = (edge_out G.labels G.sizes.weight G.sizes.finals 0 (get_or G.letters t 0) p z).1; holds = record { is = record { from = 0; held = refl; reads = z }; place = refl } });
              }),
          low t p (omega (arith, G.model.few)) (omega (arith, G.table.small, (edge_out G.labels G.sizes.weight G.sizes.finals 0 (get_or G.letters t 0) p z).1)),
        )
        complete (onto w x y z) h = absurd (omega (arith, (ends M A (fair G) w).some))

    -- nothing new: nothing is on level 1
    pub one_empty : c ≡ 0 → (s₁ q₁ : ℕ) → s₁ < model_states → q₁ < table_states → view b s₁ q₁ ≢ 1
    one_empty e s₁ q₁ hs hq h =
        let x : view b s₁ q₁ ≡ view a s₁ q₁ = ap (λ (y : List ℕ). view y s₁ q₁) (s.quiet e) in
        let z : view a s₁ q₁ ≡ 0 = zeros (pair_at s₁ q₁) (omega arith) in
        omega arith
