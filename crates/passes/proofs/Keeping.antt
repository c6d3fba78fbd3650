-- The backward pass over the queue, from its last pair to its first. Assumes nothing.
use Prim.Native.Nat.{ℕ, zero, suc, ◌+◌, ◌*◌, ◌-◌, ◌/◌, ◌%◌, ◌<◌, ◌≤◌}
use mathlib.Core.Path.{◌≡◌, refl, sym, ap, subst, ◌∙◌}
use mathlib.Core.Bool.{Bool, true, false}
use mathlib.Core.Logic.{◌≢◌, ◌⊎◌, ◌↔◌, inl, inr, ⊎_elim}
use mathlib.Core.List.{List}
use native.Mathlib.Omega.{arith}
use native.Mathlib.Decide.{ℕ_discrete}
use borrow.Author.Tests.{eqb-true}
use lib.Dec.{T, eqb}
use lib.ListN.{length, get_or, set, length-set}
use lib.Seq.{get_or-set_same, get_or-set_other}
use Rattle.bits.specs.Word.{bit, num}
use Rattle.bits.specs.Says.{Says}
use Rattle.bits.specs.Sets.{Members, add_if, Over, In}
use Rattle.bits.proofs.Laws.{bit_zero, bit_insert}
use Rattle.bits.proofs.Sayings.{says_in, says_map}
use Rattle.bits.proofs.Truths.{or_T, T_true, false_no}
use Rattle.bits.proofs.Members.{add_old, add_new}
use Rattle.automata.specs.Table.{Table, table_states}
use Rattle.automata.proofs.TableOf.{final_out, final_in}
use Rattle.steps.specs.Rows.{Rowed}
use Rattle.steps.proofs.Rowing.{same_place}
use Rattle.models.specs.Model.{Model, model_states}
use Rattle.levels.specs.Lent.{pair_count}
use Rattle.levels.specs.inner.Passes.{Used, view, Way, onto, Marked, Left, Useful, useful_sets, pair_at}
use Rattle.levels.specs.inner.Waves.{Queued}
use Rattle.passes.specs.inner.Uses.{Meets, Keeps, last, early, Settles, build, flat, useful_at}
use Rattle.levels.proofs.Level.{ends}
use Rattle.levels.proofs.SearchInput.{SearchInput, model_for, table_for, labels_for, fair}
use Rattle.levels.proofs.Useful.{Nearest, nearest, placed}
use Rattle.levels.proofs.UsedLetters.{used_by}

-- ---- the useful pairs as marks

pub build_at : (f : ℕ → ℕ) (n i : ℕ) → i < n → get_or (build f n) i 0 ≡ f i
unfolding build
build_at f zero i h = absurd (omega arith)
build_at f (suc n) zero h = refl
build_at f (suc n) (suc i) h = build_at (λ i. f (suc i)) n i (omega arith)

pub flat_at : (m useful : List ℕ) (s q : ℕ) → s < model_states → q < table_states → view (flat m useful) s q ≡ num (bit (get_or useful (useful_at (view m s q) s) 0) q)
flat_at m useful s q hs hq =
    let d : (pair_at s q) / table_states ≡ s = omega arith in
    let r : (pair_at s q) % table_states ≡ q = omega arith in
    build_at (λ i. num (bit (get_or useful (useful_at (get_or m i 0) (i / table_states)) 0) (i % table_states))) pair_count (pair_at s q) (omega arith)
    ∙ ap (λ (x : ℕ). num (bit (get_or useful (useful_at (view m s q) x) 0) ((pair_at s q) % table_states))) d ∙ ap (λ (x : ℕ). num (bit (get_or useful (useful_at (view m s q) s) 0) x)) r

num_some : (b : Bool) → num b ≢ 0 → T b
num_some true n = tt
num_some false n = absurd (n refl)

some_num : (b : Bool) → T b → num b ≢ 0
some_num true t e = omega arith
some_num false t e = t

pub flat_some : (m useful : List ℕ) (s q : ℕ) → s < model_states → q < table_states → (view (flat m useful) s q ≢ 0) ↔ T (bit (get_or useful (useful_at (view m s q) s) 0) q)
flat_some m useful s q hs hq =
    let e = flat_at m useful s q hs hq in
    (λ n. num_some (bit (get_or useful (useful_at (view m s q) s) 0) q) (λ z. n (e ∙ z)), λ t z. some_num (bit (get_or useful (useful_at (view m s q) s) 0) q) t (sym e ∙ z))

-- ---- at the head of the loop

-- the listed pairs from i on are settled
pub record Backed (M : Model) (A : Table) (k : ℕ) (m queue : List ℕ) (c i : ℕ) (useful : List ℕ) : Type 0 where
  pub sound : (s q b : ℕ) → s < model_states → b < 2 → T (bit (get_or useful (pair_at b s) 0) q)
      → (q < table_states) × (view m s q % 2 ≡ b) × ((l : ℕ) × (i ≤ l) × (l < c) × (get_or queue l 0 ≡ pair_at s q)) × ((d : ℕ) → k ≡ view m s q + d → Left M A (M.next s) d q)
  pub complete : (l s q : ℕ) → i ≤ l → l < c → s < model_states → q < table_states → get_or queue l 0 ≡ pair_at s q → (d : ℕ) → k ≡ view m s q + d → Left M A (M.next s) d q
      → T (bit (get_or useful (useful_at (view m s q) s) 0) q)

pub backed_none : (M : Model) (A : Table) (k : ℕ) (m queue : List ℕ) (c : ℕ) (useful : List ℕ) → ((i : ℕ) → get_or useful i 0 ≡ 0) → Backed M A k m queue c c useful
backed_none M A k m queue c useful z = record {
  sound = λ s q b hs hb t. absurd (false_no (bit_zero q) (subst (λ (x : ℕ). T (bit x q)) (z (pair_at b s)) t));
  complete = λ l s q h g. absurd (omega arith);
}

which : (w k : ℕ) (b : Bool) (j : ℕ) → T (bit (add_if w k b) j) → T (bit w j) ⊎ ((j ≡ k) × (b ≡ true))
which w k true j t = ⊎_elim (λ u. inl u) (λ u. inr (eqb-true j k (T_true (eqb j k) u), refl)) ((or_T (bit w j) (eqb j k)).0 (subst T (bit_insert w k j) t))
which w k false j t = inl t

module _ (G : SearchInput) (rows : List ℕ) (R : Rowed (labels_for G) (Used G.letters G.sizes.states) rows) where
  abbrev A : Table
  A = table_for G

  abbrev M : Model
  M = model_for G

  module _ (k c : ℕ) (m queue : List ℕ) (x : Marked M A k c m) (Q : Queued k m queue c) where
    near : Nearest M A k (view m)
    near = nearest M A (fair G) k c m x

    -- the end of the pass
    pub backed_useful : (useful : List ℕ) → Backed M A k m queue c 0 useful → Useful M A k (view m) 1 (view (flat m useful))
    unfolding Useful
    backed_useful useful y s q hs hq le d e =
        let f = flat_some m useful s q hs hq in
        let o = Q.listed (pair_at s q) (omega arith) (omega arith) in
        (λ n. (y.sound s q (view m s q % 2) hs (omega arith) (f.0 n)).3 d e, λ h. f.1 (y.complete o.0 s q (omega arith) o.1 hs hq o.2 d e h))

    -- the pair before
    module _ (i s q : ℕ) (hi : i < c) (hs : s < model_states) (hq : q < table_states) (at : get_or queue i 0 ≡ pair_at s q) where
      mark_some : view m s q ≢ 0
      mark_some z = (Q.marked i hi).1 (ap (λ (y : ℕ). get_or m y 0) at ∙ z)

      way : Way M A (view m s q) s q
      way = x.levels.sound s q hs hq mark_some

      pub place_state : s < G.sizes.states
      place_state = (ends M A (fair G) way).state

      module _ (useful : List ℕ) (y : Backed M A k m queue c (i + 1) useful) where
        -- what the code tests is that a final is as far as it has to be
        there : (d : ℕ) → k ≡ view m s q + d → Keeps rows G.letters G.successors useful G.sizes.states G.sizes.finals k (view m s q) s q → Left M A (M.next s) d q
        there d e (last h f) =
            let z : 0 ≡ d = omega arith in
            subst (λ (j : ℕ). Left M A (M.next s) j q) z (final_in G.sizes.weight G.sizes.finals q (ends M A (fair G) way).below f)
        there zero e (early h o) = absurd (h (omega arith))
        there (suc d) e (early h o) =
            let t = o.at in
            let p = o.holds.to in
            let r = R.sound (get_or G.letters t 0) q p (used_by G.letters t o.inside.1) hq o.holds.reads in
            let w : Way M A (suc (view m s q)) t p = onto way o.inside.1 o.inside.0 r in
            let n = ends M A (fair G) w in
            let u = y.sound t p ((view m s q + 1) % 2) (omega (arith, n.state, G.model.few)) (omega arith) o.holds.kept in
            let g : get_or m (get_or queue i 0) 0 ≤ get_or m (get_or queue u.2.0 0) 0 = Q.rising i u.2.0 (omega (arith, u.2.1)) u.2.2 in
            let a : get_or m (get_or queue i 0) 0 ≡ view m s q = ap (λ (y : ℕ). get_or m y 0) at in
            let b : get_or m (get_or queue u.2.0 0) 0 ≡ view m t p = ap (λ (y : ℕ). get_or m y 0) u.2.3 in
            let v : view m t p ≤ suc (view m s q) = (x.levels.complete w (omega arith)).1 in
            let par : view m t p % 2 ≡ (view m s q + 1) % 2 = u.1 in
            (t, p, o.inside.1, o.inside.0, r, u.3 d (omega arith))

        back : (d : ℕ) → k ≡ view m s q + d → Left M A (M.next s) d q → Keeps rows G.letters G.successors useful G.sizes.states G.sizes.finals k (view m s q) s q
        back zero e h = last (omega arith) (final_out G.sizes.weight G.sizes.finals q h).1
        back (suc d) e h =
            let w : Way M A (suc (view m s q)) h.0 h.1 = onto way h.2 h.3 h.4 in
            let n = ends M A (fair G) w in
            let ht : h.0 < model_states = omega (arith, n.state, G.model.few) in
            let hp : h.1 < table_states = omega (arith, n.below, G.table.small) in
            let z : view m h.0 h.1 ≡ suc (view m s q) = placed M A (fair G) k (view m) near w d h.5 (omega arith) in
            let o = Q.listed (pair_at h.0 h.1) (omega arith) (omega arith) in
            let a : get_or m (get_or queue i 0) 0 ≡ view m s q = ap (λ (y : ℕ). get_or m y 0) at in
            let b : get_or m (get_or queue o.0 0) 0 ≡ view m h.0 h.1 = ap (λ (y : ℕ). get_or m y 0) o.2 in
            let later : ¬ (o.0 ≤ i) = λ l. let g = Q.rising o.0 i l hi in omega arith in
            let u = y.complete o.0 h.0 h.1 (omega arith) o.1 ht hp o.2 d (omega arith) h.5 in
            let par : view m h.0 h.1 % 2 ≡ (view m s q + 1) % 2 = omega arith in
            early (omega arith)
            (record {
              at = h.0;
              inside = (h.3, h.2);
              holds = record { to = h.1; reads = R.complete (get_or G.letters h.0 0) q h.1 (used_by G.letters h.0 h.2) h.4; kept = subst (λ (v : ℕ). T (bit (get_or useful (pair_at v h.0) 0) h.1)) par u };
            })

        -- it is settled
        module _ (long : useful_sets ≤ length useful) (answer : Bool) (says : Says answer (Keeps rows G.letters G.successors useful G.sizes.states G.sizes.finals k (view m s q) s q)) where
          abbrev place : ℕ
          place = useful_at (view m s q) s

          abbrev v : ℕ
          v = add_if (get_or useful place 0) q answer

          here : get_or (set useful place v) place 0 ≡ v
          here = get_or-set_same useful place v 0 (omega arith)

          -- what was there stays
          stays : (at₁ q₁ : ℕ) → T (bit (get_or useful at₁ 0) q₁) → Dec (at₁ ≡ place) → T (bit (get_or (set useful place v) at₁ 0) q₁)
          stays at₁ q₁ t (yes e) =
              subst (λ (z : ℕ). T (bit z q₁)) (sym (ap (λ (z : ℕ). get_or (set useful place v) z 0) e ∙ here)) (add_old (get_or useful place 0) q answer q₁ (subst (λ (z : ℕ). T (bit (get_or useful z 0) q₁)) e t))
          stays at₁ q₁ t (no e) = subst (λ (z : ℕ). T (bit z q₁)) (sym (get_or-set_other useful place at₁ v 0 e)) t

          -- what is there was there, or is the pair
          came : (at₁ q₁ : ℕ) → T (bit (get_or (set useful place v) at₁ 0) q₁) → Dec (at₁ ≡ place) → T (bit (get_or useful at₁ 0) q₁) ⊎ ((at₁ ≡ place) × (q₁ ≡ q) × (answer ≡ true))
          came at₁ q₁ t (yes e) =
              ⊎_elim (λ u. inl (subst (λ (z : ℕ). T (bit (get_or useful z 0) q₁)) (sym e) u)) (λ u. inr (e, u.0, u.1))
              (which (get_or useful place 0) q answer q₁ (subst (λ (z : ℕ). T (bit z q₁)) (ap (λ (z : ℕ). get_or (set useful place v) z 0) e ∙ here) t))
          came at₁ q₁ t (no e) = inl (subst (λ (z : ℕ). T (bit z q₁)) (get_or-set_other useful place at₁ v 0 e) t)

          sound : (s₁ q₁ b : ℕ) → s₁ < model_states → b < 2 → T (bit (get_or (set useful place v) (pair_at b s₁) 0) q₁)
              → (q₁ < table_states) × (view m s₁ q₁ % 2 ≡ b) × ((l : ℕ) × (i ≤ l) × (l < c) × (get_or queue l 0 ≡ pair_at s₁ q₁)) × ((d : ℕ) → k ≡ view m s₁ q₁ + d → Left M A (M.next s₁) d q₁)
          sound s₁ q₁ b h₁ hb t = ⊎_elim old new (came (pair_at b s₁) q₁ t (ℕ_discrete (pair_at b s₁) place))
            where
              old : T (bit (get_or useful (pair_at b s₁) 0) q₁)
                  → (q₁ < table_states) × (view m s₁ q₁ % 2 ≡ b) × ((l : ℕ) × (i ≤ l) × (l < c) × (get_or queue l 0 ≡ pair_at s₁ q₁)) × ((d : ℕ) → k ≡ view m s₁ q₁ + d → Left M A (M.next s₁) d q₁)
              old u = let o = y.sound s₁ q₁ b h₁ hb u in (o.0, o.1, (o.2.0, omega (arith, o.2.1), o.2.2, o.2.3), o.3)

              new : (model_states * b + s₁ ≡ place) × (q₁ ≡ q) × (answer ≡ true)
                  → (q₁ < table_states) × (view m s₁ q₁ % 2 ≡ b) × ((l : ℕ) × (i ≤ l) × (l < c) × (get_or queue l 0 ≡ pair_at s₁ q₁)) × ((d : ℕ) → k ≡ view m s₁ q₁ + d → Left M A (M.next s₁) d q₁)
              new u =
                  let sp = same_place b s₁ (view m s q % 2) s h₁ hs u.0 in
                  let e : s ≡ s₁ = sp.1 in
                  let f : q ≡ q₁ = sym u.1 in
                  let g : view m s q ≡ view m s₁ q₁ = ap (λ (z : ℕ). view m z q) e ∙ ap (λ (z : ℕ). view m s₁ z) f in (
                    omega arith,
                    sym (ap (λ (z : ℕ). z % 2) g) ∙ sp.0,
                    (i, omega arith, hi, at ∙ omega arith),
                    λ d h. subst (λ (z : ℕ). Left M A (M.next z) d q₁) e (subst (λ (z : ℕ). Left M A (M.next s) d z) f (there d (g_sum d h g) (says.yes_holds u.2))),
                  )
                where
                  g_sum : (d : ℕ) → k ≡ view m s₁ q₁ + d → view m s q ≡ view m s₁ q₁ → k ≡ view m s q + d
                  g_sum d h g = omega arith

          complete : (l s₁ q₁ : ℕ) → i ≤ l → l < c → s₁ < model_states → q₁ < table_states → get_or queue l 0 ≡ pair_at s₁ q₁ → (d : ℕ) → k ≡ view m s₁ q₁ + d → Left M A (M.next s₁) d q₁
              → T (bit (get_or (set useful place v) (useful_at (view m s₁ q₁) s₁) 0) q₁)
          complete l s₁ q₁ le lt h₁ h₂ e d f h = go (ℕ_discrete l i)
            where
              go : Dec (l ≡ i) → T (bit (get_or (set useful place v) (useful_at (view m s₁ q₁) s₁) 0) q₁)
              go (no n) = stays (useful_at (view m s₁ q₁) s₁) q₁ (y.complete l s₁ q₁ (omega arith) lt h₁ h₂ e d f h) (ℕ_discrete (useful_at (view m s₁ q₁) s₁) place)
              go (yes n) =
                  let z : pair_at s₁ q₁ ≡ pair_at s q = sym e ∙ ap (λ (j : ℕ). get_or queue j 0) n ∙ at in
                  let es : s ≡ s₁ = omega arith in
                  let eq : q ≡ q₁ = omega arith in
                  let w : T (bit (get_or (set useful place v) place 0) q) =
                  subst (λ (j : ℕ). T (bit j q)) (sym here)
                  (add_new (get_or useful place 0) q answer (says_in says (back d (same es eq) (subst (λ (j : ℕ). Left M A (M.next j) d q) (sym es) (subst (λ (j : ℕ). Left M A (M.next s₁) d j) (sym eq) h))))) in
                  subst (λ (j : ℕ). T (bit (get_or (set useful place v) (useful_at (view m j q₁) j) 0) q₁)) es (subst (λ (j : ℕ). T (bit (get_or (set useful place v) (useful_at (view m s j) s) 0) j)) eq w)
                where
                  same : s ≡ s₁ → q ≡ q₁ → k ≡ view m s q + d
                  same a b = let g : view m s q ≡ view m s₁ q₁ = ap (λ (z : ℕ). view m z q) a ∙ ap (λ (z : ℕ). view m s₁ z) b in omega arith

          pub backed_set : Backed M A k m queue c i (set useful place v)
          backed_set = record { sound = sound; complete = complete }

-- ---- what the code answers

module _ {rows letters successors useful : List ℕ} {states finals k j s q : ℕ} {b : Bool} where
  pub keeps_last : j ≡ k → Says b (T (bit finals q)) → Says b (Keeps rows letters successors useful states finals k j s q)
  keeps_last e y = says_map (λ f. last e f) back y
    where
      back : Keeps rows letters successors useful states finals k j s q → T (bit finals q)
      back (last h f) = f
      back (early h o) = absurd (h e)

  pub keeps_early : {next : ℕ} → j ≢ k → Members next (λ t. In (get_or successors s 0) t × (t < states)) → Says b (Over (In next) (Meets rows letters useful (model_states * ((j + 1) % 2)) q)) → Says b (Keeps rows letters successors useful states finals k j s q)
  keeps_early {next} n m y = says_map (λ o. early n (record { at = o.at; inside = m.holds o.at o.inside; holds = o.holds })) back y
    where
      back : Keeps rows letters successors useful states finals k j s q → Over (In next) (Meets rows letters useful (model_states * ((j + 1) % 2)) q)
      back (last h f) = absurd (n h)
      back (early h o) = record { at = o.at; inside = m.has o.at o.inside; holds = o.holds }

-- ---- a turn of the loop

module _ (G : SearchInput) (rows : List ℕ) (R : Rowed (labels_for G) (Used G.letters G.sizes.states) rows) (k c : ℕ) (m queue : List ℕ) (x : Marked (model_for G) (table_for G) k c m) (Q : Queued k m queue c)
    (i : ℕ) (some : 0 < i) (le : i ≤ c) where
  -- the pair that is listed there
  abbrev at : ℕ
  at = get_or queue (i - 1) 0

  pub listed_small : at < pair_count
  listed_small = (Q.marked (i - 1) (omega arith)).0

  parts : at ≡ pair_at (at / table_states) (at % table_states)
  parts = omega arith

  pub listed_state : at / table_states < G.sizes.states
  listed_state = place_state G rows R k c m queue x Q (i - 1) (at / table_states) (at % table_states) (omega arith) (let h = listed_small in omega arith) (omega arith) parts

  pub backed_turn : {useful useful' : List ℕ} → useful_sets ≤ length useful → Backed (model_for G) (table_for G) k m queue c i useful → Settles rows G.letters G.successors m useful useful' G.sizes.states G.sizes.finals k at
      → Backed (model_for G) (table_for G) k m queue c (i - 1) useful'
  backed_turn {useful} {useful'} long y s =
      let e : i ≡ i - 1 + 1 = omega arith in
      subst (λ (u : List ℕ). Backed (model_for G) (table_for G) k m queue c (i - 1) u) (sym stored)
      (backed_set G rows R k c m queue x Q (i - 1) (at / table_states) (at % table_states) (omega arith) (let h = listed_small in omega arith) (omega arith) parts useful
      (subst (λ (n : ℕ). Backed (model_for G) (table_for G) k m queue c n useful) e y) long s.answer
      (subst (λ (z : ℕ). Says s.answer (Keeps rows G.letters G.successors useful G.sizes.states G.sizes.finals k (get_or m z 0) (at / table_states) (at % table_states))) parts s.says))
    where
      stored : useful' ≡ set useful (useful_at (view m (at / table_states) (at % table_states)) (at / table_states)) (add_if (get_or useful (useful_at (view m (at / table_states) (at % table_states)) (at / table_states)) 0) (at % table_states) s.answer)
      stored = subst (λ (z : ℕ). useful' ≡ set useful (useful_at (get_or m z 0) (at / table_states)) (add_if (get_or useful (useful_at (get_or m z 0) (at / table_states)) 0) (at % table_states) s.answer)) parts s.stored

pub settled_size : {rows letters successors m useful useful' : List ℕ} {states finals k at : ℕ} → Settles rows letters successors m useful useful' states finals k at → length useful' ≡ length useful
settled_size {useful = useful} s = ap length s.stored ∙ length-set useful _ _

pub backed_end : {M : Model} {A : Table} {k : ℕ} {m queue : List ℕ} {c i : ℕ} {useful : List ℕ} → i ≤ 0 → Backed M A k m queue c i useful → Backed M A k m queue c 0 useful
backed_end {M} {A} {k} {m} {queue} {c} {i} {useful} h y = let e : i ≡ 0 = omega arith in subst (λ (n : ℕ). Backed M A k m queue c n useful) e y
