-- A level of the forward pass, row by row. Assumes nothing.
use Prim.Native.Nat.{ℕ, suc, ◌^◌, ◌<◌}
use mathlib.Core.Path.{◌≡◌, refl, sym, ap, subst, ◌∙◌}
use mathlib.Core.Bool.{Bool}
use mathlib.Core.Logic.{◌≢◌, ◌⊎◌, inl, inr, ⊎_elim}
use mathlib.Core.List.{List}
use native.Mathlib.Omega.{arith}
use native.Mathlib.Decide.{ℕ_discrete}
use lib.Dec.{T}
use lib.ListN.{length, get_or, set, length-set}
use lib.Seq.{get_or-set_same, get_or-set_other}
use Rattle.bits.specs.Word.{bit, remove, Lowest}
use Rattle.bits.specs.Says.{Says}
use Rattle.bits.specs.Sets.{Members, add_if, Over, In}
use Rattle.bits.proofs.Laws.{bit_zero}
use Rattle.bits.proofs.Truths.{false_no}
use Rattle.bits.proofs.Sayings.{says_in}
use Rattle.bits.proofs.Members.{members_same, add_out, add_old, add_new}
use Rattle.bits.proofs.Resting.{Done, Rest, in_word, done_older, done_newest, done_not}
use Rattle.automata.specs.Table.{table_states}
use Rattle.steps.specs.Rows.{Into, rows_table}
use Rattle.models.specs.Model.{model_states}
use Rattle.levels.specs.inner.Passes.{Nz, view, pair_at}
use Rattle.levels.specs.inner.Waves.{Queued, Pushed, Sent, Lands, Fronts, Incoming}
use Rattle.levels.proofs.Queueing.{pushed_wide}

-- the new pairs of row t
pub arrive_members : {from set new : ℕ} (rows letters successors front m : List ℕ) (fresh t : ℕ) → Members from (λ q. Over (In fresh) (λ s. Sent successors front t s q))
    → Members set (Into (rows_table rows) (In from) (get_or letters t 0)) → Members new (λ q. T (bit set q) × (view m t q ≡ 0))
    → Members new (Incoming rows letters successors front m fresh t)
arrive_members rows letters successors front m fresh t x y z =
    members_same z (λ p h. let o = y.holds p h.0 in (record { from = o.from; held = x.holds o.from o.held; reads = o.reads }, h.1))
    (λ p h. (y.has p (record { from = h.0.from; held = x.has h.0.from h.0.held; reads = h.0.reads }), h.1))

-- ---- row t is done

-- its new pairs are stored in `after`, marked and listed
pub record Arrival (rows letters successors front : List ℕ) (fresh t j : ℕ) (after after' m m' queue queue' : List ℕ) (count r : ℕ) : Type 0 where
  pub new : ℕ
  pub fits : new < 2 ^ 64
  pub stored : after' ≡ set after t new
  pub are : Members new (Incoming rows letters successors front m fresh t)
  pub pushed : Pushed j m m' queue queue' (λ i. Over (In new) (λ p. i ≡ pair_at t p)) count r

module _ {rows letters successors front : List ℕ} {fresh t j : ℕ} {after after' m m' queue queue' : List ℕ} {count r : ℕ}
    (a : Arrival rows letters successors front fresh t j after after' m m' queue queue' count r) where
  -- what comes to it is marked and listed
  pub arrival_pushed : Pushed j m m' queue queue' (Lands rows letters successors front fresh t) count r
  arrival_pushed =
      pushed_wide (Lands rows letters successors front fresh t) a.pushed
      (λ i o. record { at = o.at; inside = (a.are.holds o.at o.inside).0; holds = o.holds }) (λ i o. old i o (ℕ_discrete (view m t o.at) 0))
    where
      old : (i : ℕ) (o : Lands rows letters successors front fresh t i) → Dec (view m t o.at ≡ 0) → Over (In a.new) (λ p. i ≡ pair_at t p) ⊎ Nz m i
      old i o (yes z) = inl (record { at = o.at; inside = a.are.has o.at (o.inside, z); holds = o.holds })
      old i o (no z) = inr (subst (Nz m) (sym o.holds) z)

  pub arrival_size : length after' ≡ length after
  arrival_size = ap length a.stored ∙ length-set after t a.new

  module _ (room : t < length after) where
    pub stored_here : get_or after' t 0 ≡ a.new
    stored_here = ap (λ (l : List ℕ). get_or l t 0) a.stored ∙ get_or-set_same after t a.new 0 room

    stored_other : (s : ℕ) → s ≢ t → get_or after' s 0 ≡ get_or after s 0
    stored_other s n = ap (λ (l : List ℕ). get_or l s 0) a.stored ∙ get_or-set_other after t s a.new 0 n

    row_other : (s q : ℕ) → q < table_states → s ≢ t → view m' s q ≡ view m s q
    row_other s q h n = ⊎_elim (λ e. e) (λ e. let o = e.0 in let l = in_word o.at a.fits o.inside in absurd (n (omega (arith, o.holds)))) (a.pushed.step.only (pair_at s q))

    new_here : (q : ℕ) → T (bit a.new q) → view m' t q ≡ suc j
    new_here q h =
        ⊎_elim (λ e. absurd (a.pushed.step.all (pair_at t q) (record { at = q; inside = h; holds = refl }) (e ∙ (a.are.holds q h).1))) (λ e. e.2) (a.pushed.step.only (pair_at t q))

    here_new : (q : ℕ) → view m t q ≢ suc j → view m' t q ≡ suc j → T (bit a.new q)
    here_new q n e =
        ⊎_elim (λ k. absurd (n (sym k ∙ e))) (λ k. let o = k.0 in let i : o.at ≡ q = omega (arith, o.holds) in subst (λ (y : ℕ). T (bit a.new y)) i o.inside) (a.pushed.step.only (pair_at t q))

    module _ {states next v live rest rest' : ℕ} {b : Bool} (below : t < states) (f : Fronts m states (suc j) next after) (d : (k : ℕ) → T (bit next k) → Done live rest k)
        (x : Rest live rest) (l : Lowest 64 rest t) (e : rest' ≡ remove 64 rest t) (h : v ≡ add_if next t b) (y : Says b ((k : ℕ) × T (bit a.new k))) where
      out : (s : ℕ) → T (bit v s) → T (bit next s) ⊎ (s ≡ t)
      out s u = add_out next t b s (subst (λ (z : ℕ). T (bit z s)) h u)

      pub front_turn : Fronts m' states (suc j) v after'
      front_turn = record { holds = λ s q u w. holds s q u w (ℕ_discrete s t); inside = λ s u. ⊎_elim (λ z. f.inside s z) (λ z. subst (λ (y : ℕ). y < states) (sym z) below) (out s u); has = λ s q hs hq u. has s q hs hq u (ℕ_discrete s t) }
        where
          holds : (s q : ℕ) → T (bit v s) → T (bit (get_or after' s 0) q) → Dec (s ≡ t) → (s < states) × (q < table_states) × (view m' s q ≡ suc j)
          holds s q u w (yes z) =
              let n : T (bit a.new q) = subst (λ (y : ℕ). T (bit y q)) (ap (λ (y : ℕ). get_or after' y 0) z ∙ stored_here) w in
              (subst (λ (y : ℕ). y < states) (sym z) below, in_word q a.fits n, ap (λ (y : ℕ). view m' y q) z ∙ new_here q n)
          holds s q u w (no z) =
              let o = f.holds s q (⊎_elim (λ k. k) (λ k. absurd (z k)) (out s u)) (subst (λ (y : ℕ). T (bit y q)) (stored_other s z) w) in
              (o.0, o.1, row_other s q o.1 z ∙ o.2)

          has : (s q : ℕ) → s < model_states → q < table_states → view m' s q ≡ suc j → Dec (s ≡ t) → T (bit v s) × T (bit (get_or after' s 0) q)
          has s q hs hq u (yes z) =
              let n : T (bit a.new q) = here_new q (λ k. done_not x l e (d t (f.has t q (omega arith) hq k).0)) (ap (λ (y : ℕ). view m' y q) (sym z) ∙ u) in
              let w : T (bit (get_or after' t 0) q) = subst (λ (y : ℕ). T (bit y q)) (sym stored_here) n in
              (subst (λ (y : ℕ). T (bit v y)) (sym z) (subst (λ (y : ℕ). T (bit y t)) (sym h) (add_new next t b (says_in y (q, n)))), subst (λ (y : ℕ). T (bit (get_or after' y 0) q)) (sym z) w)
          has s q hs hq u (no z) =
              let o = f.has s q hs hq (sym (row_other s q hq z) ∙ u) in
              (subst (λ (y : ℕ). T (bit y s)) (sym h) (add_old next t b s o.0), subst (λ (y : ℕ). T (bit y q)) (sym (stored_other s z)) o.1)

      pub front_done : (k : ℕ) → T (bit v k) → Done live rest' k
      front_done k u = ⊎_elim (λ z. done_older x l e k (d k z)) (λ z. subst (Done live rest') (sym z) (done_newest x l e)) (out k u)

-- nothing is on a level that no mark has
pub front_none : {m queue : List ℕ} {states j c : ℕ} (after : List ℕ) → Queued j m queue c → Fronts m states (suc j) 0 after
front_none after x = record {
  holds = λ s q t u. absurd (false_no (bit_zero s) t);
  inside = λ s t. absurd (false_no (bit_zero s) t);
  has = λ s q hs hq e. let y = x.low (pair_at s q) (omega arith) in absurd (omega arith);
}
