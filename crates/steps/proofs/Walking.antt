-- A walk by sets ends in a final exactly if the table, all of its states counted, accepts the letters. Assumes nothing.
use Prim.Native.Nat.{ℕ, zero, suc, ◌<◌}
use native.Mathlib.Omega.{arith}
use mathlib.Core.Path.{◌≡◌, refl}
use mathlib.Core.Logic.{◌↔◌}
use mathlib.Core.Bool.{◌&&◌}
use mathlib.Core.List.{List, [], ◌∷◌}
use lib.Dec.{T}
use Rattle.bits.specs.Word.{bit, any}
use Rattle.bits.proofs.Laws.{bit_word, bit_suc, bit_zero, bit_low}
use Rattle.bits.proofs.Truths.{any_T, and_T, true_T, same_truth}
use Rattle.automata.specs.Table.{table_states, cell, Table, table_of, Goes, Accepts}
use Rattle.automata.proofs.TableOf.{edge_out, edge_in, final_out, final_in}
use Rattle.steps.specs.Moves.{advanced, meets, walked}

-- the set {0}
only_0 : (p : ℕ) → T (bit 1 p) → p ≡ 0
only_0 zero s = refl
only_0 (suc p) s = absurd (rw (bit_suc 1 p, bit_zero p) at s)

has_0 : T (bit 1 0)
has_0 = true_T (bit_low 1)

-- before any step: whether 0 is final
pub start_meets : (f : ℕ) → meets 1 f ≡ bit f 0
unfolding meets
start_meets f = same_truth (any table_states (λ q. bit 1 q && bit f q)) (bit f 0) out back
  where
    out : T (any table_states (λ q. bit 1 q && bit f q)) → T (bit f 0)
    out s =
        let h = (any_T table_states (λ q. bit 1 q && bit f q)).0 s in let k = (and_T (bit 1 h.0) (bit f h.0)).0 h.2 in
        rw (only_0 h.0 k.0) at k.1

    back : T (bit f 0) → T (any table_states (λ q. bit 1 q && bit f q))
    back s = (any_T table_states (λ q. bit 1 q && bit f q)).1 (0, omega arith, (and_T (bit 1 0) (bit f 0)).1 (has_0, s))

-- a member of the set after a step
pub advanced_T : (t : List ℕ) (set x q : ℕ) → q < table_states → T (bit (advanced t set x) q) ↔ ((p : ℕ) × (p < table_states) × T (bit set p && bit (cell t p q) x))
unfolding advanced
advanced_T t set x q l =
    rw (bit_word table_states (λ q. any table_states (λ p. bit set p && bit (cell t p q) x)) q l) (any_T table_states (λ p. bit set p && bit (cell t p q) x))

-- some member of the set accepts w
pub record Some (A : Table) (set : ℕ) (w : List ℕ) : Type 0 where
  pub state : ℕ
  pub small : state < table_states
  pub member : T (bit set state)
  pub end : ℕ
  pub goes : Goes A state w end
  pub final : T (A.final end)

module _ (t : List ℕ) (f : ℕ) where
  abbrev A : Table
  A = table_of t table_states f

  ends_out : (set : ℕ) → T (meets set f) → Some A set []
  unfolding meets
  ends_out set s =
      let h = (any_T table_states (λ q. bit set q && bit f q)).0 s in let k = (and_T (bit set h.0) (bit f h.0)).0 h.2 in
      record { state = h.0; small = h.1; member = k.0; end = h.0; goes = refl; final = final_in table_states f h.0 h.1 k.1 }

  ends_in : (set : ℕ) → Some A set [] → T (meets set f)
  unfolding meets
  ends_in set h =
      let k = final_out table_states f h.end h.final in let m : T (bit set h.end) = rw h.goes at h.member in
      (any_T table_states (λ q. bit set q && bit f q)).1 (h.end, k.0, (and_T (bit set h.end) (bit f h.end)).1 (m, k.1))

  step_out : (set x : ℕ) (w : List ℕ) → Some A (advanced t set x) w → Some A set (x ∷ w)
  step_out set x w h =
      let k = (advanced_T t set x h.state h.small).0 h.member in
      let z = (and_T (bit set k.0) (bit (cell t k.0 h.state) x)).0 k.2 in
      record {
        state = k.0;
        small = k.1;
        member = z.0;
        end = h.end;
        goes = (h.state, edge_in t table_states f k.0 x h.state k.1 h.small z.1, h.goes);
        final = h.final;
      }

  step_in : (set x : ℕ) (w : List ℕ) → Some A set (x ∷ w) → Some A (advanced t set x) w
  step_in set x w h =
      let q = h.goes.0 in
      let e = edge_out t table_states f h.state x q h.goes.1 in
      record {
        state = q;
        small = e.1;
        member = (advanced_T t set x q e.1).1 (h.state, e.0, (and_T (bit set h.state) (bit (cell t h.state q) x)).1 (h.member, e.2));
        end = h.end;
        goes = h.goes.2;
        final = h.final;
      }

  -- a final is among the states at the end exactly if some state of the start accepts the letters
  pub walk_out : (set : ℕ) (w : List ℕ) → T (meets (walked t set w) f) → Some A set w
  walk_out set [] s = ends_out set s
  walk_out set (x ∷ w) s = step_out set x w (walk_out (advanced t set x) w s)

  pub walk_in : (set : ℕ) (w : List ℕ) → Some A set w → T (meets (walked t set w) f)
  walk_in set [] s = ends_in set s
  walk_in set (x ∷ w) s = walk_in (advanced t set x) w (step_in set x w s)

  pub walk_accepts : (w : List ℕ) → T (meets (walked t 1 w) f) ↔ Accepts A w
  walk_accepts w = (
    λ s. let k = walk_out 1 w s in (k.end, rw (only_0 k.state k.member) at k.goes, k.final),
    λ s. walk_in 1 w (record { state = 0; small = omega arith; member = has_0; end = s.0; goes = s.1; final = s.2 }),
  )
