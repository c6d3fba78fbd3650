-- From the ends of the passes to what the search promises. Assumes nothing.
use Prim.Native.Nat.{ℕ, ◌≤◌, ◌<◌}
use mathlib.Core.Path.{◌≡◌, refl, sym, ap, subst, ◌∙◌}
use mathlib.Core.Bool.{true, false}
use mathlib.Core.List.{List}
use native.Mathlib.Omega.{arith}
use native.Mathlib.Decide.{dec_lt}
use Rattle.std.specs.Prelude.{Option, Some, None}
use native.Mathlib.Nat.{lt_of_le_of_lt}
use lib.ListN.{length, get_or, take}
use lib.Seq.{get_or-take, length-take-le}
use Rattle.automata.specs.Table.{Table}
use Rattle.tables.specs.Beyond.{Beyond}
use Rattle.tables.proofs.promise.Beyonds.{beyond_then, beyond_more}
use Rattle.automata.proofs.TableOf.{final_out}
use Rattle.models.specs.Model.{Model, Run}
use Rattle.levels.specs.Lent.{Cleared, pair_count}
use Rattle.passes.specs.Told.{RunKept, Answers}
use Rattle.levels.specs.inner.Passes.{Nz, view, Marked, Ended, Useful, Pickable, Picked}
use Rattle.levels.specs.inner.Waves.{Queued}
use Rattle.levels.proofs.SearchInput.{SearchInput, model_for, table_for, fair}
use Rattle.levels.proofs.Answered.{left_at_start, right_nothing, right_found, bounded_nothing, bounded_found}

module _ (G : SearchInput) where
  abbrev A : Table
  A = table_for G

  abbrev M : Model
  M = model_for G

  -- nothing found
  pub answers_nothing : (k c : ℕ) (m run : List ℕ) → Ended M A false k c m → Answers Run M A (record { found = None; pairs = c }) run run
  answers_nothing k c m run e = record {
    right = λ f s. right_nothing M A f (fair G) s G.model.small k c m e;
    bounded = bounded_nothing M A (fair G) k c m e;
    run_kept = refl;
  }

  module _ (k c : ℕ) (m : List ℕ) (ended : Ended M A true k c m) where
    -- the level is a small number
    pub level_small : k < pair_count
    level_small = omega (arith, (ended.some_final refl).1, ended.marked.few)

    pub pickable : (u : List ℕ) → Useful M A k (view m) 1 (view u) → Pickable M A k m u
    pickable u x = record {
      count = c;
      marked = ended.marked;
      useful = x;
      some = left_at_start M A (fair G) k c m ended.marked (λ q h. (final_out G.sizes.weight G.sizes.finals q h).0) (ended.some_final refl).0;
    }

    -- found, with the run that was picked
    pub answers_found : (run run' : List ℕ) → Picked M A k (take k run') → Beyond k run run' → k ≤ length run' → Answers Run M A (record { found = Some k; pairs = c }) run run'
    answers_found run run' p y l = record {
      right = λ f s. right_found M A f (fair G) s G.model.small k c m ended (take k run') p;
      bounded = bounded_found M A (fair G) k c m ended (take k run') p.size;
      run_kept = (l, y);
    }

-- what is listed, as a slice of the queue
module _ (k c : ℕ) (m queue : List ℕ) (h : c ≤ length queue) where
  pub listed_marked : {M : Model} {A : Table} → Marked M A k c m → Marked M A k (length (take c queue)) m
  listed_marked {M} {A} x = subst (λ (n : ℕ). Marked M A k n m) (sym (length-take-le c queue h)) x

  pub listed_queued : Queued k m queue c → Queued k m (take c queue) (length (take c queue))
  listed_queued x = subst (λ (n : ℕ). Queued k m (take c queue) n) (sym (length-take-le c queue h)) (record {
    counted = x.counted;
    low = x.low;
    listed = λ i l n. let y = x.listed i l n in (y.0, y.1, get_or-take c queue y.0 0 y.1 ∙ y.2);
    marked = λ i l. subst (λ (a : ℕ). (a < pair_count) × Nz m a) (sym (get_or-take c queue i 0 l)) (x.marked i l);
    rising = λ i l le lt. rw (get_or-take c queue i 0 (lt_of_le_of_lt le lt), get_or-take c queue l 0 lt) (x.rising i l le lt);
  })

-- cleared, worked on, and cleared again
pub cleared_again : {n w : ℕ} {a b d e : List ℕ} → w ≤ n → Cleared n a b → Beyond w b d → Cleared w d e → Cleared n a e
cleared_again {n} {w} {e = e} l x y z = record { zeros = λ i h. at i h (dec_lt i w); beyond = beyond_then (beyond_then x.beyond (beyond_more y l)) (beyond_more z.beyond l) }
  where
    at : (i : ℕ) → i < n → Dec (i < w) → get_or e i 0 ≡ 0
    at i h (yes k) = z.zeros i k
    at i h (no k) = z.beyond.rest i (omega arith) ∙ y.rest i (omega arith) ∙ x.zeros i h

-- the output keeps its length
pub kept_size : (a : Option ℕ) (run run' : List ℕ) → RunKept a run run' → length run' ≡ length run
kept_size (Some long) run run' x = x.1.size
kept_size None run run' x = ap length x
