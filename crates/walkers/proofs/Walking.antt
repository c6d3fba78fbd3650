-- A walker over a table that serves a rule follows the rule, over every length. Assumes nothing.
use Prim.Native.Nat.{ℕ, ◌+◌, ◌<◌, ◌≤◌}
use native.Mathlib.Omega.{arith}
use mathlib.Core.Path.{◌≡◌, refl, ap, ◌∙◌}
use mathlib.Core.Logic.Iff
use mathlib.Core.Logic.{◌↔◌}
use mathlib.Core.Bool.{Bool, true, false}
use mathlib.Core.List.{List, [], ◌∷◌}
use lib.Dec.{T}
use lib.ListN.{length}
use borrow.Author.Tests.{lt-ltb, le-ltb}
use Rattle.bits.specs.Word.{bit}
use Rattle.bits.proofs.Truths.{true_T, T_true}
use Rattle.definitions.specs.Definition1.{Rule}
use Rattle.definitions.specs.Definition2.{letter_count, Sat}
use Rattle.automata.specs.Table.{table_states, table_entries, table_of}
use Rattle.automata.specs.Promise.{Letters, Serves}
use Rattle.steps.specs.Moves.{advanced, meets, walked}
use Rattle.steps.proofs.Walking.{start_meets, walk_accepts}
use Rattle.walkers.specs.declared.Walker.{Walker}
use Rattle.walkers.specs.Steps.{largest_count, start_of, Reply, flag, led_to_of, moved_by, step_of}
use Rattle.walkers.specs.Walks.{follow_from, follow_of, last_says}

-- over letters and a long table nothing is refused
module _ (t : List ℕ) (long : table_entries ≤ length t) where
  -- nor while the count has room
  step_moves : (w : Walker) (x : ℕ) → x < letter_count → w.taken < largest_count → step_of t w x ≡ moved_by t w x
  unfolding step_of
  step_moves w x l k = rw (le-ltb (length t) table_entries long, lt-ltb x letter_count l, lt-ltb w.taken largest_count k)

  last_from_lem : (v : Walker) (w : List ℕ) → Letters w → v.taken + length w ≤ largest_count → last_says t v (flag (meets v.set v.finals)) w ≡ flag (meets (walked t v.set w) v.finals)
  unfolding last_says
  last_from_lem v [] h s = refl
  last_from_lem v (x ∷ w) h s = rw (step_moves v x h.0 (omega arith)) (last_from_lem (led_to_of v (advanced t v.set x)) w h.1 (omega arith))

  -- the last flag of a walker that starts at {0}; before any step, whether 0 is final
  pub walker_walks : (finals : ℕ) (w : List ℕ) → Letters w → length w ≤ largest_count → last_says t (start_of finals) (flag (bit finals 0)) w ≡ flag (meets (walked t 1 w) finals)
  walker_walks finals w h s = rw (start_meets finals) at (last_from_lem (start_of finals) w h (omega arith))

  follow_from_lem : (finals set i : ℕ) (w : List ℕ) → Letters w → follow_from t finals set i w ≡ flag (meets (walked t set w) finals)
  unfolding follow_from
  follow_from_lem finals set i [] h = refl
  follow_from_lem finals set i (x ∷ w) h = rw (lt-ltb x letter_count h.0) (follow_from_lem finals (advanced t set x) (i + 1) w h.1)

  pub follow_walks : (finals : ℕ) (w : List ℕ) → Letters w → follow_of t finals w ≡ flag (meets (walked t 1 w) finals)
  unfolding follow_of
  follow_walks finals w h = rw (le-ltb (length t) table_entries long) (follow_from_lem finals 1 0 w h)

flag_is : (o : Reply) (b : Bool) → o ≡ flag b → (o ≡ flag true) ↔ T b
flag_is o b e = (λ d. let z : b ≡ true = cc in true_T z, λ s. e ∙ ap flag (T_true b s))

-- a flag that is true exactly if P is false exactly if P is not
flag_not : {P : Type 0} (o : Reply) (b : Bool) → o ≡ flag b → (o ≡ flag true) ↔ P → (o ≡ flag false) ↔ (P → ⊥)
flag_not o true e h = (λ q. absurd (let z : ◌≡◌ {A = ℕ} 0 1 = cc in omega arith), λ n. absurd (n (h.0 e)))
flag_not o false e h = (λ q p. let y = h.1 p in let z : ◌≡◌ {A = ℕ} 0 1 = cc in omega arith, λ n. e)

module _ (r : Rule) (t : List ℕ) (f : ℕ) (serves : Serves (table_of t table_states f) r) (long : table_entries ≤ length t) (w : List ℕ) (letters : Letters w) where
  walk_sat : T (meets (walked t 1 w) f) ↔ Sat r w
  walk_sat = Iff.trans (walk_accepts t f w) (serves.sound w letters, serves.complete w letters)

  -- the last flag of a fresh walker is true exactly if the rule accepts the letters
  pub walker_sat : length w ≤ largest_count → (last_says t (start_of f) (flag (bit f 0)) w ≡ flag true) ↔ Sat r w
  walker_sat s = Iff.trans (flag_is (last_says t (start_of f) (flag (bit f 0)) w) (meets (walked t 1 w) f) (walker_walks t long f w letters s)) walk_sat

  pub walker_unsat : length w ≤ largest_count → (last_says t (start_of f) (flag (bit f 0)) w ≡ flag false) ↔ (Sat r w → ⊥)
  walker_unsat s = flag_not (last_says t (start_of f) (flag (bit f 0)) w) (meets (walked t 1 w) f) (walker_walks t long f w letters s) (walker_sat s)

  -- `follow` says yes exactly if the rule accepts the letters
  pub follow_sat : (follow_of t f w ≡ flag true) ↔ Sat r w
  follow_sat = Iff.trans (flag_is (follow_of t f w) (meets (walked t 1 w) f) (follow_walks t long f w letters)) walk_sat

  pub follow_unsat : (follow_of t f w ≡ flag false) ↔ (Sat r w → ⊥)
  follow_unsat = flag_not (follow_of t f w) (meets (walked t 1 w) f) (follow_walks t long f w letters) follow_sat
