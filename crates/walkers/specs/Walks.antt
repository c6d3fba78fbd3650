-- What a walk over a sequence of letters gives. Assumes nothing: these are definitions.
use Rattle.std.specs.Prelude.{Bool, true, cond, ℕ, ◌+◌, ◌≤◌, ◌≡◌, ◌↔◌, List, [], ◌∷◌, ltb, length, Result, Ok}
use Rattle.definitions.specs.Definition1.{Rule}
use Rattle.definitions.specs.Definition2.{letter_count, Sat}
use Rattle.definitions.specs.Numbers.{short_slice_number, bad_letter_number}
use Rattle.walkers.specs.declared.Walker.{Walker}
use Rattle.walkers.specs.declared.Refusal.{Refusal}
use Rattle.automata.specs.Table.{table_states, table_entries, table_of}
use Rattle.automata.specs.Promise.{Letters, Serves}
use Rattle.steps.specs.Moves.{advanced, meets}
use Rattle.walkers.specs.Steps.{start_of, Reply, flag, refusal, reply_of, step_of}

-- the letters from place i on: the first that is no letter is refused, and after the last it is told whether a final is in the set
unfoldable pub follow_from : List ℕ → ℕ → ℕ → ℕ → List ℕ → Reply
follow_from t finals set i [] = flag (meets set finals)
follow_from t finals set i (x ∷ w) = cond (ltb x letter_count) (follow_from t finals (advanced t set x) (i + 1) w) (refusal bad_letter_number i)

-- all letters, from a set
unfoldable pub follow_set : List ℕ → ℕ → ℕ → List ℕ → Reply
follow_set t finals set w = cond (ltb (length t) table_entries) (refusal short_slice_number 0) (follow_from t finals set 0 w)

-- all letters, from {0}
unfoldable pub follow_of : List ℕ → ℕ → List ℕ → Reply
follow_of t finals w = cond (ltb (length t) table_entries) (refusal short_slice_number 0) (follow_from t finals (start_of finals).set 0 w)

-- an answer of `follow` in the paper's terms
abbrev pub ending : Result Bool Refusal → Reply
ending = reply_of

-- what the last step of a walker tells; before any, what `before` says
unfoldable pub last_says : List ℕ → Walker → Reply → List ℕ → Reply
last_says t w before [] = before
last_says t w before (x ∷ l) = last_says t (step_of t w x).walker (step_of t w x).says l

-- over a table that serves a rule, all of its states counted, yes is said exactly if Definition 2 accepts the letters
pub record Follows (t : List ℕ) (finals : ℕ) (w : List ℕ) (answer : Result Bool Refusal) : Type 0 where
  pub follows : (r : Rule) → Serves (table_of t table_states finals) r → table_entries ≤ length t → Letters w → (answer ≡ Ok true) ↔ Sat r w
