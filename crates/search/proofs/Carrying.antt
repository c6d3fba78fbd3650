-- What is right of the model without the states from which no endless run leaves is right of the runs that can be continued for ever. Assumes nothing.
use Prim.Native.Nat.{ℕ, ◌/◌, ◌%◌}
use mathlib.Core.Path.{◌≡◌, refl, sym, subst}
use mathlib.Core.List.{List}
use Rattle.definitions.specs.Definition1.{Rule}
use Rattle.definitions.specs.Definition2.{Sat}
use Rattle.automata.specs.Table.{Table, Goes}
use Rattle.models.specs.Model.{Model, Run, spelled}
use Rattle.models.specs.declared.ModelData.{ModelData}
use Rattle.models.specs.Stored.{model_of}
use Rattle.lasting.specs.Endless.{LastingRun, LastingSet}
use Rattle.lasting.specs.Alive.{alive}
use Rattle.lasting.specs.Stored.{WithoutDeadEnds}
use Rattle.lasting.proofs.Ways.{lasting_alive, alive_lasting}
use Rattle.passes.specs.declared.inner.Searched.{Searched}
use Rattle.levels.specs.Right.{RunKind, Matches, Shown, Reached, Pairs, Answer, found, nothing, Right, Bounded}
use Rattle.passes.specs.Told.{answer_of, SearchedTable}
use Rattle.levels.proofs.Tally.{count_map}

-- ---- two kinds of runs that are the same rows of states and spell the same

module _ (P Q : RunKind) (M N : Model) (same : (r : List ℕ) → spelled M r ≡ spelled N r) (to : (r : List ℕ) → P M r → Q N r) (from : (r : List ℕ) → Q N r → P M r) where
  match_to : (f : Rule) (r : List ℕ) → Matches P M f r → Matches Q N f r
  match_to f r h = (to r h.0, subst (Sat f) (same r) h.1)

  match_from : (f : Rule) (r : List ℕ) → Matches Q N f r → Matches P M f r
  match_from f r h = (from r h.0, subst (Sat f) (sym (same r)) h.1)

  shown_to : (f : Rule) (r : List ℕ) → Shown P M f r → Shown Q N f r
  shown_to f r h = record {
    matches = match_to f r h.matches;
    shortest = λ u m. h.shortest u (match_from f u m);
    first = λ u m. h.first u (match_from f u m);
  }

  module _ (A : Table) {In : ℕ → Type 0} where
    reached_to : (s q : ℕ) → Reached P M A In s q → Reached Q N A In s q
    reached_to s q h = record { run = h.run; is_run = to h.run h.is_run; inside = h.inside; ends = h.ends; goes = subst (λ (w : List ℕ). Goes A 0 w q) (same h.run) h.goes }

    reached_from : (s q : ℕ) → Reached Q N A In s q → Reached P M A In s q
    reached_from s q h = record { run = h.run; is_run = from h.run h.is_run; inside = h.inside; ends = h.ends; goes = subst (λ (w : List ℕ). Goes A 0 w q) (sym (same h.run)) h.goes }

    pairs_to : {c : ℕ} → Pairs P M A In c → Pairs Q N A In c
    pairs_to k = count_map k (λ i h. reached_to (i / 64) (i % 64)) (λ i h. reached_from (i / 64) (i % 64))

  pub right_to : (A : Table) (f : Rule) (a : Answer) → Right P M A f a → Right Q N A f a
  right_to A f (found r c) h = (shown_to f r h.0, pairs_to A h.1)
  right_to A f (nothing c) h = (λ r m. h.0 r (match_from f r m), pairs_to A h.1)

-- ---- runs of the model without those states, and runs that can be continued for ever

module _ (M : Model) (w : ℕ) (lasts : LastingSet M w) (A : Table) (f : Rule) (a : Answer) where
  pub right_lasting : Right Run (alive M w) A f a → Right LastingRun M A f a
  right_lasting = right_to Run LastingRun (alive M w) M (λ r. refl) (alive_lasting M w lasts) (lasting_alive M w lasts) A f a

  pub lasting_right : Right LastingRun M A f a → Right Run (alive M w) A f a
  lasting_right = right_to LastingRun Run M (alive M w) (λ r. refl) (lasting_alive M w lasts) (alive_lasting M w lasts) A f a

-- the bounds speak of the number of states, which is kept
bounded_lasting : (M : Model) (w : ℕ) (A : Table) (a : Answer) → Bounded (alive M w) A a → Bounded M A a
bounded_lasting M w A (found r c) h = h
bounded_lasting M w A (nothing c) h = h

-- so the search of what is left is the search of the model
pub searched_lasting : {m r : ModelData} {A : Table} {x : Searched} {marks marks' useful useful' run run' : List ℕ} → WithoutDeadEnds m r
    → SearchedTable Run (model_of r) A x marks marks' useful useful' run run' → SearchedTable LastingRun (model_of m) A x marks marks' useful useful' run run'
searched_lasting {m} {r} {A} {x} {marks} {marks'} {useful} {useful'} {run} {run'} d y = go (subst (λ (N : Model). SearchedTable Run N A x marks marks' useful useful' run run') d.is_alive y)
  where
    go : SearchedTable Run (alive (model_of m) d.set) A x marks marks' useful useful' run run' → SearchedTable LastingRun (model_of m) A x marks marks' useful useful' run run'
    go z = record {
      answers = record {
        right = λ f s. right_lasting (model_of m) d.set d.exactly A f (answer_of x run') (z.answers.right f s);
        bounded = bounded_lasting (model_of m) d.set A (answer_of x run') z.answers.bounded;
        run_kept = z.answers.run_kept;
      };
      marks_clear = z.marks_clear;
      useful_clear = z.useful_clear;
    }
