-- What the search over a table promises; `Runs` says which runs count. Assumes nothing: these are definitions.
use Rattle.std.specs.Prelude.{ℕ, ◌≤◌, ◌≡◌, List, Option, Some, None, length, take}
use Rattle.definitions.specs.Definition1.{Rule}
use Rattle.automata.specs.Table.{Table}
use Rattle.automata.specs.Promise.{Serves}
use Rattle.models.specs.Model.{Model}
use Rattle.tables.specs.Beyond.{Beyond}
use Rattle.passes.specs.declared.inner.Searched.{Searched}
use Rattle.levels.specs.Right.{RunKind, Answer, found, nothing, Right, Bounded}
use Rattle.levels.specs.Lent.{pair_count, Cleared}

-- the answer that is given back: the run is what the output begins with
abbrev pub answer_for : Option ℕ → ℕ → List ℕ → Answer
answer_for (Some long) pairs run = found (take long run) pairs
answer_for None pairs run = nothing pairs

abbrev pub answer_of : Searched → List ℕ → Answer
answer_of s run = answer_for s.found s.pairs run

-- the output past a run of that length is as it was, and all of it where there is none
abbrev pub RunKept : Option ℕ → List ℕ → List ℕ → Type 0
RunKept (Some long) run run' = (long ≤ length run') × Beyond long run run'
RunKept None run run' = run' ≡ run

-- the answer is right for every rule that the table serves, it is bounded, and the output is left as said
pub record Answers (Runs : RunKind) (M : Model) (A : Table) (answer : Searched) (run run' : List ℕ) : Type 0 where
  pub right : (f : Rule) → Serves A f → Right Runs M A f (answer_of answer run')
  pub bounded : Bounded M A (answer_of answer run')
  pub run_kept : RunKept answer.found run run'

-- and the working slices are clear
pub record SearchedTable (Runs : RunKind) (M : Model) (A : Table) (answer : Searched) (marks marks' useful useful' run run' : List ℕ) : Type 0 where
  pub answers : Answers Runs M A answer run run'
  pub marks_clear : Cleared pair_count marks marks'
  pub useful_clear : Cleared pair_count useful useful'
