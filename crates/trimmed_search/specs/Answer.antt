-- What a search over the trimmed table comes to, for every rule, every model and every four slices. Assumes nothing: these are definitions.
use Rattle.std.specs.Prelude.{ℕ, List}
use Rattle.definitions.specs.Definition1.{Rule}
use Rattle.rules.specs.Weight.{weight_of}
use Rattle.rules.specs.Answer.{AcceptedAs, known_of}
use Rattle.automata.specs.Table.{table_of}
use Rattle.automata.specs.IsTable.{Words}
use Rattle.tables.specs.Answer.{BuildRight, tabled}
use Rattle.trims.specs.Answer.{TrimRight, trimmed}
use Rattle.models.specs.Model.{Model}
use Rattle.levels.specs.Right.{Answer}
use Rattle.search.specs.Answer.{Slices, Result, SearchDone, CallRight}

-- the slice t becomes t' by building the rule's table and then trimming it, to n states with finals f; it is `built` between the two
pub record TrimmedFor (rule : List ℕ) (meant : Rule) (t t' : List ℕ) (n f : ℕ) : Type 0 where
  pub built : List ℕ
  pub finals : ℕ
  pub words : Words built
  pub build : BuildRight rule t built (tabled (known_of meant) finals)
  pub trim : TrimRight built t' (weight_of meant) finals (trimmed n f)

-- the bytes are the rule `meant`, and the table slice begins with its trimmed table, which was searched
pub record TrimmedSearches (rule : List ℕ) (meant : Rule) (M : Model) (before after : Slices) (r : Answer) : Type 0 where
  pub weight : ℕ
  pub finals : ℕ
  pub accepted : AcceptedAs rule meant
  pub table : TrimmedFor rule meant before.table after.table weight finals
  pub done : SearchDone M (table_of after.table weight finals) meant before after r

-- the right result: the refusals of `search`; else the search of the trimmed table
abbrev pub TrimmedSearchRight : List ℕ → List ℕ → Slices → Slices → Result → Type 0
TrimmedSearchRight rule model before after = CallRight (TrimmedSearches rule) rule model before after
