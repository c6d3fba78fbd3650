-- What a search is given, as one thing. Assumes nothing.
use Prim.Native.Nat.{ℕ}
use mathlib.Core.List.{List}
use Rattle.automata.specs.Table.{Table}
use Rattle.automata.proofs.TableOf.{edge_out}
use Rattle.models.specs.Model.{Model}
use Rattle.levels.specs.declared.shape.Sizes.{Sizes}
use Rattle.levels.specs.declared.searching.Searching.{Searching}
use Rattle.levels.specs.Lent.{model_in_of, table_in, LentTable, LentLetters}
use Rattle.levels.specs.inner.Passes.{labels_in}
use Rattle.levels.proofs.Level.{Fair}

-- the sizes and sets, the lent labels, letters and successors, and what is asked of them
pub record SearchInput : Type 0 where
  pub sizes : Sizes
  pub labels : List ℕ
  pub letters : List ℕ
  pub successors : List ℕ
  pub table : LentTable labels sizes.weight
  pub model : LentLetters letters sizes.states

abbrev pub input_of : (sizes : Sizes) (labels letters successors : List ℕ) → LentTable labels sizes.weight → LentLetters letters sizes.states → SearchInput
input_of sizes labels letters successors table model = record { sizes = sizes; labels = labels; letters = letters; successors = successors; table = table; model = model }

-- that of the passes
abbrev pub input_in : Searching → SearchInput
input_in s = input_of s.sizes s.table.now s.letters.now s.successors.now s.lent.labels s.lent.model

-- the model and the table that are searched, and the table's labels alone
abbrev pub model_for : SearchInput → Model
model_for g = model_in_of g.sizes g.letters g.successors

abbrev pub table_for : SearchInput → Table
table_for g = table_in g.sizes g.labels

abbrev pub labels_for : SearchInput → Table
labels_for g = labels_in g.sizes g.labels

pub fair : (g : SearchInput) → Fair (model_for g) (table_for g)
fair g = record {
  few = g.model.few;
  small = g.table.small;
  within = λ p x q e. (edge_out g.labels g.sizes.weight g.sizes.finals p x q e).1;
  root = g.table.unentered;
}
