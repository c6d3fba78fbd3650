-- The model and the table that a search goes through. Assumes nothing: these are definitions.
use Rattle.automata.specs.Table.{Table}
use Rattle.models.specs.Model.{Model}
use Rattle.levels.specs.declared.searching.Searching.{Searching}
use Rattle.levels.specs.Lent.{model_in_of, table_in}
use Rattle.levels.specs.inner.Passes.{labels_in}

abbrev pub its_model : Searching → Model
its_model s = model_in_of s.sizes s.letters.now s.successors.now

abbrev pub its_table : Searching → Table
its_table s = table_in s.sizes s.table.now

-- the table's labels alone
abbrev pub its_labels : Searching → Table
its_labels s = labels_in s.sizes s.table.now
