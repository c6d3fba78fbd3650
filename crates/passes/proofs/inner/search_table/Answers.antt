-- `search::inner::search_table` meets its contract. What is cleared at the end stays so.
-- Assumes nothing.
use mathlib.Core.Path.{◌∙◌}
use native.Mathlib.Omega.{arith}
use Rattle.automata.specs.Table.{table_entries}
use Rattle.tables.proofs.promise.Beyonds.{beyond_then}
use Rattle.steps.proofs.Adding.{zeros_at}
use Rattle.levels.specs.inner.Passes.{useful_sets}
use Rattle.passes.proofs.Finding.{cleared_again, kept_size}
use Rattle.passes.proofs.inner.search_table.Goals as goal

pub model_rows-requires : goal.model_rows-requires
model_rows-requires c = (c.requires.0, c.requires.1, omega arith, λ i. zeros_at table_entries i)

pub clear-requires : goal.clear-requires
clear-requires c = c.requires.3

pub invariant_of-search : goal.invariant_of-search
invariant_of-search c = record { lent = record { labels = c.requires.0; model = c.requires.1; by_letter = c.model_rows.ensures.1 }; long = c.requires.2 }

pub passes-answer-requires : goal.passes-answer-requires
passes-answer-requires c = let p = c.requires in
    let e = c.clear.ensures in
    (record { marks_long = omega (arith, p.3, e.beyond.size); queue_long = p.4 }, omega arith, p.5, e.zeros, λ i. zeros_at useful_sets i)

pub overflow_mul-used : goal.overflow_mul-used
overflow_mul-used c = record { fits = omega (arith, c.requires.1.few, c.requires.0.small) }

pub clear-requires-2 : goal.clear-requires-2
clear-requires-2 c = omega (arith, c.requires.1.few, c.requires.0.small, c.requires.3, c.clear.ensures.beyond.size, c.passes-answer.ensures.1.size)

pub clear-requires-3 : goal.clear-requires-3
clear-requires-3 c = omega (arith, c.requires.4, c.passes-answer.ensures.2.size)

pub shape_of-marks : goal.shape_of-marks
shape_of-marks c = c.clear-2.ensures.beyond.size ∙ c.passes-answer.ensures.1.size ∙ c.clear.ensures.beyond.size

pub shape_of-queue : goal.shape_of-queue
shape_of-queue c = c.clear-3.ensures.beyond.size ∙ c.passes-answer.ensures.2.size

pub shape_of-run : goal.shape_of-run
shape_of-run c = kept_size c.passes-answer.result.found _ _ c.passes-answer.ensures.0.run_kept

pub returns : goal.returns
returns c = let e = c.passes-answer.ensures in
    let few = c.requires.1.few in
    record { answers = e.0; marks_clear = cleared_again (omega arith) c.clear.ensures e.1 c.clear-2.ensures; useful_clear = record { zeros = c.clear-3.ensures.zeros; beyond = beyond_then e.2 c.clear-3.ensures.beyond } }
