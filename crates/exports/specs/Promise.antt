-- What each call of the C interface promises: the numbers are those of an answer that is right for what was given and for what the lent slices hold after it.
-- Assumes nothing: these are definitions.
use Rattle.std.specs.Prelude as std
use Rattle.std.specs.Prelude.{ℕ, ◌≡◌, List}
use Rattle.tables.specs.Answer.{TableAnswer}
use Rattle.tables.specs.Answer as tables
use Rattle.judge.specs.Verdict as judge
use Rattle.std.specs.Prelude as std
use Rattle.models.specs.declared.Refusal as model-refusal
use Rattle.lasting.specs.declared.LastingStates.{LastingStates}
use Rattle.lasting.specs.Answer as lasting
use Rattle.search.specs.Answer.{SearchAnswer}
use Rattle.search.specs.Answer as search
use Rattle.trims.specs.declared.Refusal as trims-refusals
use Rattle.trims.specs.declared.TrimmedTable.{TrimmedTable}
use Rattle.trims.specs.Answer as trims
use Rattle.trimmed_search.specs.Answer.{TrimmedSearchRight}
use Rattle.letter_rows.specs.declared.Refusal as rows-refusals
use Rattle.letter_rows.specs.Answer as rows
use Rattle.formula_models.specs.declared.Refusal as formula-refusal
use Rattle.formula_models.specs.Answer as formula_answer
use Rattle.texts.specs.Answer.{TextAnswer}
use Rattle.texts.specs.Answer as texts
use Rattle.c_answers.specs.declared.building.GcBuilt.{GcBuilt}
use Rattle.c_answers.specs.declared.judging.GcJudged.{GcJudged}
use Rattle.c_answers.specs.declared.lasting_states.GcLasts.{GcLasts}
use Rattle.c_answers.specs.declared.searching.GcSearched.{GcSearched}
use Rattle.c_answers.specs.declared.trimming.GcTrimmed.{GcTrimmed}
use Rattle.c_answers.specs.declared.converting.GcDone.{GcDone}
use Rattle.c_answers.specs.declared.modelling.GcWritten.{GcWritten}
use Rattle.c_answers.specs.declared.texting.GcText.{GcText}
use Rattle.c_answers.specs.Numbers.{built_numbers_of, done_numbers_of, judged_numbers_of, lasting_numbers_of, searched_numbers_of, text_numbers_of, trimmed_numbers_of, written_numbers_of}

-- gc_build: the rule's bytes s, and the table slice before and after
pub record GcBuilds (s t t' : List ℕ) (r : GcBuilt) : Type 0 where
  pub answer : TableAnswer
  pub right : tables.BuildRight s t t' (tables.told answer)
  pub given : r ≡ built_numbers_of (tables.told answer)

-- gc_judge: the rule's bytes s and the letters w
pub record GcJudges (s w : List ℕ) (r : GcJudged) : Type 0 where
  pub answer : judge.Answer
  pub right : judge.JudgeRight s w (judge.told answer)
  pub given : r ≡ judged_numbers_of (judge.told answer)

-- gc_lasting: the model's bytes g
pub record GcLasting (g : List ℕ) (r : GcLasts) : Type 0 where
  pub answer : std.Result LastingStates model-refusal.Refusal
  pub right : lasting.LastingRight g (lasting.told answer)
  pub given : r ≡ lasting_numbers_of (lasting.told answer)

-- gc_search: the bytes of the rule and of the model, and the four slices before and after
pub record GcSearches (rule model : List ℕ) (before after : search.Slices) (r : GcSearched) : Type 0 where
  pub answer : SearchAnswer
  pub right : search.SearchRight rule model before after (search.told answer after.run)
  pub given : r ≡ searched_numbers_of (search.told answer after.run)

-- gc_trim: the table slice before and after, the stated weight n and finals f
pub record GcTrims (t t' : List ℕ) (n f : ℕ) (r : GcTrimmed) : Type 0 where
  pub answer : std.Result TrimmedTable trims-refusals.Refusal
  pub right : trims.TrimRight t t' n f (trims.told answer)
  pub given : r ≡ trimmed_numbers_of (trims.told answer)

-- gc_formula_model: the formulas' bytes s, and the slice of the model before and after
pub record GcModels (s before after : List ℕ) (r : GcWritten) : Type 0 where
  pub answer : std.Result std.⊤ formula-refusal.Refusal
  pub right : formula_answer.FormulasRight s before after (formula_answer.told answer)
  pub given : r ≡ written_numbers_of (formula_answer.told answer)

-- gc_rows_of: the table, and the slice of the rows before and after
pub record GcRowsOf (table before after : List ℕ) (r : GcDone) : Type 0 where
  pub answer : std.Result (Unit {0}) rows-refusals.Refusal
  pub right : rows.RowsRight table before after (rows.told answer)
  pub given : r ≡ done_numbers_of (rows.told answer)

-- gc_table_of: the rows, and the slice of the table before and after
pub record GcTableOf (given-rows before after : List ℕ) (r : GcDone) : Type 0 where
  pub answer : std.Result (Unit {0}) rows-refusals.Refusal
  pub right : rows.TableRight given-rows before after (rows.told answer)
  pub given : r ≡ done_numbers_of (rows.told answer)

-- gc_search_trimmed: as gc_search
pub record GcSearchesTrimmed (rule model : List ℕ) (before after : search.Slices) (r : GcSearched) : Type 0 where
  pub answer : SearchAnswer
  pub right : TrimmedSearchRight rule model before after (search.told answer after.run)
  pub given : r ≡ searched_numbers_of (search.told answer after.run)

-- gc_read_text: the text s, and the output before and after
pub record ReadsText (s before after : List ℕ) (r : GcText) : Type 0 where
  pub answer : TextAnswer
  pub right : texts.ReadRight s before after (texts.told answer)
  pub given : r ≡ text_numbers_of (texts.told answer)

-- gc_write_text: the rule's bytes s, and the output before and after
pub record WritesText (s before after : List ℕ) (r : GcText) : Type 0 where
  pub answer : TextAnswer
  pub right : texts.WriteRight s before after (texts.told answer)
  pub given : r ≡ text_numbers_of (texts.told answer)
