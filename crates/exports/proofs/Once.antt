-- No second answer fits the promise of a call, nor a second content of what is lent: the library's own answer is one, and the numbers are told of it.
-- `Words` says that the entries of a table slice are 64-bit words, as those of every slice of u64 are. Assumes nothing.
use Prim.Native.Nat.{ℕ}
use mathlib.Core.Path.{◌≡◌, sym, ap, ap₂, ◌∙◌}
use mathlib.Core.List.{List}
use Rattle.std.specs.Prelude as std
use Rattle.rules.specs.Answer as rules
use Rattle.models.specs.Answer as models
use Rattle.tables.specs.Answer.{TableAnswer}
use Rattle.automata.specs.IsTable.{Words}
use Rattle.tables.specs.Answer as tables
use Rattle.tables.proofs.promise.Once as tables-once
use Rattle.judge.specs.Verdict as judge
use Rattle.judge.proofs.Once as judge-once
use Rattle.walkers.specs.Steps as walkers
use Rattle.walkers.specs.Walks.{follow_of}
use Rattle.search.specs.Answer.{SearchAnswer}
use Rattle.std.specs.Prelude as std
use Rattle.models.specs.declared.Refusal as model-refusal
use Rattle.lasting.specs.declared.LastingStates.{LastingStates}
use Rattle.lasting.specs.Answer as lasting
use Rattle.lasting.proofs.Once as lasting-once
use Rattle.search.specs.Answer as search
use Rattle.search.proofs.Once as search-once
use Rattle.c_answers.specs.declared.reading.GcRule.{GcRule}
use Rattle.c_answers.specs.declared.reading.GcModel.{GcModel}
use Rattle.c_answers.specs.declared.building.GcBuilt.{GcBuilt}
use Rattle.c_answers.specs.declared.judging.GcJudged.{GcJudged}
use Rattle.c_answers.specs.declared.stepping.GcWalker.{GcWalker}
use Rattle.c_answers.specs.declared.stepping.GcStepped.{GcStepped}
use Rattle.c_answers.specs.declared.following.GcMoved.{GcMoved}
use Rattle.c_answers.specs.declared.lasting_states.GcLasts.{GcLasts}
use Rattle.c_answers.specs.declared.searching.GcSearched.{GcSearched}
use Rattle.c_answers.specs.Numbers.{rule_numbers_of, model_numbers_of, built_numbers_of, judged_numbers_of, stepped_numbers_of, moved_numbers_of, lasting_numbers_of, searched_numbers_of, text_numbers_of, done_numbers_of, written_numbers_of, walker_from, walker_numbers_of, beside, trimmed_numbers_of}
use Rattle.exports.specs.Promise.{GcBuilds, GcJudges, GcLasting, GcSearches, ReadsText, WritesText, GcTrims, GcModels, GcRowsOf, GcTableOf, GcSearchesTrimmed}
use Rattle.trims.specs.declared.Refusal as trims-refusals
use Rattle.trims.specs.declared.TrimmedTable.{TrimmedTable}
use Rattle.trims.specs.Answer as trims
use Rattle.trims.proofs.Once as trims-once
use Rattle.letter_rows.specs.declared.Refusal as rows-refusals
use Rattle.letter_rows.specs.Answer as rows
use Rattle.letter_rows.specs.Layouts.{table_by}
use Rattle.letter_rows.proofs.Once as rows-once
use Rattle.formula_models.specs.declared.Refusal as formula-refusal
use Rattle.formula_models.specs.Answer as formula_answer
use Rattle.formula_models.proofs.Once as models-once
use Rattle.c_answers.specs.declared.modelling.GcWritten.{GcWritten}
use Rattle.c_answers.specs.declared.converting.GcDone.{GcDone}
use Rattle.trimmed_search.proofs.Once.{one_trimmed_answer}
use Rattle.c_answers.specs.declared.trimming.GcTrimmed.{GcTrimmed}
use Rattle.texts.specs.Answer as texts
use Rattle.texts.proofs.Once as texts-once
use Rattle.c_answers.specs.declared.texting.GcText.{GcText}

pub one_rule : (s : List ℕ) (r r' : GcRule) → r ≡ rule_numbers_of (rules.answer s) → r' ≡ rule_numbers_of (rules.answer s) → r ≡ r'
one_rule s r r' e e' = e ∙ sym e'

pub one_model : (s : List ℕ) (r r' : GcModel) → r ≡ model_numbers_of (models.answer s) → r' ≡ model_numbers_of (models.answer s) → r ≡ r'
one_model s r r' e e' = e ∙ sym e'

pub one_start : (finals : ℕ) (r r' : GcWalker) → r ≡ walker_numbers_of (walkers.start_of finals) → r' ≡ walker_numbers_of (walkers.start_of finals) → r ≡ r'
one_start finals r r' e e' = e ∙ sym e'

pub one_step : (t : List ℕ) (w : GcWalker) (x : ℕ) (r r' : GcStepped)
    → r ≡ stepped_numbers_of w (walkers.step_of t (walker_from w) x) → r' ≡ stepped_numbers_of w (walkers.step_of t (walker_from w) x) → r ≡ r'
one_step t w x r r' e e' = e ∙ sym e'

pub one_lent_step : (t : List ℕ) (w v v' : GcWalker) (x : ℕ) (r r' : GcMoved)
    → beside v r ≡ stepped_numbers_of w (walkers.step_of t (walker_from w) x) → beside v' r' ≡ stepped_numbers_of w (walkers.step_of t (walker_from w) x) → (r ≡ r') × (v ≡ v')
one_lent_step t w v v' x r r' e e' =
    let q = e ∙ sym e' in
    (ap (λ (s : GcStepped). record { refused = s.refused; place = s.place; matches = s.matches }) q, ap (λ (s : GcStepped). s.walker) q)

pub one_follow : (t : List ℕ) (finals : ℕ) (w : List ℕ) (r r' : GcMoved) → r ≡ moved_numbers_of (follow_of t finals w) → r' ≡ moved_numbers_of (follow_of t finals w) → r ≡ r'
one_follow t finals w r r' e e' = e ∙ sym e'

pub one_row_step : (t : List ℕ) (w : GcWalker) (x : ℕ) (r r' : GcStepped)
    → r ≡ stepped_numbers_of w (walkers.step_of (table_by t) (walker_from w) x) → r' ≡ stepped_numbers_of w (walkers.step_of (table_by t) (walker_from w) x) → r ≡ r'
one_row_step t w x r r' e e' = e ∙ sym e'

pub one_row_follow : (t : List ℕ) (finals : ℕ) (w : List ℕ) (r r' : GcMoved) → r ≡ moved_numbers_of (follow_of (table_by t) finals w) → r' ≡ moved_numbers_of (follow_of (table_by t) finals w) → r ≡ r'
one_row_follow t finals w r r' e e' = e ∙ sym e'

pub one_rows_of : (t before u v : List ℕ) (r r' : GcDone) → GcRowsOf t before u r → GcRowsOf t before v r' → (r ≡ r') × (u ≡ v)
one_rows_of t before u v r r' x x' =
    let o = rows-once.one_answer x.answer x'.answer x.right x'.right in
    (x.given ∙ ap (λ (a : std.Result (Unit {0}) rows-refusals.Refusal). done_numbers_of (rows.told a)) o.0 ∙ sym x'.given, o.1)

pub one_table_of : (t before u v : List ℕ) (r r' : GcDone) → GcTableOf t before u r → GcTableOf t before v r' → (r ≡ r') × (u ≡ v)
one_table_of t before u v r r' x x' =
    let o = rows-once.one_answer x.answer x'.answer x.right x'.right in
    (x.given ∙ ap (λ (a : std.Result (Unit {0}) rows-refusals.Refusal). done_numbers_of (rows.told a)) o.0 ∙ sym x'.given, o.1)

pub one_formula_model : (s before u v : List ℕ) (r r' : GcWritten) → GcModels s before u r → GcModels s before v r' → (r ≡ r') × (u ≡ v)
one_formula_model s before u v r r' x x' =
    let o = models-once.one_answer s before u v x.answer x'.answer x.right x'.right in
    (x.given ∙ ap (λ (a : std.Result std.⊤ formula-refusal.Refusal). written_numbers_of (formula_answer.told a)) o.0 ∙ sym x'.given, o.1)

pub one_build : (s t u v : List ℕ) (r r' : GcBuilt) → Words u → Words v → GcBuilds s t u r → GcBuilds s t v r' → (r ≡ r') × (u ≡ v)
one_build s t u v r r' hu hv b b' =
    let o = tables-once.one_answer s t u v b.answer b'.answer hu hv b.right b'.right in
    (b.given ∙ ap (λ (a : TableAnswer). built_numbers_of (tables.told a)) o.0 ∙ sym b'.given, o.1)

pub one_judgement : (s w : List ℕ) (r r' : GcJudged) → GcJudges s w r → GcJudges s w r' → r ≡ r'
one_judgement s w r r' j j' =
    let o = judge-once.one_answer s w j.answer j'.answer j.right j'.right in
    j.given ∙ ap (λ (a : judge.Answer). judged_numbers_of (judge.told a)) o ∙ sym j'.given

pub one_lasting : (g : List ℕ) (r r' : GcLasts) → GcLasting g r → GcLasting g r' → r ≡ r'
one_lasting g r r' x x' =
    let o = lasting-once.one_answer g x.answer x'.answer x.right x'.right in
    x.given ∙ ap (λ (a : std.Result LastingStates model-refusal.Refusal). lasting_numbers_of (lasting.told a)) o ∙ sym x'.given

pub one_search : (s g : List ℕ) (b a d : search.Slices) (r r' : GcSearched) → Words a.table → Words d.table → GcSearches s g b a r → GcSearches s g b d r' → (r ≡ r') × (a ≡ d)
one_search s g b a d r r' ha hd x x' =
    let o = search-once.one_search_answer s g b a d x.answer x'.answer ha hd x.right x'.right in
    (x.given ∙ ap₂ (λ (y : SearchAnswer) (l : search.Slices). searched_numbers_of (search.told y l.run)) o.0 o.1 ∙ sym x'.given, o.1)

pub one_trim : (t u v : List ℕ) (n f : ℕ) (r r' : GcTrimmed) → GcTrims t u n f r → GcTrims t v n f r' → (r ≡ r') × (u ≡ v)
one_trim t u v n f r r' x x' =
    let o = trims-once.one_answer t u v n f x.answer x'.answer x.right x'.right in
    (x.given ∙ ap (λ (a : std.Result TrimmedTable trims-refusals.Refusal). trimmed_numbers_of (trims.told a)) o.0 ∙ sym x'.given, o.1)

pub one_search_trimmed : (s g : List ℕ) (b a d : search.Slices) (r r' : GcSearched) → GcSearchesTrimmed s g b a r → GcSearchesTrimmed s g b d r' → (r ≡ r') × (a ≡ d)
one_search_trimmed s g b a d r r' x x' =
    let o = one_trimmed_answer s g b a d x.answer x'.answer x.right x'.right in
    (x.given ∙ ap₂ (λ (y : SearchAnswer) (l : search.Slices). searched_numbers_of (search.told y l.run)) o.0 o.1 ∙ sym x'.given, o.1)

pub one_read_text : (s before u v : List ℕ) (r r' : GcText) → ReadsText s before u r → ReadsText s before v r' → (r ≡ r') × (u ≡ v)
one_read_text s before u v r r' x x' =
    let o = texts-once.one_read s before u v (texts.told x.answer) (texts.told x'.answer) x.right x'.right in
    (x.given ∙ ap text_numbers_of o.0 ∙ sym x'.given, o.1)

pub one_write_text : (s before u v : List ℕ) (r r' : GcText) → WritesText s before u r → WritesText s before v r' → (r ≡ r') × (u ≡ v)
one_write_text s before u v r r' x x' =
    let o = texts-once.one_write s before u v (texts.told x.answer) (texts.told x'.answer) x.right x'.right in
    (x.given ∙ ap text_numbers_of o.0 ∙ sym x'.given, o.1)
