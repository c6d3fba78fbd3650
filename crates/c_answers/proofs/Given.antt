-- The numbers of an answer, from the case that the code found. Assumes nothing.
use Prim.Native.Nat.{ℕ}
use mathlib.Core.Path.{◌≡◌, sym, ap, ◌∙◌}
use mathlib.Core.List.{List}
use Rattle.std.specs.Prelude as std
use Rattle.std.specs.Prelude.{Option, Ok}
use Rattle.rules.specs.declared.Known.{Known}
use Rattle.rules.specs.Answer.{RuleAnswer}
use Rattle.rules.specs.Answer as rules
use Rattle.std.specs.Prelude as std
use Rattle.models.specs.declared.ModelData.{ModelData}
use Rattle.models.specs.declared.Refusal as model-refusal
use Rattle.models.specs.Answer as models
use Rattle.tables.specs.Answer.{TableAnswer}
use Rattle.tables.specs.Answer as tables
use Rattle.judge.specs.Verdict as judge
use Rattle.lasting.specs.declared.LastingStates.{LastingStates}
use Rattle.lasting.specs.Answer as lasting
use Rattle.search.specs.Answer.{SearchAnswer}
use Rattle.search.specs.declared.Answered.{Answered}
use Rattle.passes.specs.declared.inner.Searched.{Searched}
use Rattle.search.specs.Answer as search
use Rattle.trims.specs.declared.Refusal as trims-refusals
use Rattle.trims.specs.declared.TrimmedTable.{TrimmedTable}
use Rattle.trims.specs.Answer as trims
use Rattle.letter_rows.specs.declared.Refusal as rows-refusals
use Rattle.letter_rows.specs.Answer as rows
use Rattle.formula_models.specs.declared.Refusal as formula-refusal
use Rattle.formula_models.specs.Answer as formula_answer
use Rattle.c_answers.specs.declared.modelling.GcWritten.{GcWritten}
use Rattle.c_answers.specs.declared.converting.GcDone.{GcDone}
use Rattle.c_answers.specs.declared.trimming.GcTrimmed.{GcTrimmed}
use Rattle.texts.specs.Answer.{TextAnswer}
use Rattle.texts.specs.Answer as texts
use Rattle.c_answers.specs.declared.reading.GcRule.{GcRule}
use Rattle.c_answers.specs.declared.reading.GcModel.{GcModel}
use Rattle.c_answers.specs.declared.building.GcBuilt.{GcBuilt}
use Rattle.c_answers.specs.declared.judging.GcJudged.{GcJudged}
use Rattle.c_answers.specs.declared.lasting_states.GcLasts.{GcLasts}
use Rattle.c_answers.specs.declared.searching.GcSearched.{GcSearched}
use Rattle.c_answers.specs.Numbers.{rule_numbers_of, model_numbers_of, built_numbers_of, judged_numbers_of, lasting_numbers_of, searched_numbers_of, done_numbers_of, written_numbers_of, text_numbers_of, trimmed_numbers_of}
use Rattle.c_answers.specs.declared.texting.GcText.{GcText}

-- what is right of the case is right of the answer
pub by_case : {A B : Type 0} (f : A → B) {a case : A} → a ≡ case → {r : B} → r ≡ f case → r ≡ f a
by_case f e q = q ∙ ap f (sym e)

-- a refusal's numbers, as they were computed
pub by_numbers : {B : Type 0} (g : ℕ → ℕ → B) {r : B} {n p n' p' : ℕ} → r ≡ g n p → n ≡ n' → p ≡ p' → r ≡ g n' p'
by_numbers g q e e' = rw (sym e) (rw (sym e') q)

abbrev pub rule_of : RuleAnswer → GcRule
rule_of a = rule_numbers_of (rules.told a)

abbrev pub model_of : ModelData → std.Result std.⊤ model-refusal.Refusal → GcModel
model_of m a = model_numbers_of (models.told (record { answer = a; model = m }))

abbrev pub built_of : TableAnswer → GcBuilt
built_of a = built_numbers_of (tables.told a)

abbrev pub judged_of : judge.Answer → GcJudged
judged_of a = judged_numbers_of (judge.told a)

abbrev pub lasting_of : std.Result LastingStates model-refusal.Refusal → GcLasts
lasting_of a = lasting_numbers_of (lasting.told a)

abbrev pub searched_of : List ℕ → SearchAnswer → GcSearched
searched_of run a = searched_numbers_of (search.told a run)

abbrev pub trimmed_of : std.Result TrimmedTable trims-refusals.Refusal → GcTrimmed
trimmed_of a = trimmed_numbers_of (trims.told a)

abbrev pub done_of : std.Result (Unit {0}) rows-refusals.Refusal → GcDone
done_of a = done_numbers_of (rows.told a)

abbrev pub written_of : std.Result std.⊤ formula-refusal.Refusal → GcWritten
written_of a = written_numbers_of (formula_answer.told a)

abbrev pub texts_of : TextAnswer → GcText
texts_of a = text_numbers_of (texts.told a)

-- the case of a search that was answered
pub answered_as : {a : SearchAnswer} {x : Searched} {l : Option ℕ} {k : Known} → a ≡ Ok (record { searched = x; rule = k }) → x.found ≡ l → a ≡ Ok (record { searched = record { found = l; pairs = x.pairs }; rule = k })
answered_as {x = x} {k = k} e e' = e ∙ ap (λ (z : Option ℕ). Ok (record { searched = record { found = z; pairs = x.pairs }; rule = k })) e'
