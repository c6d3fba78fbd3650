-- The numbers that each call gives back for the library's answer: `refused` is 0 for an answer, else the refusal's number, with its place, and the rest is 0.
-- Assumes nothing: these are definitions.
use Rattle.std.specs.Prelude.{ℕ, Bool, true, false, not, eqb}
use Rattle.rules.specs.Answer as rules
use Rattle.models.specs.Answer as models
use Rattle.tables.specs.Answer as tables
use Rattle.judge.specs.Verdict as judge
use Rattle.walkers.specs.declared.Walker.{Walker}
use Rattle.walkers.specs.Steps as walkers
use Rattle.lasting.specs.Answer as lasting
use Rattle.levels.specs.Right.{found, nothing}
use Rattle.search.specs.Answer as search
use Rattle.trims.specs.Answer as trims
use Rattle.letter_rows.specs.Answer as rows
use Rattle.formula_models.specs.Bytes.{model_length}
use Rattle.formula_models.specs.Answer as formula_answer
use Rattle.texts.specs.Answer as texts
use Rattle.c_answers.specs.declared.reading.GcRule.{GcRule}
use Rattle.c_answers.specs.declared.reading.GcModel.{GcModel}
use Rattle.c_answers.specs.declared.building.GcBuilt.{GcBuilt}
use Rattle.c_answers.specs.declared.judging.GcJudged.{GcJudged}
use Rattle.c_answers.specs.declared.stepping.GcWalker.{GcWalker}
use Rattle.c_answers.specs.declared.stepping.GcStepped.{GcStepped}
use Rattle.c_answers.specs.declared.following.GcMoved.{GcMoved}
use Rattle.c_answers.specs.declared.lasting_states.GcLasts.{GcLasts}
use Rattle.c_answers.specs.declared.searching.GcSearched.{GcSearched}
use Rattle.c_answers.specs.declared.trimming.GcTrimmed.{GcTrimmed}
use Rattle.c_answers.specs.declared.converting.GcDone.{GcDone}
use Rattle.c_answers.specs.declared.modelling.GcWritten.{GcWritten}
use Rattle.c_answers.specs.declared.texting.GcText.{GcText}

-- yes is 1, no is 0
abbrev pub digit : Bool → ℕ
digit true = 1
digit false = 0

abbrev pub rule_numbers_of : rules.Result → GcRule
rule_numbers_of (rules.accepted k) = record { refused = 0; place = 0; weight = k.weight; uses = k.uses }
rule_numbers_of (rules.refused n p) = record { refused = n; place = p; weight = 0; uses = 0 }

abbrev pub state_numbers : ℕ → models.Verdict → GcModel
state_numbers states models.accepted = record { refused = 0; place = 0; states = states }
state_numbers states (models.refused n p) = record { refused = n; place = p; states = 0 }

-- of a model only the number of its states is given back
abbrev pub model_numbers_of : models.Result → GcModel
model_numbers_of m = state_numbers m.model.states m.verdict

abbrev pub built_numbers_of : tables.Result → GcBuilt
built_numbers_of (tables.tabled k f) = record { refused = 0; place = 0; weight = k.weight; finals = f; uses = k.uses }
built_numbers_of (tables.refused n p) = record { refused = n; place = p; weight = 0; finals = 0; uses = 0 }

abbrev pub judged_numbers_of : judge.Verdict → GcJudged
judged_numbers_of (judge.judged b k) = record { refused = 0; place = 0; accepts = digit b; uses = k.uses }
judged_numbers_of (judge.refused n p) = record { refused = n; place = p; accepts = 0; uses = 0 }

-- the walker that a caller keeps: any mark but 0 says that it has matched
abbrev pub walker_from : GcWalker → Walker
walker_from w = walkers.walker_at w.set w.finals w.taken w.first (not (eqb w.matched 0))

abbrev pub walker_numbers_of : Walker → GcWalker
walker_numbers_of w = record { set = w.set; finals = w.finals; taken = w.taken; first = w.first; matched = digit w.matched }

abbrev pub moved_numbers_of : walkers.Reply → GcMoved
moved_numbers_of (walkers.flag b) = record { refused = 0; place = 0; matches = digit b }
moved_numbers_of (walkers.refusal n p) = record { refused = n; place = p; matches = 0 }

abbrev pub lasting_numbers_of : lasting.Result → GcLasts
lasting_numbers_of (lasting.lasts n w) = record { refused = 0; place = 0; states = n; lasting = w }
lasting_numbers_of (lasting.refused n p) = record { refused = n; place = p; states = 0; lasting = 0 }

-- a walker, and beside it what a step says
abbrev pub beside : GcWalker → GcMoved → GcStepped
beside w m = record { refused = m.refused; place = m.place; matches = m.matches; walker = w }

-- the walker after the step, or as it came where the step is refused
abbrev pub left_by : GcWalker → Walker → walkers.Reply → GcWalker
left_by came w (walkers.flag b) = walker_numbers_of w
left_by came w (walkers.refusal n p) = came

abbrev pub stepped_numbers_of : GcWalker → walkers.Told → GcStepped
stepped_numbers_of came t = beside (left_by came t.walker t.says) (moved_numbers_of t.says)

abbrev pub searched_numbers_of : search.Result → GcSearched
searched_numbers_of (search.answered k n (found r c)) = record { refused = 0; place = 0; found = 1; length = n; pairs = c; uses = k.uses }
searched_numbers_of (search.answered k n (nothing c)) = record { refused = 0; place = 0; found = 0; length = 0; pairs = c; uses = k.uses }
searched_numbers_of (search.refused n p) = record { refused = n; place = p; found = 0; length = 0; pairs = 0; uses = 0 }

abbrev pub trimmed_numbers_of : trims.Result → GcTrimmed
trimmed_numbers_of (trims.trimmed n f) = record { refused = 0; place = 0; weight = n; finals = f }
trimmed_numbers_of (trims.refused n p) = record { refused = n; place = p; weight = 0; finals = 0 }

abbrev pub done_numbers_of : rows.Result → GcDone
done_numbers_of rows.converted = record { refused = 0; place = 0 }
done_numbers_of (rows.refused n p) = record { refused = n; place = p }

abbrev pub written_numbers_of : formula_answer.Result → GcWritten
written_numbers_of formula_answer.written = record { refused = 0; place = 0; length = model_length }
written_numbers_of (formula_answer.refused n p) = record { refused = n; place = p; length = 0 }

abbrev pub text_numbers_of : texts.Result → GcText
text_numbers_of (texts.given n k) = record { refused = 0; place = 0; length = n; weight = k.weight; uses = k.uses }
text_numbers_of (texts.refused n p) = record { refused = n; place = p; length = 0; weight = 0; uses = 0 }
