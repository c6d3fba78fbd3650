-- The answer of reading, from what the rule's reader, the model's and the measuring of the slices say. Assumes nothing: these are definitions.
use Rattle.std.specs.Prelude.{ℕ, ◌≡◌, Bool, true, false, List, ⊤, Result, Ok, Err}
use Rattle.definitions.specs.Definition1.{Rule}
use Rattle.rules.specs.Answer as rules
use Rattle.rules.specs.Answer.{AcceptedAs, known_of}
use Rattle.definitions.specs.Refusals as rule-refusals
use Rattle.rules.specs.declared.Known.{Known}
use Rattle.definitions.specs.declared.Refusal as rule-refusal
use Rattle.models.specs.declared.Refusal as model-refusal
use Rattle.search.specs.declared.Refusal.{Refusal}
use Rattle.search.specs.declared.Refusal.TheVariants.{OfRule, OfModel, ShortSlice}

pub data InputAnswers (rule : List ℕ) (model : Result ⊤ model-refusal.Refusal) (long : Bool) : Result Known Refusal → Type 0 where
  rule_no : {x : rule-refusal.Refusal} → rules.answer rule ≡ rules.refused (rule-refusals.number x) (rule-refusals.place x) → InputAnswers rule model long (Err (OfRule x))
  model_no : {f : Rule} {x : model-refusal.Refusal} → AcceptedAs rule f → model ≡ Err x → InputAnswers rule model long (Err (OfModel x))
  slice_no : {f : Rule} {y : ⊤} → AcceptedAs rule f → model ≡ Ok y → long ≡ false → InputAnswers rule model long (Err ShortSlice)
  all_well : {f : Rule} {k : Known} {y : ⊤} → AcceptedAs rule f → k ≡ known_of f → model ≡ Ok y → long ≡ true → InputAnswers rule model long (Ok k)
