-- What a call that searches reads before it changes anything. Assumes nothing: these are definitions.
use Rattle.std.specs.Prelude.{ℕ, ◌≡◌, List, Result, Ok, Err}
use Rattle.definitions.specs.Definition1.{Rule}
use Rattle.rules.specs.Answer.{AcceptedAs, known_of}
use Rattle.rules.specs.declared.Known.{Known}
use Rattle.models.specs.Stored.{Held}
use Rattle.models.specs.Answer as models
use Rattle.search.specs.declared.Refusal.{Refusal}
use Rattle.search.specs.declared.input.InputRead.{InputRead}
use Rattle.search.specs.Refusals.{number, place}
use Rattle.search.specs.Answer.{Slices, LongEnough, SearchRefused}

-- rule and model are accepted and the slices are long enough; k is known of the rule
pub record Usable (rule model : List ℕ) (lent : Slices) (k : Known) : Type 0 where
  pub meant : Rule
  pub accepted : AcceptedAs rule meant
  pub known_is : k ≡ known_of meant
  pub model_accepted : (models.answer model).verdict ≡ models.accepted
  pub long : LongEnough lent

-- the answer is right
abbrev pub AnswerRight : List ℕ → List ℕ → Slices → Result Known Refusal → Type 0
AnswerRight rule model lent (Ok k) = Usable rule model lent k
AnswerRight rule model lent (Err x) = SearchRefused rule model lent (number x) (place x)

-- and the model beside it is the one that its reader stores
pub record InputRight (rule model : List ℕ) (lent : Slices) (r : InputRead) : Type 0 where
  pub answer : AnswerRight rule model lent r.answer
  pub stored : r.model ≡ (models.answer model).model
  pub held : Held r.model
