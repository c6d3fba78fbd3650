-- Request 2026-06, a dead end is no run: the runs that count, and with them the answer, the run shown and the pair count, are those of the model without
-- the states from which no endless run leaves, numbers kept; and a call says which states these are. Assumes nothing: these are definitions.
use Rattle.std.specs.Prelude.{ℕ, ◌≡◌, ◌↔◌, List, T}
use Rattle.bits.specs.Word.{bit}
use Rattle.definitions.specs.Definition1.{Rule}
use Rattle.automata.specs.Table.{Table}
use Rattle.models.specs.Model.{Model, Run}
use Rattle.models.specs.Faults.{ModelFault}
use Rattle.std.specs.Prelude as std
use Rattle.models.specs.declared.Refusal as model-refusal
use Rattle.lasting.specs.declared.LastingStates.{LastingStates}
use Rattle.lasting.specs.Endless.{Endless, LastingRun, LastingSet}
use Rattle.lasting.specs.Alive.{alive}
use Rattle.lasting.specs.Answer.{Result, lasts, refused, told, LastingRight}
use Rattle.levels.specs.Right.{Answer, Right}
use Rattle.demands.specs.Terms.{IsModel, model_in_of}

-- ---- the model without the other states; its states and letters are kept

abbrev pub RunsOfTheRest : Type 0
RunsOfTheRest = (M : Model) (w : ℕ) → LastingSet M w → (r : List ℕ) → LastingRun M r ↔ Run (alive M w) r

abbrev pub AnswersOfTheRest : Type 0
AnswersOfTheRest = (M : Model) (w : ℕ) → LastingSet M w → (A : Table) (f : Rule) (a : Answer) → Right LastingRun M A f a ↔ Right Run (alive M w) A f a

abbrev pub OneSet : Type 0
OneSet = (M : Model) (w v : ℕ) → LastingSet M w → LastingSet M v → w ≡ v

-- ---- the call

-- every model is answered, with the number of its states and a set that has bit s exactly if an endless run leaves state s
abbrev pub EveryModelLasts : Type 0
EveryModelLasts = (g : List ℕ) (x : Result) → IsModel g → LastingRight g x → (w : ℕ) × (x ≡ lasts (model_in_of g).states w) × ((s : ℕ) → T (bit w s) ↔ Endless (model_in_of g) s)

-- other bytes are refused, exactly as a model's reader refuses them
abbrev pub LastingRefusedExactly : Type 0
LastingRefusedExactly = (g : List ℕ) (x : Result) (n p : ℕ) → LastingRight g x → (x ≡ refused n p) ↔ ModelFault g n p

-- no second answer fits
abbrev pub OneLasting : Type 0
OneLasting = (g : List ℕ) (a b : std.Result LastingStates model-refusal.Refusal) → LastingRight g (told a) → LastingRight g (told b) → a ≡ b

pub record DeadEnds : Type 0 where
  pub runs_of_the_rest : RunsOfTheRest
  pub answers_of_the_rest : AnswersOfTheRest
  pub one_set : OneSet
  pub every_model_lasts : EveryModelLasts
  pub lasting_refused_exactly : LastingRefusedExactly
  pub one_lasting : OneLasting
