-- The model that two formulas say: its states are the 64 letters, state x having letter x. Assumes nothing: these are definitions.
use Rattle.std.specs.Prelude.{ℕ, ◌+◌, ◌*◌, ◌<◌, ◌≡◌}
use Rattle.bits.specs.Word.{word}
use Rattle.definitions.specs.Definition1.{Formula}
use Rattle.definitions.specs.Definition2.{holds}
use Rattle.models.specs.Model.{Model, model_states}

-- this state and the next as one number: its lower six bits are the variables of the one, its upper six those of the other
abbrev pub both : ℕ → ℕ → ℕ
both x y = x + model_states * y

-- M is what f says of the initial states and g of the step
pub record Means (M : Model) (f g : Formula) : Type 0 where
  pub states : M.states ≡ model_states
  pub letter : (x : ℕ) → x < model_states → M.letter x ≡ x
  pub initial : (x : ℕ) → x < model_states → M.initial x ≡ holds f x
  pub next : (x y : ℕ) → x < model_states → y < model_states → M.next x y ≡ holds g (both x y)

-- the successors of x, as a set of states
abbrev pub successors : Formula → ℕ → ℕ
successors g x = word model_states (λ y. holds g (both x y))
