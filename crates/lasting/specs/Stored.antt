-- The stored form of a model without the states from which no endless run leaves. Assumes nothing: these are definitions.
use Rattle.std.specs.Prelude.{ℕ, ◌≡◌, List, get_or}
use Rattle.std.specs.Int.Bits.{bit_and}
use Rattle.models.specs.declared.ModelData.{ModelData}
use Rattle.models.specs.Stored.{column, model_of, Held}
use Rattle.lasting.specs.Endless.{LastingSet}
use Rattle.lasting.specs.Alive.{alive}

-- the successors of state k that are in w
abbrev pub kept_ways_of : ℕ → List ℕ → ℕ → ℕ
kept_ways_of w successors k = bit_and (get_or successors k 0) w

-- the initial states and each state's successors, as far as they are in w
abbrev pub alive_data : ModelData → ℕ → ModelData
alive_data m w = record {
  states = m.states;
  letters = m.letters;
  initial = bit_and m.initial w;
  successors = column m.states (kept_ways_of w m.successors);
}

-- r is the model m without its dead ends: the set of the states from which an endless run leaves, r as that set makes it of m,
-- and what it comes to: a model like one that was read, which is m without the other states
pub record WithoutDeadEnds (m r : ModelData) : Type 0 where
  pub set : ℕ
  pub exactly : LastingSet (model_of m) set
  pub stored : r ≡ alive_data m set
  pub held : Held r
  pub is_alive : model_of r ≡ alive (model_of m) set
