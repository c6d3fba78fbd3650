-- A model without the states outside a set. Assumes nothing: this is a definition.
use Rattle.std.specs.Prelude.{ℕ, ◌&&◌}
use Rattle.bits.specs.Word.{bit}
use Rattle.models.specs.Model.{Model}

-- the states outside the set w are taken out: none of them is initial, and no step enters or leaves one. Numbers and letters are kept
abbrev pub alive : Model → ℕ → Model
alive M w = record {
  states = M.states;
  letter = M.letter;
  initial = λ s. M.initial s && bit w s;
  next = λ s t. M.next s t && (bit w s && bit w t);
}
