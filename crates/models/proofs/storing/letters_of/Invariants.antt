-- `models::letters_of` meets its contract. Assumes nothing.
use mathlib.Core.Path.{◌≡◌}
use Rattle.models.specs.Reading.{letter}
use Rattle.models.specs.Stored.{column}
use Rattle.models.proofs.storing.letters_of.Given as goal

abbrev pub invariant-loop-k : goal.invariant-loop-k
invariant-loop-k l = l.letters ≡ column l.k (letter l.model)
