-- `models::links` meets its contract. Assumes nothing.
use Prim.Native.Nat.{◌-◌}
use mathlib.Core.Path.{◌≡◌}
use Rattle.models.specs.Reading.{linked}
use Rattle.models.proofs.records.links.Given as goal

abbrev pub invariant-loop-k : goal.invariant-loop-k
invariant-loop-k l = linked (l.n - l.k) l.model l.n l.k ≡ linked l.n l.model l.n 0
