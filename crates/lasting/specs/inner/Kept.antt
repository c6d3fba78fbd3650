-- One round: which states of a set have a successor in it. Assumes nothing: these are definitions.
use Rattle.std.specs.Prelude.{ℕ, Bool, List, T, get_or}
use Rattle.bits.specs.Word.{bit}

-- t follows s where bit t of entry s is set
abbrev pub follows : List ℕ → ℕ → ℕ → Bool
follows successors s t = bit (get_or successors s 0) t

-- k has a successor in the set
abbrev pub GoesOn : List ℕ → ℕ → ℕ → Type 0
GoesOn successors set k = (t : ℕ) × T (follows successors k t) × T (bit set t)
