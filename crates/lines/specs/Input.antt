-- One input: a byte that says how long the rule is, the rule or what there is of it, and the model. Assumes nothing: these are definitions.
use Rattle.std.specs.Prelude.{ℕ, List, [], ◌∷◌, take, drop}

-- no input counts as a length of 0
unfoldable pub rule_in_of : List ℕ → List ℕ
rule_in_of [] = []
rule_in_of (long ∷ rest) = take long rest

unfoldable pub model_in_of : List ℕ → List ℕ
model_in_of [] = []
model_in_of (long ∷ rest) = drop long rest
