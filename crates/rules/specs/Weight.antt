-- The weight of a rule: how many states its table has. Assumes nothing: these are definitions.
use Rattle.std.specs.Prelude.{ℕ, zero, suc, ◌+◌, ◌*◌}
use Rattle.definitions.specs.declared.kinds.Pair.{Pair}
use Rattle.definitions.specs.declared.kinds.Pair.TheVariants.{Then, Overlap, Either, Within, Both}
use Rattle.definitions.specs.Definition1.{Rule, letter, empty, two, again, counted, occurs}

-- the largest weight that is accepted
abbrev pub weight_limit : ℕ
weight_limit = 64

-- a weight is counted up to one above it
abbrev pub counted_to : ℕ
counted_to = weight_limit + 1

-- of an operator, where its operands weigh m and n
abbrev pub pair_weight : Pair → ℕ → ℕ → ℕ
pair_weight Then m n = m + n
pair_weight Overlap m n = m + n
pair_weight Either m n = 1 + m + n
pair_weight Within m n = 2 * (m * n) + 2 * m + 2 * n + 1
pair_weight Both m n = m * n

-- of up to j parts in a row, each of which weighs m: j times that, or 1
abbrev pub row_weight : ℕ → ℕ → ℕ
row_weight zero m = 1
row_weight (suc j) m = suc j * m

abbrev pub weight_of : Rule → ℕ
weight_of (letter f) = 2
weight_of empty = 1
weight_of (two p a b) = pair_weight p (weight_of a) (weight_of b)
weight_of (again p a) = weight_of a
weight_of (counted i j a) = row_weight j (weight_of a)
weight_of (occurs i j f) = j + 2
