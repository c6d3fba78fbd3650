-- Two results that differ in the pair count alone. Assumes nothing: these are definitions.
use Rattle.std.specs.Prelude.{ℕ, List}
use Rattle.rules.specs.declared.Known.{Known}
use Rattle.levels.specs.Right.{found, nothing}
use Rattle.search.specs.Answer.{Result, answered, refused}

-- the same refusal, the same run, or no run in both
pub data Alike : Result → Result → Type 0 where
  refusal : {n p : ℕ} → Alike (refused n p) (refused n p)
  run : {k : Known} {n c d : ℕ} {r : List ℕ} → Alike (answered k n (found r c)) (answered k n (found r d))
  none : {k : Known} {n c d : ℕ} → Alike (answered k n (nothing c)) (answered k n (nothing d))
