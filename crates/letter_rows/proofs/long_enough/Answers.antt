-- `long_enough` meets its contract: where the first slice is long enough the second decides. Assumes nothing.
use native.Mathlib.Omega.{arith}
use Rattle.bits.proofs.Sayings.{says_map, says_le}
use Rattle.letter_rows.proofs.long_enough.Goals as goal

pub returns-then-given-ge-TABLE_ENTRIES : goal.returns-then-given-ge-TABLE_ENTRIES
returns-then-given-ge-TABLE_ENTRIES c = says_map (λ h. record { given_long = omega arith; to_long = h }) (λ b. b.to_long) (says_le _ _)
