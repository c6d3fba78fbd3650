-- A number out of bytes. Assumes nothing: this is a definition.
use Rattle.std.specs.Prelude.{ℕ, zero, suc, ◌+◌, ◌*◌, List, get_or}

-- the number that n bytes from place p write, lowest byte first
unfoldable pub little : ℕ → List ℕ → ℕ → ℕ
little zero s p = 0
little (suc n) s p = get_or s p 0 + 256 * little n s (p + 1)
