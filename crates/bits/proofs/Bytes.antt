-- A number out of bytes. Assumes nothing.
use mathlib.Core.Path.{◌≡◌}
use mathlib.Core.List.{List}
use Prim.Native.Nat.{ℕ, zero, suc, ◌+◌, ◌*◌, ◌^◌, ◌<◌, zero-le, suc-le-suc}
use native.Mathlib.Nat.{add_assoc, pow-suc}
use native.Mathlib.Omega.{arith}
use lib.ListN.{get_or}
use Rattle.bits.specs.Bytes.{little}

-- n bytes are a number below 256 ^ n
pub little_lt : (s : List ℕ) → ((i : ℕ) → get_or s i 0 < 256) → (n p : ℕ) → little n s p < 256 ^ n
unfolding little
little_lt s bytes zero p = suc-le-suc zero-le
little_lt s bytes (suc n) p = omega (arith, bytes p, little_lt s bytes n (p + 1), pow-suc 256 n)

-- eight bytes, written out, highest first
little_eight : (s : List ℕ) (p : ℕ)
    → 256 * (256 * (256 * (256 * (256 * (256 * (256 * (256 * 0 + get_or s (p + 7) 0) + get_or s (p + 6) 0) + get_or s (p + 5) 0) + get_or s (p + 4) 0) + get_or s (p + 3) 0) + get_or s (p + 2) 0) + get_or s (p + 1) 0) + get_or s p 0 ≡ little 8 s p
unfolding little
little_eight s p = simp add_assoc (omega arith)

-- the same, where the code adds one byte at a time below those it has
pub little_made : (s : List ℕ) (p : ℕ) {a b c d e f g h : ℕ}
    → a ≡ 256 * 0 + get_or s (p + 7) 0
    → b ≡ 256 * a + get_or s (p + 6) 0
    → c ≡ 256 * b + get_or s (p + 5) 0
    → d ≡ 256 * c + get_or s (p + 4) 0
    → e ≡ 256 * d + get_or s (p + 3) 0
    → f ≡ 256 * e + get_or s (p + 2) 0
    → g ≡ 256 * f + get_or s (p + 1) 0
    → h ≡ 256 * g + get_or s p 0
    → h ≡ little 8 s p
little_made s p qa qb qc qd qe qf qg qh = rw (qh, qg, qf, qe, qd, qc, qb, qa) (little_eight s p)
