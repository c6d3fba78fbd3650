-- New numbers: they run through the new weight, and each belongs to one member. Assumes nothing.
use Prim.Native.Nat.{ℕ, ◌<◌, ◌≤◌}
use mathlib.Core.Path.{◌≡◌, refl}
use lib.Dec.{T}
use Rattle.bits.specs.Word.{bit, many, all}
use Rattle.bits.proofs.Ranks.{rank_less, rank_once, rank_le, rank_onto}
use Rattle.bits.proofs.Firsts.{rank_all}
use Rattle.automata.specs.Table.{table_states}
use Rattle.trims.specs.Kept.{new_number}

module _ (k : ℕ) where
  pub number_zero : new_number k 0 ≡ 0
  unfolding new_number many
  number_zero = refl

  pub number_less : (q : ℕ) → q < table_states → T (bit k q) → new_number k q < many table_states (bit k)
  unfolding new_number
  number_less q l h = rank_less (bit k) q table_states h l

  pub number_le : (q : ℕ) → new_number k q ≤ q
  unfolding new_number
  number_le q = rank_le (bit k) q

  pub number_once : (p q : ℕ) → T (bit k p) → T (bit k q) → new_number k p ≡ new_number k q → p ≡ q
  unfolding new_number
  number_once p q s t e = rank_once (bit k) p q s t e

  pub number_onto : (i : ℕ) → i < many table_states (bit k) → (q : ℕ) × T (bit k q) × (new_number k q ≡ i)
  unfolding new_number
  number_onto i l = let m = rank_onto (bit k) table_states i l in (m.0, m.1.member, m.1.rank)

pub number_all : (n q : ℕ) → q ≤ n → new_number (all n) q ≡ q
unfolding new_number
number_all n q l = rank_all n q l
