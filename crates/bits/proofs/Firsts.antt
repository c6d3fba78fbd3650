-- The set of the numbers below n. Assumes nothing.
use Prim.Native.Nat.{ℕ, zero, suc, ◌^◌, ◌<◌, ◌≤◌}
use native.Mathlib.Nat.{eq-or-lt_of_le, le_of_suc-le-suc, le_refl, lt_of_lt_of_le}
use native.Mathlib.Omega.{arith}
use mathlib.Core.Path.{◌≡◌, refl, sym, ap, ◌∙◌}
use mathlib.Core.Logic.{⊎_elim}
use lib.Dec.{T, ltb→lt, lt→ltb}
use lib.Pow.{ones_lt, pow_mono}
use borrow.Author.Tests.{lt-ltb, le-ltb}
use Rattle.bits.specs.Word.{bit, many, all}
use Rattle.bits.proofs.Laws.{bit_all}
use Rattle.bits.proofs.Ranks.{rank_in, rank_out}

pub all_lt : (n m : ℕ) → n ≤ m → all n < 2 ^ m
unfolding all
all_lt n m l = lt_of_lt_of_le (ones_lt n) (pow_mono l)

module _ (n : ℕ) where
  pub all_in : (q : ℕ) → q < n → T (bit (all n) q)
  all_in q l = rw (bit_all n q) (lt→ltb q n l)

  pub all_out : (q : ℕ) → T (bit (all n) q) → q < n
  all_out q h = ltb→lt q n (rw (bit_all n q) at h)

  -- i of them are below i
  pub rank_all : (i : ℕ) → i ≤ n → many i (bit (all n)) ≡ i
  unfolding many
  rank_all zero l = refl
  rank_all (suc i) l = rank_in (bit (all n)) i (bit_all n i ∙ lt-ltb i n l) ∙ ap suc (rank_all i (omega arith))

  -- and n in all
  pub count_all : (m : ℕ) → n ≤ m → many m (bit (all n)) ≡ n
  count_all zero l = rank_all zero (omega arith) ∙ omega arith
  count_all (suc m) l =
      ⊎_elim (λ e. ap (λ (x : ℕ). many x (bit (all n))) (sym e) ∙ rank_all n (le_refl n))
      (λ h. rank_out (bit (all n)) m (bit_all n m ∙ le-ltb m n (le_of_suc-le-suc h)) ∙ count_all m (le_of_suc-le-suc h)) (eq-or-lt_of_le l)
