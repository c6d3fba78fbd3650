-- An edge and a final state of the table that words and a set are, taken apart and put together. Assumes nothing.
use Prim.Native.Nat.{ℕ, ◌<◌}
use mathlib.Core.Bool.{◌&&◌}
use mathlib.Core.List.{List}
use lib.Dec.{T, ltb, ltb→lt, lt→ltb}
use Rattle.bits.specs.Word.{bit}
use Rattle.bits.proofs.Truths.{and_T}
use Rattle.automata.specs.Table.{cell, final_of, table_of}

module _ (t : List ℕ) (n f : ℕ) where
  pub edge_out : (p x q : ℕ) → T ((table_of t n f).edge p x q) → (p < n) × (q < n) × T (bit (cell t p q) x)
  edge_out p x q s =
      let h = (and_T (ltb p n) (ltb q n && bit (cell t p q) x)).0 s in let k = (and_T (ltb q n) (bit (cell t p q) x)).0 h.1 in
      (ltb→lt p n h.0, ltb→lt q n k.0, k.1)

  pub edge_in : (p x q : ℕ) → p < n → q < n → T (bit (cell t p q) x) → T ((table_of t n f).edge p x q)
  edge_in p x q hp hq s =
      (and_T (ltb p n) (ltb q n && bit (cell t p q) x)).1 (lt→ltb p n hp, (and_T (ltb q n) (bit (cell t p q) x)).1 (lt→ltb q n hq, s))

module _ (n f : ℕ) where
  pub final_out : (q : ℕ) → T (final_of n f q) → (q < n) × T (bit f q)
  final_out q s = let h = (and_T (ltb q n) (bit f q)).0 s in (ltb→lt q n h.0, h.1)

  pub final_in : (q : ℕ) → q < n → T (bit f q) → T (final_of n f q)
  final_in q h s = (and_T (ltb q n) (bit f q)).1 (lt→ltb q n h, s)
