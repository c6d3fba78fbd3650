-- Laws of `moved` and `paired`. Assumes nothing.
use mathlib.Core.Path.{◌≡◌, sym, ap, ap₂, subst, ◌∙◌}
use mathlib.Core.List.{List}
use Prim.Native.Nat.{ℕ, ◌+◌, ◌-◌, ◌*◌, ◌/◌, ◌%◌, ◌<◌, ◌≤◌}
use native.Mathlib.Omega.{arith}
use lib.ListN.{get_or, take, drop}
use Rattle.std.proofs.lemmas.List.{get_or-take, get_or-drop}
use native.Mathlib.Nat.{div-lt_iff_lt-mul, mod-lt, mul-le-mul_right, suc-mul}
use lib.Bits.{bit_and}
use Rattle.definitions.specs.Definition1.{Rule}
use Rattle.rules.specs.Weight.{weight_of}
use Rattle.automata.specs.Table.{table_states, cell}
use Rattle.automata.specs.inner.Cells.{Put, moved, paired}
use Rattle.automata.specs.inner.Block.{Block}
use Rattle.automata.proofs.Places.{by_cell}
use Rattle.automata.proofs.language.Boths.{pair_fst, pair_snd}

-- a pair's parts are states of the operands
pub part : (x m n w : ℕ) → w ≡ m * n → 0 < n → x < w → (x / n < m) × (x % n < n)
part x m n w e l h = ((div-lt_iff_lt-mul l).1 (subst (λ (k : ℕ). x < k) e h), mod-lt x l)

-- a part of the pairs is inside them
pub part_inside : (j m n : ℕ) → j < m → j * n + n ≤ m * n
part_inside j m n l = subst (λ (x : ℕ). x ≤ m * n) (suc-mul j n) (mul-le-mul_right n l)

-- of the part that begins at lo: `by` leads to its first state, and the row has the labels to the second states
unfoldable pub met : List ℕ → ℕ → ℕ → ℕ → ℕ → ℕ → ℕ
met t by row second lo q = bit_and by (cell t row (second + (q - lo)))

pub met_at : (t : List ℕ) (by row second lo k r : ℕ) → r ≡ cell t row (second + k) → bit_and by r ≡ met t by row second lo (lo + k)
unfolding met
met_at t by row second lo k r h = let e : k ≡ lo + k - lo = omega arith in ap (bit_and by) (h ∙ ap (λ (y : ℕ). cell t row (second + y)) e)

-- these are labels of the pairs
pub met_paired : (t : List ℕ) (base n second p j by x q : ℕ) → by ≡ cell t ((p - base) / n) j → p ≡ x → base + j * n ≤ q → q < base + j * n + n
    → met t by (second + (p - base) % n) second (base + j * n) q ≡ paired t base n second x q
unfolding met paired
met_paired t base n second p j by x q h ep l r =
    let e : q - base ≡ j * n + (q - (base + j * n)) = omega arith in
    let k : q - (base + j * n) < n = omega arith in
    let fst : j ≡ (q - base) / n = sym (ap (λ (y : ℕ). y / n) e ∙ pair_fst n j (q - (base + j * n)) k) in
    let snd : q - (base + j * n) ≡ (q - base) % n = sym (ap (λ (y : ℕ). y % n) e ∙ pair_snd n j (q - (base + j * n)) k) in
    ap₂ bit_and (h ∙ ap (cell t ((p - base) / n)) fst) (ap (λ (y : ℕ). cell t (second + (p - base) % n) (second + y)) snd)
    ∙ ap (λ (y : ℕ). paired t base n second y q) ep

-- a row of the block at from, where it stands in the block at to
pub moved_slice : (t ys : List ℕ) (from to i k p q : ℕ) → ys ≡ take k (drop (table_states * (from + i) + from) t) → p ≡ to + i → to ≤ q → q < to + k → get_or ys (q - to) 0 ≡ moved t from to p q
unfolding moved
moved_slice t ys from to i k p q h ep l r =
    let e : table_states * (from + i) + from + (q - to) ≡ table_states * (from + (p - to)) + (from + (q - to)) = omega arith in
    ap (λ (zs : List ℕ). get_or zs (q - to) 0) h ∙ get_or-take k _ (q - to) 0 (omega arith) ∙ get_or-drop _ t (q - to) 0 ∙ ap (λ (x : ℕ). get_or t x 0) e

-- a copied block is the block
pub moved_block : (t u u₁ : List ℕ) (from to w k c c' : ℕ) (r : Rule) → Put u u₁ to (to + w) to (to + w) (moved t from to) → c ≡ from + k → c' ≡ to + k → k + weight_of r ≤ w
    → Block t c r → Block u₁ c' r
unfolding moved
moved_block t u u₁ from to w k c c' r put h h' l b = record {
  label = λ p q x hp hq hx.
      let d : from + (c' + p - to) ≡ c + p = omega arith in
      let e : from + (c' + q - to) ≡ c + q = omega arith in
      by_cell (cell u₁ (c' + p) (c' + q)) (cell t (c + p) (c + q)) x (put.new (c' + p) (c' + q) (omega arith) ∙ ap₂ (λ (i j : ℕ). cell t i j) d e) (b.label p q x hp hq hx);
}
