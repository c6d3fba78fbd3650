-- `&&`: the pairs, in the blocks' place. Assumes nothing.
use Prim.Native.Nat.{ℕ, zero, suc, ◌+◌, ◌*◌, ◌-◌, ◌/◌, ◌%◌, ◌<◌, ◌≤◌}
use native.Mathlib.Omega.{arith}
use native.Mathlib.Nat.{mul-le-mul_right, mul_comm, suc-mul, mod-lt, div-add-mod', div-lt_iff_lt-mul}
use native.Mathlib.Decide.{dec_lt}
use mathlib.Core.Path.{◌≡◌, refl, sym, ap, ◌∙◌}
use mathlib.Core.Logic.{◌⊎◌, inl, inr, ◌↔◌}
use mathlib.Core.List.{List}
use Rattle.std.specs.Prelude.{Some, None}
use Rattle.definitions.specs.declared.kinds.Pair.TheVariants.{Both}
use Rattle.definitions.specs.Definition1.{Rule, two}
use Rattle.rules.specs.Weight.{weight_of}
use Rattle.automata.specs.declared.shape.Shape.{Shape}
use Rattle.automata.specs.Table.{table_states, cell}
use Rattle.automata.specs.Build.{auto, BothStep}
use Rattle.automata.specs.inner.Cells.{Put, Clean, moved, paired}
use Rattle.automata.specs.inner.Block.{Block, Built}
use Rattle.blocks.specs.inner.Building.{Room, Joins, Placed, nowhere, from}
use Rattle.automata.proofs.Labels.{Has, has_paired}
use Rattle.automata.proofs.language.Boths.{both_label}
use Rattle.automata.proofs.language.Language.{good, size_weight}
use Rattle.rules.proofs.Weighing.{weight_pos}
use Rattle.automata.proofs.Serving.{step_inside}
use Rattle.automata.proofs.Places.{by_cell, by_none, block_at, built_over}
use Rattle.blocks.proofs.Pairing.{moved_block}
use Rattle.definitions.specs.Definition2.{letter_count}

both_step_at : (a b : Rule) (p q i j k l x : ℕ) → p ≡ i * weight_of b + j → q ≡ k * weight_of b + l → j < weight_of b → l < weight_of b
    → (auto (two Both a b)).step p x q ↔ ((auto a).step i x k × (auto b).step j x l)
unfolding auto
both_step_at a b p q i j k l x d e hj hl =
    let d' : p ≡ i * (auto b).size + j = d ∙ ap (λ (n : ℕ). i * n + j) (sym (size_weight b)) in
    let e' : q ≡ k * (auto b).size + l = e ∙ ap (λ (n : ℕ). k * n + l) (sym (size_weight b)) in
    rw (d', e') (both_label (auto a) (auto b) (good a) (good b) i j k l x (omega (arith, size_weight b)) (omega (arith, size_weight b)))

paired_at : (t : List ℕ) (base n second P Q p q x : ℕ) → P ≡ base + p → Q ≡ base + q
    → Has (paired t base n second P Q) x ↔ (Has (cell t (p / n) (q / n)) x × Has (cell t (second + p % n) (second + q % n)) x)
paired_at t base n second P Q p q x d e =
    let d' : P - base ≡ p = omega arith in let e' : Q - base ≡ q = omega arith in
    rw (d', e') at (has_paired t base n second P Q x)

-- u is a copy, with a at 0 and b at second
module _ (u t t₁ : List ℕ) (base second : ℕ) (a b : Rule) (ba : Block u 0 a) (bb : Block u second b)
    (put : Put t t₁ base (base + weight_of a * weight_of b) base (base + weight_of a * weight_of b) (paired u base (weight_of b) second)) where
  both_label_at : (p q x : ℕ) → p < weight_of a * weight_of b → q < weight_of a * weight_of b → x < letter_count
      → Has (cell t₁ (base + p) (base + q)) x ↔ (auto (two Both a b)).step p x q
  both_label_at p q x hp hq hx =
      let n : 0 < weight_of b = omega (arith, weight_pos b) in
      let c = paired_at u base (weight_of b) second (base + p) (base + q) p q x refl refl in
      let l = block_at u 0 a ba (p / weight_of b) (q / weight_of b) (p / weight_of b) (q / weight_of b) x (omega arith) (omega arith) ((div-lt_iff_lt-mul n).1 hp) ((div-lt_iff_lt-mul n).1 hq) hx in
      let r = bb.label (p % weight_of b) (q % weight_of b) x (mod-lt p n) (mod-lt q n) hx in
      let z = both_step_at a b p q (p / weight_of b) (p % weight_of b) (q / weight_of b) (q % weight_of b) x
      (sym (div-add-mod' p (weight_of b))) (sym (div-add-mod' q (weight_of b))) (mod-lt p n) (mod-lt q n) in
      by_cell (cell t₁ (base + p) (base + q)) (paired u base (weight_of b) second (base + p) (base + q)) x (put.new (base + p) (base + q) (omega arith))
      (λ h. z.1 (l.0 (c.0 h).0, r.0 (c.0 h).1), λ s. c.1 (l.1 (z.0 s).0, r.1 (z.0 s).1))

  both_block : Built t t₁ base (two Both a b)
  both_block = record { block = record { label = both_label_at }; others = put.old }

-- where an operand has one state there is no label at all
one_none : (r : Rule) (p x q : ℕ) → weight_of r ≡ 1 → (auto r).step p x q → ⊥
one_none r p x q e s = let d = step_inside r p x q s in omega arith

module _ (a b : Rule) (single : (weight_of a ≡ 1) ⊎ (weight_of b ≡ 1)) where
  both_none : (p x q : ℕ) → (auto (two Both a b)).step p x q → ⊥
  unfolding auto
  both_none p x q (BothStep.pair i j k l d e s u) = go single
    where
      go : (weight_of a ≡ 1) ⊎ (weight_of b ≡ 1) → ⊥
      go (inl h) = one_none a i x k h s
      go (inr h) = one_none b j x l h u

  both_single : (t : List ℕ) (base : ℕ) → Clean t base → base + weight_of (two Both a b) ≤ table_states → Built t t base (two Both a b)
  both_single t base clean room = record {
    block = record { label = λ p q x hp hq hx. by_none (cell t (base + p) (base + q)) x (clean.none (base + p) (base + q) (omega arith) (omega arith) (omega arith) (omega arith)) (both_none p x q) };
    others = λ p q h out. refl;
  }

-- of m states and n
pub both_built : (u t t₁ : List ℕ) (base second m n : ℕ) (a b : Rule) → m ≡ weight_of a → n ≡ weight_of b → Block u 0 a → Block u second b
    → Put t t₁ base (base + m * n) base (base + m * n) (paired u base n second) → Built t t₁ base (two Both a b)
both_built u t t₁ base second m n a b e d ba bb put = both_block u t t₁ base second a b ba bb (rw (e, d) at put)

-- operands that have room in the square have two states each
two_each : (m n : ℕ) → 0 < m → 0 < n → m + n ≤ m * n → (2 ≤ m) × (2 ≤ n)
two_each m n h k l = (go m n (dec_lt m 2) h l, go n m (dec_lt n 2) k (rw (mul_comm n m) (omega arith)))
  where
    go : (m n : ℕ) → Dec (m < 2) → 0 < m → m + n ≤ m * n → 2 ≤ m
    go m n (yes d) h l = let e : m ≡ 1 = omega arith in absurd (omega (arith, rw e at l))
    go m n (no d) h l = omega arith

-- and 34 together
twice_sum : (m n : ℕ) → 2 ≤ m → 2 ≤ n → 2 * (m + n) ≤ m * n + 4
twice_sum zero n h k = absurd (omega arith)
twice_sum (suc zero) n h k = absurd (omega arith)
twice_sum (suc (suc m)) n h k = omega (arith, suc-mul (suc m) n, suc-mul m n, mul_two m n k)
  where
    mul_two : (m n : ℕ) → 2 ≤ n → m * 2 ≤ m * n
    mul_two m n k = rw (mul_comm m 2, mul_comm m n) (mul-le-mul_right m k)

-- where `&&` wants its operands
pub none_placed : (base m n : ℕ) → (m < 2) ⊎ (n < 2) → 0 < m → 0 < n → base + m * n ≤ table_states → Placed Both base m n None
none_placed base m n few h k room = nowhere (λ t x y clean em en. both_single x y (go x y few em en) t base clean (rw (em, en) at room))
  where
    go : (x y : Rule) → (m < 2) ⊎ (n < 2) → m ≡ weight_of x → n ≡ weight_of y → (weight_of x ≡ 1) ⊎ (weight_of y ≡ 1)
    go x y (inl l) e d = inl (omega arith)
    go x y (inr l) e d = inr (omega arith)

pub both_placed : (base m n : ℕ) → 2 ≤ m → 2 ≤ n → Placed Both base m n (Some base)
both_placed base m n h k = from base refl (omega arith) (omega (arith, twice_sum m n h k))

-- over operands of the shapes a and b, by way of a copy
pub both_small : (a b : Shape) (t : List ℕ) (base : ℕ) → Room Both a b t base → (2 ≤ a.weight) × (2 ≤ b.weight) × (a.weight + b.weight ≤ 34)
both_small a b t base room =
    let z = two_each a.weight b.weight room.first_some room.second_some (omega (arith, room.inside)) in
    (z.0, z.1, omega (arith, room.square, twice_sum a.weight b.weight z.0 z.1))

pub both_joins : (a b : Shape) (t t' u u₁ : List ℕ) (base : ℕ) → Room Both a b t base → Put u u₁ 0 (0 + (a.weight + b.weight)) 0 (0 + (a.weight + b.weight)) (moved t base 0)
    → Put t t' base (base + a.weight * b.weight) base (base + a.weight * b.weight) (paired u₁ base b.weight a.weight) → Joins Both a b t t' base
both_joins a b t t' u u₁ base room copied put = record {
  joined = λ t₀ x y d e clean hx hy s.
      let em = hx.weighs in let en = hy.weighs in
      built_over t₀ t t' base base x y (two Both x y) s (omega arith) (rw (em, en) at room.inside)
      (both_built u₁ t t' base a.weight a.weight b.weight x y em en
      (moved_block t u u₁ base 0 (a.weight + b.weight) 0 base 0 x copied (omega arith) (omega arith) (omega arith) s.a_block)
      (moved_block t u u₁ base 0 (a.weight + b.weight) a.weight (base + weight_of x) a.weight y copied (omega arith) (omega arith) (omega arith) s.b_block) put);
}
