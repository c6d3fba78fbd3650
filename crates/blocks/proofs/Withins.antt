-- `&`: both sides are pairs over one copy of {a;true[*]} and {b;true[*]}. Assumes nothing.
use Prim.Native.Nat.{ℕ, ◌+◌, ◌*◌, ◌<◌, ◌≤◌}
use native.Mathlib.Omega.{arith}
use native.Mathlib.Nat.{le-mul_of_pos_right, mul_comm}
use mathlib.Core.Path.{◌≡◌, refl, sym}
use mathlib.Core.Logic.{⊎_elim}
use mathlib.Core.List.{List}
use lib.ListN.{replicate, length-replicate, get_or-replicate, get_or-eq_default}
use Rattle.bits.specs.Word.{all}
use Rattle.bits.proofs.Laws.{lt_or_ge}
use Rattle.definitions.specs.declared.kinds.Pair.TheVariants.{Then, Within, Both}
use Rattle.definitions.specs.Definition1.{Rule, two}
use Rattle.rules.specs.Weight.{weight_of}
use Rattle.rules.proofs.Weighing.{weight_pos}
use Rattle.automata.specs.declared.shape.Shape.{Shape}
use Rattle.automata.specs.Build.{auto}
use Rattle.automata.specs.inner.Cells.{Put, Clean, linked, moved, paired, chosen}
use Rattle.automata.specs.inner.Block.{FinalsAt, Block, Built, Beside, any_rule, within_rule}
use Rattle.automata.specs.inner.Sets.{Raised}
use Rattle.automata.specs.inner.Shapes.{ShapeOf}
use Rattle.blocks.specs.inner.Building.{Room, Joins}
use Rattle.automata.proofs.language.Language.{within_weight}
use Rattle.automata.proofs.FinalSets.{raise_finals}
use Rattle.automata.proofs.Places.{beside, built_at, clean_on, built_over}
use Rattle.blocks.proofs.Singles.{any_built}
use Rattle.blocks.proofs.Crossings.{then_built, then_first}
use Rattle.blocks.proofs.Choices.{either_built}
use Rattle.blocks.proofs.Products.{both_built}
use Rattle.blocks.proofs.Pairing.{moved_block}
use Rattle.automata.specs.Table.{table_states}
use Rattle.definitions.specs.Definition2.{letter_count}

-- {a;true[*]}
pub padded : (t t₁ t₂ t₃ : List ℕ) (base mid hi f : ℕ) (x : Rule) → Clean t base → mid ≡ base + weight_of x → hi ≡ mid + 2 → hi ≤ table_states → FinalsAt f base x
    → Built t t₁ base x → Put t₁ t₂ mid (mid + 2) (mid + 1) (mid + 2) (λ p q. all letter_count) → Put t₂ t₃ base mid mid hi (linked t₂ mid f) → Built t t₃ base (two Then x any_rule)
padded t t₁ t₂ t₃ base mid hi f x c e d l fin b any put =
    let k = any_built t₁ t₂ mid (clean_on t t₁ base mid x c b (omega arith)) (omega arith) any in
    then_built t t₂ t₃ base mid hi f x any_rule c e d l (beside t t₁ t₂ base x any_rule (omega arith) b (rw e at k)) fin put

-- a copy of the block of a rule of the shape a, with true[*] behind it
pub copy_padded : (a : Shape) (t u u₁ u₂ : List ℕ) (from to f : ℕ) (x : Rule) (e : ℕ) → Clean u to → ShapeOf x e a → Block t from x → Raised a.finals to f
    → Put u u₁ to (to + a.weight) to (to + a.weight) (moved t from to)
    → ((t₀ : List ℕ) (x : Rule) → Clean t₀ to → a.weight ≡ weight_of x → FinalsAt f to x → Built t₀ u₁ to x → Built t₀ u₂ to (two Then x any_rule)) → Built u u₂ to (two Then x any_rule)
copy_padded a t u u₁ u₂ from to f x e clean h b raised put pad =
    pad u x clean h.weighs (raise_finals raised h.final_set) (record {
      block = moved_block t u u₁ from to a.weight 0 from to x put (omega arith) (omega arith) (omega (arith, h.weighs)) b;
      others = λ p q l out. put.old p q l (λ i. out (omega (arith, h.weighs)));
    })

pub within_built : (t t₁ : List ℕ) (base : ℕ) (a b : Rule) → Built t t₁ base (within_rule a b) → Built t t₁ base (two Within a b)
unfolding auto
within_built t t₁ base a b h = record {
  block = record { label = λ p q x hp hq hx. h.block.label p q x (omega (arith, e)) (omega (arith, e)) hx };
  others = λ p q l out. h.others p q l (λ i. out (omega (arith, e)));
}
  where
    e : 1 + weight_of a * (weight_of b + 2) + (weight_of a + 2) * weight_of b ≡ 2 * (weight_of a * weight_of b) + 2 * weight_of a + 2 * weight_of b + 1
    e = within_weight (weight_of a) (weight_of b)

side_by_side : (c m n : ℕ) → 0 < m → c + (m + n) ≤ c + m * (n + 2)
side_by_side c m n h = omega (arith, le-mul_of_pos_right n h, mul_comm n m)

module _ (t₀ t t₁ t₂ t₃ u₀ u₁ u₂ : List ℕ) (base right hi : ℕ) (x y : Rule) (clean : Clean t₀ base) (none : Clean u₀ 0) (s : Beside t₀ t (base + 1) x y)
    (room : base + (2 * (weight_of x * weight_of y) + 2 * weight_of x + 2 * weight_of y + 1) ≤ table_states)
    (er : right ≡ base + 1 + weight_of x * (weight_of y + 2)) (eh : hi ≡ right + (weight_of x + 2) * weight_of y)
    (bx : Built u₀ u₁ 0 (two Then x any_rule)) (by : Clean u₁ (weight_of x + 2) → Built u₁ u₂ (weight_of x + 2) (two Then y any_rule))
    (left-put : Put t t₁ (base + 1) (base + 1 + weight_of x * (weight_of y + 2)) (base + 1) (base + 1 + weight_of x * (weight_of y + 2)) (paired u₂ (base + 1) (weight_of y + 2) (weight_of x + 2)))
    (right-put : Put t₁ t₂ right (right + (weight_of x + 2) * weight_of y) right (right + (weight_of x + 2) * weight_of y) (paired u₂ right (weight_of y) (weight_of x + 2))) where
  y_built : Built u₁ u₂ (weight_of x + 2) (two Then y any_rule)
  y_built = by (clean_on u₀ u₁ 0 (weight_of x + 2) (two Then x any_rule) none bx (omega arith))

  x_block : Block u₂ 0 (two Then x any_rule)
  x_block = (beside u₀ u₁ u₂ 0 (two Then x any_rule) (two Then y any_rule) (omega arith) bx
      (built_at u₁ u₂ (weight_of x + 2) (0 + (weight_of x + 2)) (two Then y any_rule) (omega arith) y_built)).a_block

  left : Built t₀ t₁ (base + 1) (two Both x (two Then y any_rule))
  left =
      built_over t₀ t t₁ (base + 1) (base + 1) x y (two Both x (two Then y any_rule)) s (omega arith)
      (side_by_side (base + 1) (weight_of x) (weight_of y) (weight_pos x))
      (both_built u₂ t t₁ (base + 1) (weight_of x + 2) (weight_of x) (weight_of y + 2) x (two Then y any_rule) refl refl (then_first u₂ 0 x any_rule x_block) y_built.block left-put)

  right_side : Built t₁ t₂ right (two Both (two Then x any_rule) y)
  right_side = both_built u₂ t₁ t₂ right (weight_of x + 2) (weight_of x + 2) (weight_of y) (two Then x any_rule) y refl refl x_block (then_first u₂ (weight_of x + 2) y any_rule y_built.block) right-put

  within_block : Put t₂ t₃ base (base + 1) (base + 1) hi (chosen t₂ base right) → Built t₀ t₃ base (two Within x y)
  within_block put =
      let w = within_weight (weight_of x) (weight_of y) in
      within_built t₀ t₃ base x y
      (either_built t₀ t₂ t₃ base right hi (two Both x (two Then y any_rule)) (two Both (two Then x any_rule) y) clean er eh (omega arith)
      (beside t₀ t₁ t₂ (base + 1) (two Both x (two Then y any_rule)) (two Both (two Then x any_rule) y) (omega arith) left (rw er at right_side)) put)

-- over operands of the shapes a and b
pub zeros : (n : ℕ) → Clean (replicate n 0) 0
zeros n = record { none = λ p q h₁ h₂ h₃ h₄. ⊎_elim (λ l. get_or-replicate n (table_states * p + q) 0 0 l) (λ l. get_or-eq_default (replicate n 0) 0 (omega (arith, length-replicate {A = ℕ} n 0))) (lt_or_ge (table_states * p + q) n) }

module _ (a b : Shape) (t t₁ t₂ t₃ u₀ u₁ u₂ : List ℕ) (base : ℕ) where
  abbrev right : ℕ
  right = base + 1 + a.weight * (b.weight + 2)

  abbrev hi : ℕ
  hi = right + (a.weight + 2) * b.weight

  pub within_joins : Room Within a b t base → Clean u₀ 0
      → ((x : Rule) (e : ℕ) → Clean u₀ 0 → ShapeOf x e a → Block t (base + 1) x → Built u₀ u₁ 0 (two Then x any_rule))
      → ((y : Rule) (e : ℕ) → Clean u₁ (a.weight + 2) → ShapeOf y e b → Block t (base + 1 + a.weight) y → Built u₁ u₂ (a.weight + 2) (two Then y any_rule))
      → Put t t₁ (base + 1) right (base + 1) right (paired u₂ (base + 1) (b.weight + 2) (a.weight + 2))
      → Put t₁ t₂ right hi right hi (paired u₂ right b.weight (a.weight + 2)) → Put t₂ t₃ base (base + 1) (base + 1) hi (chosen t₂ base right) → Joins Within a b t t₃ base
  within_joins room none kx ky left-put right-put put = record {
    joined = λ t₀ x y d e clean hx hy s.
        let em = hx.weighs in let en = hy.weighs in
        within_block t₀ t t₁ t₂ t₃ u₀ u₁ u₂ base _ _ x y clean none s (rw (em, en) at room.square) refl refl (kx x d none hx s.a_block)
        (λ k. rw em at (ky y e (rw (sym em) at k) hy (rw (sym em) at s.b_block))) (rw (em, en) at left-put) (rw (em, en) at right-put) (rw (em, en) at put);
  }
