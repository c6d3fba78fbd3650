-- `rules::weight_of_row` meets its contract. Assumes nothing.
use Prim.Native.Nat.{ℕ, zero, suc, ◌*◌, ◌≤◌, min}
use mathlib.Core.Path.{◌≡◌, refl, ap, ◌∙◌}
use native.Mathlib.Nat.{mul-le-mul}
use borrow.Author.Rules.{rules}
use Rattle.rules.specs.Weight.{row_weight, counted_to}
use Rattle.rules.proofs.weights.weight_of_row.Goals as goal

no_part : (j m : ℕ) → j ≡ 0 → 1 ≡ min counted_to (row_weight j m)
no_part j m e = rw e

some-part : (j m : ℕ) → (j ≡ 0 → ⊥) → j * m ≡ row_weight j m
some-part zero m n = absurd (n refl)
some-part (suc j) m n = refl

product : (j m : ℕ) → j ≤ 15 → m ≤ 65 → j * m ≤ 975
product j m p q = mul-le-mul p q

pub overflow_mul-count : goal.overflow_mul-count
overflow_mul-count c = let p = product c.args.count c.args.m c.requires.0 c.requires.1 in search rules

pub returns-then-count-eq0 : goal.returns-then-count-eq0
returns-then-count-eq0 c = no_part _ _ c.if-count-eq0.true

pub returns-else-count-eq0 : goal.returns-else-count-eq0
returns-else-count-eq0 c = c.capped.ensures ∙ ap (min counted_to) (some-part _ _ c.if-count-eq0.false)
