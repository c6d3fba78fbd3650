-- Laws of `linked`.
use mathlib.Core.Path.{◌≡◌, refl, sym, subst, ◌∙◌}
use mathlib.Core.List.{List}
use mathlib.Core.Bool.{Bool, true, false, cond}
use Prim.Native.Nat.{ℕ, ◌+◌, ◌<◌, ◌≤◌}
use native.Mathlib.Omega.{arith}
use native.Mathlib.Decide.{ℕ_discrete}
use lib.Bits.{bit_or, or_self}
use Rattle.bits.specs.Word.{bit}
use Rattle.automata.specs.Table.{table_states, cell}
use Rattle.automata.specs.inner.Cells.{Put, In, linked}
use Rattle.automata.proofs.Puts.{put_down, dec_in}

pub linked_final : (t : List ℕ) (src f p q : ℕ) → bit f p ≡ true → linked t src f p q ≡ bit_or (cell t p q) (cell t src q)
unfolding linked
linked_final t src f p q e = rw e

pub linked_plain : (t : List ℕ) (src f p q : ℕ) → bit f p ≡ false → linked t src f p q ≡ cell t p q
unfolding linked
linked_plain t src f p q e = rw e

pub linked_same : (t u : List ℕ) (src f p q : ℕ) → cell t p q ≡ cell u p q → cell t src q ≡ cell u src q → linked t src f p q ≡ linked u src f p q
unfolding linked
linked_same t u src f p q e h = cc

cond_same : (b : Bool) (x y : ℕ) → x ≡ y → cond b x y ≡ y
cond_same true x y e = e
cond_same false x y e = refl

-- what leaves src stays
pub linked_src : (t : List ℕ) (src f q : ℕ) → linked t src f src q ≡ cell t src q
unfolding linked
linked_src t src f q = cond_same (bit f src) _ _ (or_self (cell t src q))

-- the row of src need not be gone over
pub link_after : (t t' : List ℕ) (src b c d f : ℕ) → d ≤ table_states → Put t t' (src + 1) b c d (linked t src f) → Put t t' src b c d (linked t src f)
link_after t t' src b c d f n x = record { new = λ p q i. new p q i (ℕ_discrete p src); old = λ p q h o. x.old p q h (λ i. o (record { top = omega (arith, i.top); bottom = i.bottom; left = i.left; right = i.right })) }
  where
    new : (p q : ℕ) → In src b c d p q → Dec (p ≡ src) → cell t' p q ≡ linked t src f p q
    new p q i (yes e) = x.old p q (omega (arith, i.right)) (λ j. omega (arith, e, j.top)) ∙ sym (subst (λ (r : ℕ). linked t src f r q ≡ cell t r q) (sym e) (linked_src t src f q))
    new p q i (no o) = x.new p q (record { top = omega (arith, i.top, o); bottom = i.bottom; left = i.left; right = i.right })

-- a row more
module _ (t₀ t₁ t₂ : List ℕ) (a b c d src f : ℕ) (l : a ≤ b) (n : d ≤ table_states) (x : Put t₀ t₁ a b c d (linked t₀ src f)) where
  src_kept : (q : ℕ) → c ≤ q → q < d → Dec (In a b c d src q) → cell t₁ src q ≡ cell t₀ src q
  src_kept q m k (yes i) = x.new src q i ∙ linked_src t₀ src f q
  src_kept q m k (no o) = x.old src q (omega arith) o

  pub link_step : Put t₁ t₂ b (b + 1) c d (linked t₁ src f) → Put t₀ t₂ a (b + 1) c d (linked t₀ src f)
  link_step y =
      put_down (b + 1) l (omega arith) n x y
      (λ p q i. linked_same t₁ t₀ src f p q (x.old p q (omega arith) (omega arith)) (src_kept q i.left i.right (dec_in a b c d src q)))
