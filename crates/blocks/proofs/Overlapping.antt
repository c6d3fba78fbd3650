-- Laws of `overlapped` and `chosen`.
use mathlib.Core.Path.{◌≡◌, refl, sym, ap, ap₂, ◌∙◌}
use mathlib.Core.List.{List}
use mathlib.Core.Bool.{true, false, cond}
use Prim.Native.Nat.{ℕ, zero, suc, ◌+◌, ◌-◌, ◌<◌, ◌≤◌}
use native.Mathlib.Omega.{arith}
use lib.Bits.{bit_or, bit_and}
use Rattle.bits.specs.Word.{bit}
use Rattle.automata.specs.Table.{table_states, cell}
use Rattle.automata.specs.inner.Cells.{Put, overlapped, overlapped_by, chosen}
use Rattle.automata.proofs.Puts.{put_over, put_down, put_right, put_as, put_keep}
use borrow.Author.Tests.{lt-ltb, le-ltb}

pub one_final : (t : List ℕ) (fs src f p q : ℕ) → bit fs f ≡ true → overlapped_by t fs src f p q ≡ bit_or (cell t p q) (bit_and (cell t p f) (cell t src q))
unfolding overlapped_by
one_final t fs src f p q e = rw e

pub one_plain : (t : List ℕ) (fs src f p q : ℕ) → bit fs f ≡ false → overlapped_by t fs src f p q ≡ cell t p q
unfolding overlapped_by
one_plain t fs src f p q e = rw e

overlapped_suc : (t : List ℕ) (fs a src k p q : ℕ)
    → overlapped t fs a src (suc k) p q ≡ cond (bit fs (a + k)) (bit_or (overlapped t fs a src k p q) (bit_and (cell t p (a + k)) (cell t src q))) (overlapped t fs a src k p q)
unfolding overlapped
overlapped_suc t fs a src k p q = refl

pub overlapped_none : (t : List ℕ) (fs a src p q : ℕ) → overlapped t fs a src (a - a) p q ≡ cell t p q
unfolding overlapped
overlapped_none t fs a src p q = let e : a - a ≡ 0 = omega arith in rw e

-- what the table holds where one final more is taken
one_is : (t u : List ℕ) (fs a src f p q : ℕ) → a ≤ f → cell u p q ≡ overlapped t fs a src (f - a) p q → cell u p f ≡ cell t p f → cell u src q ≡ cell t src q
    → overlapped_by u fs src f p q ≡ overlapped t fs a src (f + 1 - a) p q
unfolding overlapped_by
one_is t u fs a src f p q l e₁ e₂ e₃ =
    let s : f + 1 - a ≡ suc (f - a) = omega arith in
    let r : a + (f - a) ≡ f = omega arith in
    rw (s, overlapped_suc, r, e₁, e₂, e₃)

pub overlap_step : (t₀ t₁ t₂ : List ℕ) (fs a b hi f p : ℕ) → a ≤ f → f < b → p < b → hi ≤ table_states
    → Put t₀ t₁ p (p + 1) b hi (overlapped t₀ fs a b (f - a)) → Put t₁ t₂ p (p + 1) b hi (overlapped_by t₁ fs b f)
    → Put t₀ t₂ p (p + 1) b hi (overlapped t₀ fs a b (f + 1 - a))
overlap_step t₀ t₁ t₂ fs a b hi f p l m n o x y =
    put_over _ x y
    (λ r q i. one_is t₀ t₁ fs a b f r q l (x.new r q i) (x.old r f (omega arith) (omega arith)) (x.old b q (omega arith) (omega arith)))

overlapped_same : (t u : List ℕ) (fs a src k p q : ℕ) → ((s : ℕ) → s < a + k → cell t p s ≡ cell u p s) → cell t p q ≡ cell u p q → cell t src q ≡ cell u src q
    → overlapped t fs a src k p q ≡ overlapped u fs a src k p q
unfolding overlapped
overlapped_same t u fs a src zero p q e₁ e₂ e₃ = e₂
overlapped_same t u fs a src (suc k) p q e₁ e₂ e₃ =
    let h : overlapped t fs a src k p q ≡ overlapped u fs a src k p q = overlapped_same t u fs a src k p q (λ s l. e₁ s (omega arith)) e₂ e₃ in
    let g : cell t p (a + k) ≡ cell u p (a + k) = e₁ (a + k) (omega arith) in
    rw (h, g, e₃)

pub overlap_down : (t₀ t₁ t₂ : List ℕ) (fs a b hi p : ℕ) → a ≤ p → p < b → hi ≤ table_states → b < hi
    → Put t₀ t₁ a p b hi (overlapped t₀ fs a b (b - a)) → Put t₁ t₂ p (p + 1) b hi (overlapped t₁ fs a b (b - a))
    → Put t₀ t₂ a (p + 1) b hi (overlapped t₀ fs a b (b - a))
overlap_down t₀ t₁ t₂ fs a b hi p l m n o x y =
    put_down (p + 1) l (omega arith) n x y
    (λ r q i. overlapped_same t₁ t₀ fs a b (b - a) r q (λ s k. x.old r s (omega arith) (omega arith)) (x.old r q (omega arith) (omega arith)) (x.old b q (omega arith) (omega arith)))

pub one_put : (t t' : List ℕ) (fs src f r lo hi x : ℕ) → bit fs f ≡ true → x ≡ cell t r f
    → Put t t' r (r + 1) lo hi (λ p q. bit_or (cell t p q) (bit_and x (cell t src q))) → Put t t' r (r + 1) lo hi (overlapped_by t fs src f)
one_put t t' fs src f r lo hi x on is y =
    put_as y refl refl refl refl
    (λ p q i. let e : r ≡ p = omega arith in
    ap (λ (v : ℕ). bit_or (cell t p q) (bit_and v (cell t src q))) (is ∙ ap (λ (k : ℕ). cell t k f) e) ∙ sym (one_final t fs src f p q on))

pub one_keep : (t : List ℕ) (fs src f r lo hi : ℕ) → bit fs f ≡ false → Put t t r (r + 1) lo hi (overlapped_by t fs src f)
one_keep t fs src f r lo hi off = put_keep t r (r + 1) lo hi (overlapped_by t fs src f) (λ p q i. sym (one_plain t fs src f p q off))

chosen_low : (t : List ℕ) (base b p q : ℕ) → q < b → chosen t base b p q ≡ bit_or (cell t p q) (cell t (base + 1) q)
unfolding chosen
chosen_low t base b p q l = rw (lt-ltb q b l)

chosen_high : (t : List ℕ) (base b p q : ℕ) → b ≤ q → chosen t base b p q ≡ bit_or (cell t p q) (cell t b q)
unfolding chosen
chosen_high t base b p q l = rw (le-ltb q b l)

pub choice_both : (t₀ t₁ t₂ : List ℕ) (base b hi : ℕ) → base + 1 ≤ b → b < hi → hi ≤ table_states
    → Put t₀ t₁ base (base + 1) (base + 1) b (λ p q. bit_or (cell t₀ p q) (cell t₀ (base + 1) q))
    → Put t₁ t₂ base (base + 1) b hi (λ p q. bit_or (cell t₁ p q) (cell t₁ b q))
    → Put t₀ t₂ base (base + 1) (base + 1) hi (chosen t₀ base b)
choice_both t₀ t₁ t₂ base b hi l m n x y =
    put_right hi l (omega arith) n (put_as x refl refl refl refl (λ p q i. sym (chosen_low t₀ base b p q i.right))) y
    (λ p q i. ap₂ bit_or (x.old p q (omega arith) (omega arith)) (x.old b q (omega arith) (omega arith)) ∙ sym (chosen_high t₀ base b p q i.left))
