-- Loops over the members of a set: how such a loop begins. Each turn and the end stand in `Resting`. Assumes nothing.
use Prim.Native.Nat.{ℕ, ◌^◌, ◌<◌}
use mathlib.Core.Path.{◌≡◌, sym, subst}
use Rattle.bits.specs.Word.{word_bits}
use Rattle.bits.specs.Sets.{Members, Over}
use Rattle.bits.proofs.Resting.{Done, Rest, rest_all, over_none, uniting_none, testing_none}

module _ {w r : ℕ} (e : r ≡ w) where
  pub rest_begun : w < 2 ^ word_bits → Rest w r
  rest_begun h = subst (Rest w) (sym e) (rest_all h)

  pub over_begun : {S : ℕ → Type 0} → Over (Done w r) S → ⊥
  over_begun {S} o = over_none (subst (λ (x : ℕ). Over (Done w x) S) e o)

  pub uniting_begun : (S : ℕ → ℕ → Type 0) → Members 0 (λ q. Over (Done w r) (λ k. S k q))
  uniting_begun S = subst (λ (x : ℕ). Members 0 (λ q. Over (Done w x) (λ k. S k q))) (sym e) (uniting_none w S)

  pub testing_begun : (P : ℕ → Type 0) → Members 0 (λ q. Done w r q × P q)
  testing_begun P = subst (λ (x : ℕ). Members 0 (λ q. Done w x q × P q)) (sym e) (testing_none w P)
