-- Taking states out, a round at a time. Assumes nothing.
use Prim.Native.Nat.{ℕ, zero, suc, ◌^◌, ◌≤◌, ◌<◌}
use native.Mathlib.Nat.{lt_of_lt_of_le, le_of_suc-le-suc, eq-or-lt_of_le, not-suc-le-zero}
use native.Mathlib.Omega.{arith}
use mathlib.Core.Path.{◌≡◌, refl, sym, ap, subst, ◌∙◌}
use mathlib.Core.Logic.{⊎_elim}
use mathlib.Core.Bool.{Bool, true, false}
use mathlib.Core.List.{List}
use lib.Dec.{T, ltb}
use lib.Pow.{pow_mono, ones_lt}
use borrow.Author.Tests.{lt-ltb, ltb-true}
use Rattle.bits.specs.Word.{bit, num, many, all}
use Rattle.bits.specs.Sets.{Members}
use Rattle.bits.proofs.Laws.{lt_or_ge, bit_all, ext}
use Rattle.bits.proofs.Truths.{true_T, T_true}
use Rattle.models.specs.Model.{model_states}
use Rattle.lasting.specs.Endless.{EndlessWay, EndlessSet}
use Rattle.lasting.specs.inner.Kept.{follows, GoesOn}
use Rattle.lasting.proofs.Ways.{endless_inside, endless_on, endless_goes}

-- ---- a smaller set has fewer members

num_le : (a b : Bool) → (T a → T b) → num a ≤ num b
num_le true true h = omega arith
num_le true false h = absurd (h tt)
num_le false b h = omega arith

num_same : (a b : Bool) → num a ≡ num b → a ≡ b
num_same true true e = refl
num_same true false e = absurd (omega arith)
num_same false true e = absurd (omega arith)
num_same false false e = refl

many_le : (n : ℕ) (f g : ℕ → Bool) → ((k : ℕ) → T (f k) → T (g k)) → many n f ≤ many n g
unfolding many
many_le zero f g h = omega arith
many_le (suc n) f g h = omega (arith, num_le (f n) (g n) (h n), many_le n f g h)

-- part of a set that has no fewer members is the set
many_same : (n : ℕ) (f g : ℕ → Bool) → ((k : ℕ) → T (f k) → T (g k)) → many n g ≤ many n f → (k : ℕ) → k < n → f k ≡ g k
unfolding many
many_same zero f g h e k l = absurd (not-suc-le-zero l)
many_same (suc n) f g h e k l =
    let a = num_le (f n) (g n) (h n) in
    let b = many_le n f g h in
    let top : num (f n) ≡ num (g n) = omega arith in
    let low : many n g ≤ many n f = omega arith in
    ⊎_elim (λ q. ap f q ∙ num_same (f n) (g n) top ∙ ap g (sym q)) (λ m. many_same n f g h low k m) (eq-or-lt_of_le (le_of_suc-le-suc l))

-- ---- a round

-- what is left in the middle: states, all from which an endless run leaves among them; and what the next round leaves
pub record Shrinking (n : ℕ) (succ : List ℕ) (set kept : ℕ) : Type 0 where
  pub small : set < 2 ^ 64
  pub kept_small : kept < 2 ^ 64
  pub inside : (s : ℕ) → T (bit set s) → s < n
  pub keeps : (s : ℕ) → EndlessWay n (follows succ) s → T (bit set s)
  pub round : Members kept (λ k. T (bit set k) × GoesOn succ set k)

-- it begins with all states
all_at : (n : ℕ) {set : ℕ} → set ≡ all n → (s : ℕ) → bit set s ≡ ltb s n
all_at n e s = ap (λ (x : ℕ). bit x s) e ∙ bit_all n s

all_inside : (n : ℕ) {set : ℕ} → set ≡ all n → (s : ℕ) → T (bit set s) → s < n
all_inside n {set} e s b = ltb-true s n (sym (all_at n e s) ∙ T_true (bit set s) b)

pub shrinking_start : (n : ℕ) {succ : List ℕ} {set kept : ℕ} → n ≤ model_states → set ≡ all n → kept < 2 ^ 64 → Members kept (λ k. T (bit set k) × GoesOn succ set k) → Shrinking n succ set kept
unfolding all
shrinking_start n few e small r = record {
  small = subst (λ (x : ℕ). x < 2 ^ 64) (sym e) (lt_of_lt_of_le (ones_lt n) (pow_mono few));
  kept_small = small;
  inside = all_inside n e;
  keeps = λ s w. true_T (all_at n e s ∙ lt-ltb s n (endless_inside w));
  round = r;
}

module _ {n : ℕ} {succ : List ℕ} {set kept : ℕ} (g : Shrinking n succ set kept) where
  -- an endless run's states have a successor in what is left
  kept_all : (s : ℕ) → EndlessWay n (follows succ) s → T (bit kept s)
  kept_all s w = g.round.has s (g.keeps s w, (w.way 1, endless_goes w, g.keeps (w.way 1) (endless_on w)))

  pub shrinking_turn : {kept' : ℕ} → kept' < 2 ^ 64 → Members kept' (λ k. T (bit kept k) × GoesOn succ kept k) → Shrinking n succ kept kept'
  shrinking_turn small r = record { small = g.kept_small; kept_small = small; inside = λ s b. g.inside s (g.round.holds s b).0; keeps = kept_all; round = r }

  -- a round that changes something takes a state out
  pub shrinking_less : (kept ≡ set → ⊥) → many 64 (bit kept) < many 64 (bit set)
  shrinking_less z =
      ⊎_elim (λ l. l)
      (λ l. absurd (z (ext 64 kept set g.kept_small g.small (many_same 64 (bit kept) (bit set) (λ s b. (g.round.holds s b).0) l))))
      (lt_or_ge (many 64 (bit kept)) (many 64 (bit set)))

  -- one that changes nothing is the last: each state that is left has a successor among them, so one can go on from there for ever
  module _ (same : kept ≡ set) where
    on : (s : ℕ) → T (bit set s) → GoesOn succ set s
    on s b = (g.round.holds s (subst (λ (x : ℕ). T (bit x s)) (sym same) b)).1

    -- a state that is left, after k steps
    ways : (s : ℕ) → T (bit set s) → ℕ → (t : ℕ) × T (bit set t)
    ways s b zero = (s, b)
    ways s b (suc k) = let w = ways s b k in let t = on w.0 w.1 in (t.0, t.2)

    endless : (s : ℕ) → T (bit set s) → EndlessWay n (follows succ) s
    unfolding ways
    endless s b = record {
      way = λ k. (ways s b k).0;
      begins = refl;
      inside = λ k. g.inside (ways s b k).0 (ways s b k).1;
      goes = λ k. (on (ways s b k).0 (ways s b k).1).1;
    }

    pub shrinking_last : EndlessSet n (follows succ) set
    shrinking_last = record { small = g.small; members = record { holds = endless; has = g.keeps } }
