-- Following labels from a set, a state at a time. Assumes nothing.
use Prim.Native.Nat.{ℕ, ◌+◌, ◌-◌, ◌^◌, ◌<◌}
use native.Mathlib.Nat.{lt_of_le_of_lt}
use mathlib.Core.Path.{◌≡◌, refl, ap, ap₂, subst, ◌∙◌}
use mathlib.Core.Logic.{◌⊎◌, inl, inr, ⊎_elim}
use mathlib.Core.Bool.{Bool, true, false, not, ◌&&◌, ◌||◌, or-true}
use mathlib.Core.List.{List}
use lib.Bits.{bit_and, bit_or, or_lt, and_le_l}
use lib.Dec.{T, eqb}
use borrow.Author.Tests.{eq-eqb, ne_eqb}
use Rattle.bits.specs.Word.{bit, many, remove, Lowest}
use Rattle.bits.specs.Sets.{Members}
use Rattle.bits.proofs.Laws.{bit_of_or, bit_of_and, bit_not, bit_remove, many_flip}
use Rattle.bits.proofs.Truths.{or_T, and_T, true_T, T_true}
use Rattle.bits.proofs.Resting.{Rest, Done, in_word, rest_all, turn_rest, turn_was, done_split, done_all}
use Rattle.trims.specs.inner.Grown.{Beside, Grown, given, grown}

-- the set so far, and the rest of it that is still to be looked at: what is beside a state that was looked at is in the set
pub record Growing (t : List ℕ) (n : ℕ) (back : Bool) (start set rest : ℕ) : Type 0 where
  pub fits : set < 2 ^ 64
  pub left : Rest set rest
  pub begins : (q : ℕ) → T (bit start q) → T (bit set q)
  pub closed : (p q : ℕ) → Done set rest p → q < n → Beside t back p q → T (bit set q)
  pub sound : (q : ℕ) → T (bit set q) → Grown t n back start q

-- the states that have not been looked at
abbrev pub pending : ℕ → ℕ → ℕ → Bool
pending set rest q = not (bit set q) || bit rest q

pub growing_start : (t : List ℕ) (n : ℕ) (back : Bool) (start : ℕ) → start < 2 ^ 64 → Growing t n back start start start
growing_start t n back start h = record {
  fits = h;
  left = rest_all h;
  begins = λ q b. b;
  closed = λ p q d l b. absurd (d.gone d.was);
  sound = λ q b. given b;
}

-- a state other than the one looked at is pending as it was
still : (a b s : Bool) → (T b → T a) → not (a || s) || ((b && true) || (s && not a)) ≡ not a || b
still true true s h = refl
still true false true h = refl
still true false false h = refl
still false true s h = absurd (h tt)
still false false true h = refl
still false false false h = refl

module _ {t : List ℕ} {n : ℕ} {back : Bool} {start set rest : ℕ} (p side others rest' set' : ℕ) (g : Growing t n back start set rest) (l : Lowest 64 rest p)
    (m : Members side (λ q. (q < n) × Beside t back p q)) (h : side < 2 ^ 64) (o : others ≡ remove 64 rest p) (r : rest' ≡ bit_or others (bit_and side (2 ^ 64 - 1 - set)))
    (s : set' ≡ bit_or set side) where
  set_bit : (q : ℕ) → bit set' q ≡ bit set q || bit side q
  set_bit q = ap (λ (x : ℕ). bit x q) s ∙ bit_of_or set side q

  rest_bit : (q : ℕ) → bit rest' q ≡ bit others q || (bit side q && bit (2 ^ 64 - 1 - set) q)
  rest_bit q = ap (λ (x : ℕ). bit x q) r ∙ bit_of_or others (bit_and side (2 ^ 64 - 1 - set)) q ∙ ap (λ (b : Bool). bit others q || b) (bit_of_and side (2 ^ 64 - 1 - set) q)

  set_up : (q : ℕ) → T (bit set q) → T (bit set' q)
  set_up q k = rw (set_bit q) ((or_T (bit set q) (bit side q)).1 (inl k))

  set_new : (q : ℕ) → T (bit side q) → T (bit set' q)
  set_new q k = rw (set_bit q) ((or_T (bit set q) (bit side q)).1 (inr k))

  set_split : (q : ℕ) → T (bit set' q) → T (bit set q) ⊎ T (bit side q)
  set_split q k = (or_T (bit set q) (bit side q)).0 (rw (set_bit q) at k)

  rest_old : (q : ℕ) → T (bit others q) → T (bit rest' q)
  rest_old q k = rw (rest_bit q) ((or_T (bit others q) (bit side q && bit (2 ^ 64 - 1 - set) q)).1 (inl k))

  rest_new : (q : ℕ) → T (bit side q) → bit set q ≡ false → T (bit rest' q)
  rest_new q k e =
      rw (rest_bit q)
      ((or_T (bit others q) (bit side q && bit (2 ^ 64 - 1 - set) q)).1
      (inr ((and_T (bit side q) (bit (2 ^ 64 - 1 - set) q)).1 (k, true_T (bit_not 64 set q g.fits (in_word q h k) ∙ ap not e)))))

  rest_in : (q : ℕ) → T (bit rest' q) → T (bit set' q)
  rest_in q k =
      ⊎_elim (λ i. set_up q ((turn_rest g.left l o).sub q i)) (λ i. set_new q ((and_T (bit side q) (bit (2 ^ 64 - 1 - set) q)).0 i).0)
      ((or_T (bit others q) (bit side q && bit (2 ^ 64 - 1 - set) q)).0 (rw (rest_bit q) at k))

  -- what is beside the state looked at is in the set now, and what is beside the others was
  beside_here : (q : ℕ) → q < n → Beside t back p q → T (bit set' q)
  beside_here q i b = set_new q (m.has q (i, b))

  closed' : (a q : ℕ) → Done set' rest' a → q < n → Beside t back a q → T (bit set' q)
  closed' a q d i b = go (bit set a) refl
    where
      was : Done set rest a ⊎ (a ≡ p) → T (bit set' q)
      was (inl k) = set_up q (g.closed a q k i b)
      was (inr e) = beside_here q i (subst (λ (x : ℕ). Beside t back x q) e b)

      go : (x : Bool) → bit set a ≡ x → T (bit set' q)
      go true e = was (done_split g.left l o a (record { was = true_T e; gone = λ k. d.gone (rest_old a k) }))
      go false e = absurd (d.gone (rest_new a (⊎_elim (λ k. absurd (rw e at k)) (λ k. k) (set_split a d.was)) e))

  sound' : (q : ℕ) → T (bit set' q) → Grown t n back start q
  sound' q k = ⊎_elim (g.sound q) (λ i. let b = m.holds q i in grown (g.sound p (turn_was g.left l o)) b.0 b.1) (set_split q k)

  pub growing_turn : Growing t n back start set' rest'
  growing_turn = record {
    fits = rw s (or_lt 64 set side g.fits h);
    left = record { fits = rw r (or_lt 64 others (bit_and side (2 ^ 64 - 1 - set)) (turn_rest g.left l o).fits (lt_of_le_of_lt (and_le_l side (2 ^ 64 - 1 - set)) h)); sub = rest_in };
    begins = λ q b. set_up q (g.begins q b);
    closed = closed';
    sound = sound';
  }

  -- the state looked at is pending no more, and the others are as they were
  here_set : bit set p ≡ true
  here_set = T_true (bit set p) (turn_was g.left l o)

  rest_at : (q : ℕ) → q < 64 → bit rest' q ≡ (bit rest q && not (eqb q p)) || (bit side q && not (bit set q))
  rest_at q i =
      rest_bit q
      ∙ ap₂ (λ (a b : Bool). a || (bit side q && b)) (ap (λ (x : ℕ). bit x q) o ∙ bit_remove 64 rest p q l.inside i) (bit_not 64 set q g.fits i)

  done : pending set' rest' p ≡ false
  done =
      ap₂ (λ (a b : Bool). not a || b) (T_true (bit set' p) (set_up p (true_T here_set)))
      (rest_at p l.inside ∙ rw (eq-eqb p p refl, here_set) (none (bit rest p) (bit side p)))
    where
      none : (a b : Bool) → (a && false) || (b && false) ≡ false
      none true true = refl
      none true false = refl
      none false true = refl
      none false false = refl

  other : (q : ℕ) → q < 64 → (q ≡ p → ⊥) → pending set' rest' q ≡ pending set rest q
  other q i d =
      ap₂ (λ (a b : Bool). not a || b) (set_bit q) (rest_at q i ∙ ap (λ (b : Bool). (bit rest q && not b) || (bit side q && not (bit set q))) (ne_eqb q p d))
      ∙ still (bit set q) (bit rest q) (bit side q) (g.left.sub q)

  pub growing_less : many 64 (pending set rest) ≡ many 64 (pending set' rest') + 1
  growing_less =
      many_flip 64 (pending set' rest') (pending set rest) p l.inside done (ap (λ (b : Bool). not (bit set p) || b) l.least.here ∙ or-true (not (bit set p))) other

-- nothing is left to look at
module _ {t : List ℕ} {n : ℕ} {back : Bool} {start set rest : ℕ} (g : Growing t n back start set rest) (e : rest ≡ 0) where
  complete : {q : ℕ} → Grown t n back start q → T (bit set q)
  complete {q} (given b) = g.begins q b
  complete {q} (grown {p} d l b) = g.closed p q (done_all e p (complete d)) l b

  pub growing_all : Members set (Grown t n back start)
  growing_all = record { holds = g.sound; has = λ q d. complete d }
