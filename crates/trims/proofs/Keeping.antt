-- The states that stay are those that labels lead to forwards from 0 and backwards from the finals, and 0. Assumes nothing.
use Prim.Native.Nat.{ℕ, ◌^◌, ◌<◌}
use mathlib.Core.Path.{◌≡◌, refl, sym, subst, ◌∙◌}
use mathlib.Core.Logic.{◌⊎◌, inl, inr}
use mathlib.Core.Bool.{Bool, true, false, not}
use mathlib.Core.List.{List}
use lib.Bits.{bit_and}
use lib.Dec.{T, eqb}
use Rattle.bits.specs.Word.{bit, insert}
use Rattle.bits.specs.Says.{Says}
use Rattle.bits.specs.Sets.{Members}
use Rattle.bits.proofs.Sayings.{says_map, says_some}
use Rattle.bits.proofs.Members.{members_first, members_and, add_out, add_old, add_new}
use Rattle.bits.proofs.Resting.{in_word}
use Rattle.automata.specs.Table.{cell}
use Rattle.trims.specs.Paths.{Reach, first, next, Ends, here, on}
use Rattle.trims.specs.Kept.{Kept, start, passes, KeptSet}
use Rattle.trims.specs.Stands.{Stands}
use Rattle.trims.specs.inner.Grown.{Beside, Grown, given, grown}
use Rattle.trims.proofs.Ways.{reach_inside}

-- what the code's test tells of a label
module _ (t : List ℕ) (back : Bool) (p q v : ℕ) where
  pub beside_back : back ≡ true → v ≡ cell t q p → Says (not (eqb v 0)) (Beside t back p q)
  beside_back b e = says_map (λ n. record { label = λ z. n (e ∙ rw b at z) }) (λ x z. x.label (rw b (sym e ∙ z))) (says_some v)

  pub beside_on : back ≡ false → v ≡ cell t p q → Says (not (eqb v 0)) (Beside t back p q)
  beside_on b e = says_map (λ n. record { label = λ z. n (e ∙ rw b at z) }) (λ x z. x.label (rw b (sym e ∙ z))) (says_some v)

module _ {t : List ℕ} {n f : ℕ} (s : Stands t n f) (h : f < 2 ^ 64) where
  ends_inside : {q : ℕ} → Ends t n f q → q < n
  ends_inside (here l b) = l
  ends_inside (on l e) = l.from

  -- forwards from {0}
  grown_reach : {q : ℕ} → Grown t n false 1 q → Reach t n q
  grown_reach {q} (given b) = first (sym (members_first.holds q b))
  grown_reach (grown d l b) = let r = grown_reach d in next r (record { from = reach_inside s r; to = l; label = b.label })

  reach_grown : {q : ℕ} → Reach t n q → Grown t n false 1 q
  reach_grown {q} (first e) = given (members_first.has q (sym e))
  reach_grown (next r l) = grown (reach_grown r) l.to (record { label = l.label })

  -- backwards from the finals
  grown_ends : {q : ℕ} → Grown t n true f q → Ends t n f q
  grown_ends {q} (given b) = here (s.finals q (in_word q h b) b) b
  grown_ends (grown d l b) = let e = grown_ends d in on (record { from = l; to = ends_inside e; label = b.label }) e

  ends_grown : {p : ℕ} → Ends t n f p → Grown t n true f p
  ends_grown (here l b) = given b
  ends_grown (on l e) = grown (ends_grown e) l.from (record { label = l.label })

  pub kept_both : (r e k : ℕ) → Members r (Grown t n false 1) → Members e (Grown t n true f) → k ≡ insert (bit_and r e) 0 → k < 2 ^ 64 → KeptSet t n f k
  kept_both r e k x y d small = record { small = small; states = subst (λ (z : ℕ). Members z (Kept t n f)) (sym d) (record { holds = out; has = λ q a. back q a }) }
    where
      both : Members (bit_and r e) (λ q. Grown t n false 1 q × Grown t n true f q)
      both = members_and x y

      split : (q : ℕ) → T (bit (bit_and r e) q) ⊎ (q ≡ 0) → Kept t n f q
      split q (inl b) = let c = both.holds q b in passes (grown_reach c.0) (grown_ends c.1)
      split q (inr i) = start i

      out : (q : ℕ) → T (bit (insert (bit_and r e) 0) q) → Kept t n f q
      out q b = split q (add_out (bit_and r e) 0 true q b)

      back : (q : ℕ) → Kept t n f q → T (bit (insert (bit_and r e) 0) q)
      back q (start i) = subst (λ (z : ℕ). T (bit (insert (bit_and r e) 0) z)) (sym i) (add_new (bit_and r e) 0 true refl)
      back q (passes a b) = add_old (bit_and r e) 0 true q (both.has q (reach_grown a, ends_grown b))
