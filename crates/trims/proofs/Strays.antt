-- What the tests of a lent table tell. Assumes nothing.
use Prim.Native.Nat.{ℕ, ◌-◌, ◌^◌, ◌<◌, ◌≤◌}
use mathlib.Core.Path.{◌≡◌, refl, sym, ap, subst, ◌∙◌}
use mathlib.Core.Logic.{◌≢◌, ◌⊎◌, inl, inr, ⊎_elim}
use mathlib.Core.Bool.{Bool, true, false, not, false≢true}
use mathlib.Core.List.{List}
use native.Mathlib.Omega.{arith}
use native.Mathlib.Nat.{zero-add}
use lib.Bits.{bit_and}
use lib.Dec.{T, eqb, ltb, leb}
use lib.ListN.{get_or}
use borrow.Author.Tests.{le-ltb, ltb-false}
use Rattle.bits.specs.Word.{bit, all}
use Rattle.bits.specs.Says.{Says}
use Rattle.bits.proofs.Laws.{lt_or_ge, bit_all, bit_not}
use Rattle.bits.proofs.Truths.{true_T}
use Rattle.bits.proofs.Sayings.{says_map, says_le, say_yes, say_no}
use Rattle.bits.proofs.Resting.{in_word, meet_says}
use Rattle.bits.proofs.Firsts.{all_lt}
use Rattle.automata.specs.Table.{table_states, cell}
use Rattle.trims.specs.Stands.{Stands, Faulty, final_outside, label_outside}
use Rattle.trims.specs.inner.Outside.{StrayLabel, StrayRows, StrayFinal, Judged}
use Rattle.std.specs.List.{IsAnyAnswer, range_with_len}
use Rattle.std.proofs.lemmas.List.FromFn.{length-range_with_len, get_or-range_with_len}
use Rattle.bits.specs.Sets.{Over}

-- ---- rows and columns

-- what `any` answers of the numbers below n, where its test says whether S holds
pub any_says : {b : Bool} {n : ℕ} {S : ℕ → Type 0} → IsAnyAnswer (λ k t. Says t (S k)) (range_with_len 0 n) b → Says b (Over (λ k. k < n) S)
any_says {b = true} {n} {S} (k, l, h) =
    let i : k < n = omega (arith, length-range_with_len 0 n) in
    let s : Says true (S (get_or (range_with_len 0 n) k 0)) = h 0 in
    say_yes (record { at = k; inside = i; holds = (subst (λ (j : ℕ). Says true (S j)) (get_or-range_with_len 0 n k 0 i ∙ zero-add k) s).yes_holds refl })
any_says {b = false} {n} {S} a = say_no (λ o. (subst (λ (j : ℕ). Says false (S j)) (get_or-range_with_len 0 n o.at 0 o.inside ∙ zero-add o.at) (no o.at o.inside)).no_fails refl o.holds)
  where
    no : (k : ℕ) → k < n → Says false (S (get_or (range_with_len 0 n) k 0))
    no k l = a k 0 (omega arith) (omega (arith, length-range_with_len 0 n))

-- a label that is one, and leaves a state inside
pub stray_column : {t : List ℕ} {n p q v : ℕ} → v ≡ cell t p q → v ≢ 0 → p < n → Says (leb n q) (StrayLabel t n p q)
stray_column {n = n} {q = q} e z l =
    says_map (λ h. record { label = λ d. z (e ∙ d); outside = inr h }) (λ x. ⊎_elim (λ h. absurd (omega arith)) (λ h. h) x.outside) (says_le n q)

-- ---- the finals

-- outside n states is what the word of the first n has not
module _ (n w : ℕ) (l : n ≤ table_states) (e : w ≡ all n) where
  outside_bit : (q : ℕ) → q < table_states → bit (2 ^ 64 - 1 - w) q ≡ not (ltb q n)
  outside_bit q i = ap (λ (x : ℕ). bit (2 ^ 64 - 1 - x) q) e ∙ bit_not 64 (all n) q (all_lt n 64 l) i ∙ ap not (bit_all n q)

  out : (q : ℕ) → q < table_states → T (bit (2 ^ 64 - 1 - w) q) → n ≤ q
  out q i h = go (ltb q n) refl (rw (outside_bit q i) at h)
    where
      go : (b : Bool) → ltb q n ≡ b → T (not b) → n ≤ q
      go true d k = absurd k
      go false d k = ltb-false q n d

  back : (q : ℕ) → q < table_states → n ≤ q → T (bit (2 ^ 64 - 1 - w) q)
  back q i h = true_T (outside_bit q i ∙ ap not (le-ltb q n h))

  pub stray_final : {f : ℕ} → f < 2 ^ 64 → Says (not (eqb (bit_and f (2 ^ 64 - 1 - w)) 0)) (StrayFinal n f)
  stray_final {f} h =
      says_map (λ x. let i = in_word x.0 h x.1 in record { at = x.0; inside = i; holds = (out x.0 i x.2, x.1) })
      (λ o. (o.at, o.holds.1, back o.at o.inside o.holds.0)) (meet_says (2 ^ 64 - 1 - w) h)

-- ---- the verdict

module _ (t : List ℕ) (n f : ℕ) where
  pub judged_bad : Faulty t n f → Judged t n f false
  judged_bad x = record { good = λ e. absurd (false≢true e); bad = λ e. x }

  pub final_fault : StrayFinal n f → Faulty t n f
  final_fault o = final_outside o.at o.inside o.holds.0 o.holds.1

  label_fault : StrayRows t n → Faulty t n f
  label_fault o = let i = o.holds in label_outside o.at i.at o.inside i.inside i.holds.outside i.holds.label

  all_stand : 1 ≤ n → n ≤ table_states → (StrayFinal n f → ⊥) → (StrayRows t n → ⊥) → Stands t n f
  all_stand some small nf nl = record {
    some = some;
    small = small;
    finals = λ q l b. ⊎_elim (λ h. h) (λ h. absurd (nf (record { at = q; inside = l; holds = (h, b) }))) (lt_or_ge q n);
    labels = λ p q lp lq z. (
      ⊎_elim (λ h. h) (λ h. absurd (nl (stray p q lp lq (inl h) z))) (lt_or_ge p n),
      ⊎_elim (λ h. h) (λ h. absurd (nl (stray p q lp lq (inr h) z))) (lt_or_ge q n),
    );
  }
    where
      stray : (p q : ℕ) → p < table_states → q < table_states → (n ≤ p) ⊎ (n ≤ q) → cell t p q ≢ 0 → StrayRows t n
      stray p q lp lq o z = record { at = p; inside = lp; holds = record { at = q; inside = lq; holds = record { label = z; outside = o } } }

  -- the last test decides
  pub judged : (b : Bool) → 1 ≤ n → n ≤ table_states → (StrayFinal n f → ⊥) → Says b (StrayRows t n) → Judged t n f (not b)
  judged true some small nf s = judged_bad (label_fault (s.yes_holds refl))
  judged false some small nf s = record { good = λ e. all_stand some small nf (s.no_fails refl); bad = λ e. absurd (false≢true (sym e)) }
