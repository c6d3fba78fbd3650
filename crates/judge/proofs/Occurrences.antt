-- Counting the letters that are accepted alone, and what the count says of a sequence. Assumes nothing.
use Prim.Native.Nat.{ℕ, zero, suc, ◌+◌, ◌-◌, ◌≤◌, ◌<◌}
use native.Mathlib.Omega.{arith}
use mathlib.Core.Path.{◌≡◌, refl, ap, ap₂, sym, ◌∙◌}
use mathlib.Core.Bool.{Bool, true, false, cond}
use mathlib.Core.List.{List, [], ◌∷◌, ◌++◌}
use lib.Dec.{leb}
use lib.ListN.{length, get_or}
use borrow.Author.Tests.{lt-leb}
use lib.Seq.{slice_empty}
use Rattle.std.specs.List.{count_by, range_with_len}
use Rattle.std.proofs.lemmas.List.Sums.{sum_by-cons}
use Rattle.bits.specs.Says.{Says}
use Rattle.bits.specs.Word.{num, many}
use Rattle.bits.proofs.Laws.{many_ext}
use Rattle.bits.proofs.Sayings.{say_yes, say_no, said_no, says_once, says_map, says_le}
use Rattle.definitions.specs.declared.counts.Counts.{Counts}
use Rattle.definitions.specs.Definition1.{Formula, occurs}
use Rattle.definitions.specs.Definition2.{holds, satisfying, Sat}
use Rattle.judge.specs.Parts.{Few, part, yes, Judged, Filled}
use Rattle.judge.specs.inner.Cut.{LetterAt, letters_at_of, OccursAt}
use Rattle.judge.proofs.Meaning.{part_split, part_one, by_cell}

-- ---- the count

-- the first of n, and the others
many_front : (n : ℕ) (f : ℕ → Bool) → many (suc n) f ≡ num (f 0) + many n (λ k. f (suc k))
unfolding many
many_front zero f = refl
many_front (suc n) f = let h = many_front n f in omega arith

num_cond : (b : Bool) → num b ≡ cond b 1 0
num_cond true = refl
num_cond false = refl

pub counted : (f : ℕ → Bool) (a n : ℕ) → count_by f (range_with_len a n) ≡ many n (λ k. f (a + k))
unfolding many
counted f a zero = refl
counted f a (suc n) =
    let on : many n (λ k. f (a + 1 + k)) ≡ many n (λ k. f (a + suc k)) = many_ext n _ _ (λ k l. let e : a + 1 + k ≡ a + suc k = omega arith in ap f e) in
    let z : num (f (a + 0)) ≡ cond (f a) 1 0 = (let e : a + 0 ≡ a = omega arith in ap (λ (j : ℕ). num (f j)) e) ∙ num_cond (f a) in
    sum_by-cons (λ k. cond (f k) 1 0) a (range_with_len (a + 1) n) ∙ ap₂ (λ (x y : ℕ). x + y) (sym z) (counted f (a + 1) n ∙ on) ∙ sym (many_front n (λ k. f (a + k)))

-- ---- enough and not too many

module _ (c : Counts) (a : List ℕ) (i e n : ℕ) (is : n ≡ letters_at_of a i e) where
  pub occurs_said : c.low ≤ n → Says (leb n c.high) (OccursAt c a i e)
  occurs_said l =
      says_map (λ u. record { low = omega arith; high = omega arith }) (λ o. let h = o.high in omega arith) (says_le n c.high)

  pub occurs_few : n < c.low → Says (leb c.low n) (OccursAt c a i e)
  occurs_few l = said_no (lt-leb c.low n l) (λ o. let h = o.low in omega arith)

-- ---- the letters of a part

satisfying_more : (f : ℕ → Bool) (u v : List ℕ) → satisfying f (u ++ v) ≡ satisfying f u + satisfying f v
satisfying_more f [] v = omega arith
satisfying_more f (x ∷ u) v = let h = satisfying_more f u v in omega arith

module _ (w : List ℕ) (f : Formula) where
  -- from i on, n letters
  part_satisfying : (i n : ℕ) → i + n ≤ length w → satisfying (holds f) (part i (i + n) w) ≡ many n (λ k. holds f (get_or w (i + k) 0))
  unfolding many
  part_satisfying i zero l = let z : i + 0 ≡ i = omega arith in ap (λ (j : ℕ). satisfying (holds f) (part i j w)) z ∙ ap (satisfying (holds f)) (slice_empty i w)
  part_satisfying i (suc n) l =
      let z : i + suc n ≡ i + n + 1 = omega arith in
      let s = part_split w i (i + n + 1) (omega arith) (omega arith) (i + n) (omega arith) (omega arith) in
      let ih = part_satisfying i n (omega arith) in
      let one : satisfying (holds f) (part (i + n) (i + n + 1) w) ≡ num (holds f (get_or w (i + n) 0)) =
      ap (satisfying (holds f)) (part_one w (i + n) (omega arith)) ∙ (let q = num_cond (holds f (get_or w (i + n) 0)) in omega arith) in
      ap (λ (j : ℕ). satisfying (holds f) (part i j w)) z
      ∙ ap (satisfying (holds f)) s
      ∙ satisfying_more (holds f) (part i (i + n) w) (part (i + n) (i + n + 1) w)
      ∙ (let h = one in omega arith)

  module _ (a : List ℕ) (few : Few w) (h : Filled (LetterAt f w) a) where
    -- a letter is accepted alone exactly if the formula holds of it
    letter_said : (k : ℕ) → k < length w → yes a k (k + 1) ≡ holds f (get_or w k 0)
    letter_said k l = says_once (h.says k (k + 1) (omega (arith, few.few)) (omega (arith, few.few))) (alone k l (holds f (get_or w k 0)) refl)
      where
        alone : (k : ℕ) → k < length w → (b : Bool) → holds f (get_or w k 0) ≡ b → Says b (LetterAt f w k (k + 1))
        alone k l true e = say_yes (record { one = refl; inside = l; fits = e })
        alone k l false e = say_no (λ t. let z = t.fits in let y : ◌≡◌ {A = ℕ} 0 1 = cc in omega arith)

    counts_letters : (i e : ℕ) → i ≤ e → e ≤ length w → letters_at_of a i e ≡ satisfying (holds f) (part i e w)
    counts_letters i e ie ew =
        let z : i + (e - i) ≡ e = omega arith in
        many_ext (e - i) (λ k. yes a (i + k) (i + k + 1)) (λ k. holds f (get_or w (i + k) 0)) (λ k l. letter_said (i + k) (omega arith))
        ∙ sym (part_satisfying i (e - i) (omega arith))
        ∙ ap (λ (j : ℕ). satisfying (holds f) (part i j w)) z

    pub judged_occurs : (c : Counts) {r : List ℕ} → Filled (OccursAt c a) r → Judged (Sat (occurs c.low c.high f)) w r
    unfolding Sat
    judged_occurs c g =
        by_cell w few
        (λ i e ie ew t. let q = counts_letters i e ie ew in let l = t.low in let u = t.high in record { low = omega arith; high = omega arith })
        (λ i e ie ew s. let q = counts_letters i e ie ew in let l = s.low in let u = s.high in record { low = omega arith; high = omega arith })
        g
