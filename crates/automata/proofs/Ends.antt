-- How each operator's set of finals comes from its operands'. Assumes nothing.
use Prim.Native.Nat.{ℕ, ◌+◌, ◌*◌, ◌-◌, ◌/◌, ◌%◌, ◌<◌, ◌≤◌}
use native.Mathlib.Omega.{arith}
use native.Mathlib.Nat.{mod-lt, div-add-mod', div-lt_iff_lt-mul}
use mathlib.Core.Path.{◌≡◌, refl, sym, ap, ◌∙◌}
use mathlib.Core.Logic.{◌⊎◌, inl, inr, ⊎_map, ◌↔◌}
use mathlib.Core.Bool.{true, false, ◌&&◌}
use lib.Bits.{bit_or}
use lib.Dec.{T, eqb, eqb→eq, eqb_refl}
use Rattle.bits.specs.Word.{bit, insert}
use Rattle.bits.proofs.Laws.{lt_or_ge, bit_insert}
use Rattle.definitions.specs.declared.kinds.Pair.TheVariants.{Then, Overlap, Either, Within, Both}
use Rattle.definitions.specs.declared.kinds.Repeat.TheVariants.{Star, Plus}
use Rattle.definitions.specs.Definition1.{Rule, Formula, letter, empty, two, again}
use Rattle.rules.specs.Weight.{weight_of}
use Rattle.automata.specs.Build.{auto, UpF, ThenFinal, EitherFinal, BothFinal}
use Rattle.automata.specs.inner.Block.{FinalsAt, within_rule}
use Rattle.bits.proofs.Truths.{and_T, or_T, true_T, false_no}
use Rattle.automata.proofs.Labels.{Has, has_none, has_or}
use Rattle.automata.proofs.language.Boths.{pair_fst, pair_snd, pair_lt}
use Rattle.automata.proofs.language.Language.{size_weight}
use Rattle.automata.proofs.Places.{final_at}
use Rattle.rules.proofs.Weighing.{weight_pos}
use Rattle.automata.proofs.Serving.{final_inside}
use Rattle.automata.specs.Table.{table_states}

-- a set with k added
pub has_insert : (w k q : ℕ) → Has (insert w k) q ↔ (Has w q ⊎ (q ≡ k))
has_insert w k q = let e = or_T (bit w q) (eqb q k) in rw (bit_insert w k q) (λ t. ⊎_map (λ h. h) (eqb→eq q k) (e.0 t), λ h. e.1 (⊎_map (λ h. h) here h))
  where
    here : q ≡ k → T (eqb q k)
    here d = rw d (eqb_refl k)

-- the set of k alone
has_only : (k q : ℕ) → Has (insert 0 k) q ↔ (q ≡ k)
has_only k q = (λ t. out ((has_insert 0 k q).0 t), λ e. (has_insert 0 k q).1 (inr e))
  where
    out : Has 0 q ⊎ (q ≡ k) → q ≡ k
    out (inl h) = absurd (has_none q h)
    out (inr e) = e

pub empty_finals : (base : ℕ) → FinalsAt (insert 0 base) base empty
unfolding auto
empty_finals base = record { ends = λ q l. (λ t. UpF.up 0 (omega (arith, (has_only base q).0 t)) refl, λ u. (has_only base q).1 (out q u)) }
  where
    out : (q : ℕ) → UpF base (λ j. j ≡ 0) q → q ≡ base
    out q (UpF.up j e d) = omega arith

pub letter_finals : (base : ℕ) (f : Formula) → FinalsAt (insert 0 (base + 1)) base (letter f)
unfolding auto
letter_finals base f = record { ends = λ q l. (λ t. UpF.up 1 ((has_only (base + 1) q).0 t) refl, λ u. (has_only (base + 1) q).1 (out q u)) }
  where
    out : (q : ℕ) → UpF base (λ j. j ≡ 1) q → q ≡ base + 1
    out q (UpF.up j e d) = omega arith

-- `;`: b's finals, and a's too where b's first state is final
module _ (base mid fa fb : ℕ) (a b : Rule) (e : mid ≡ base + weight_of a) (room : mid < table_states) (ha : FinalsAt fa base a) (hb : FinalsAt fb mid b) where
  b_first : T (bit fb mid) ↔ (auto b).final 0
  b_first = final_at fb mid b hb mid 0 (omega arith) room

  from_a : (q : ℕ) → (auto b).final 0 → UpF base (auto a).final q → UpF base (auto (two Then a b)).final q
  unfolding auto
  from_a q z (UpF.up j d f) = UpF.up j d (ThenFinal.a's f z)

  from_b : (q : ℕ) → UpF mid (auto b).final q → UpF base (auto (two Then a b)).final q
  unfolding auto
  from_b q (UpF.up j d f) = UpF.up (weight_of a + j) (omega arith) (ThenFinal.b's (UpF.up j (omega (arith, size_weight a)) f))

  then_parts : (q : ℕ) → UpF base (auto (two Then a b)).final q → ((auto b).final 0 × UpF base (auto a).final q) ⊎ UpF mid (auto b).final q
  unfolding auto
  then_parts q (UpF.up j d (ThenFinal.a's f z)) = inl (z, UpF.up j d f)
  then_parts q (UpF.up j d (ThenFinal.b's (UpF.up i c f))) = inr (UpF.up i (omega (arith, size_weight a)) f)

  pub then_finals_on : bit fb mid ≡ true → FinalsAt (bit_or fa fb) base (two Then a b)
  then_finals_on on = record { ends = λ q l. (λ t. out q l ((has_or fa fb q).0 t), λ u. (has_or fa fb q).1 (back q l (then_parts q u))) }
    where
      out : (q : ℕ) → q < table_states → Has fa q ⊎ Has fb q → UpF base (auto (two Then a b)).final q
      out q l (inl t) = from_a q (b_first.0 (true_T on)) ((ha.ends q l).0 t)
      out q l (inr t) = from_b q ((hb.ends q l).0 t)

      back : (q : ℕ) → q < table_states → ((auto b).final 0 × UpF base (auto a).final q) ⊎ UpF mid (auto b).final q → Has fa q ⊎ Has fb q
      back q l (inl u) = inl ((ha.ends q l).1 u.1)
      back q l (inr u) = inr ((hb.ends q l).1 u)

  pub then_finals_off : bit fb mid ≡ false → FinalsAt fb base (two Then a b)
  then_finals_off off = record { ends = λ q l. (λ t. from_b q ((hb.ends q l).0 t), λ u. back q l (then_parts q u)) }
    where
      back : (q : ℕ) → q < table_states → ((auto b).final 0 × UpF base (auto a).final q) ⊎ UpF mid (auto b).final q → Has fb q
      back q l (inl u) = absurd (false_no off (b_first.1 u.0))
      back q l (inr u) = (hb.ends q l).1 u

-- `:`: b's finals
pub overlap_finals : (base mid f : ℕ) (a b : Rule) → mid ≡ base + weight_of a → FinalsAt f mid b → FinalsAt f base (two Overlap a b)
unfolding auto
overlap_finals base mid f a b e h = record { ends = λ q l. (λ t. out q ((h.ends q l).0 t), λ u. (h.ends q l).1 (back q u)) }
  where
    out : (q : ℕ) → UpF mid (auto b).final q → UpF base (UpF (auto a).size (auto b).final) q
    out q (UpF.up j d f) = UpF.up (weight_of a + j) (omega arith) (UpF.up j (omega (arith, size_weight a)) f)

    back : (q : ℕ) → UpF base (UpF (auto a).size (auto b).final) q → UpF mid (auto b).final q
    back q (UpF.up j d (UpF.up i c f)) = UpF.up i (omega (arith, size_weight a)) f

-- `|`: both operands' finals, and the new state where a first state is final
module _ (base mid fa fb : ℕ) (a b : Rule) (e : mid ≡ base + 1 + weight_of a) (room : mid < table_states) (ha : FinalsAt fa (base + 1) a) (hb : FinalsAt fb mid b) where
  a_0 : T (bit fa (base + 1)) ↔ (auto a).final 0
  a_0 = final_at fa (base + 1) a ha (base + 1) 0 (omega arith) (omega arith)

  b_0 : T (bit fb mid) ↔ (auto b).final 0
  b_0 = final_at fb mid b hb mid 0 (omega arith) room

  of_a : (q : ℕ) → UpF (base + 1) (auto a).final q → UpF base (auto (two Either a b)).final q
  unfolding auto
  of_a q (UpF.up j d f) = UpF.up (1 + j) (omega arith) (EitherFinal.a's (UpF.up j refl f))

  of_b : (q : ℕ) → UpF mid (auto b).final q → UpF base (auto (two Either a b)).final q
  unfolding auto
  of_b q (UpF.up j d f) = UpF.up (1 + weight_of a + j) (omega arith) (EitherFinal.b's (UpF.up j (omega (arith, size_weight a)) f))

  of_new : (q : ℕ) → q ≡ base → (auto a).final 0 ⊎ (auto b).final 0 → UpF base (auto (two Either a b)).final q
  unfolding auto
  of_new q d f = UpF.up 0 (omega arith) (EitherFinal.new refl f)

  either_parts : (q : ℕ) → UpF base (auto (two Either a b)).final q
      → UpF (base + 1) (auto a).final q ⊎ UpF mid (auto b).final q ⊎ ((q ≡ base) × ((auto a).final 0 ⊎ (auto b).final 0))
  unfolding auto
  either_parts q (UpF.up j d (EitherFinal.a's (UpF.up i c f))) = inl (UpF.up i (omega arith) f)
  either_parts q (UpF.up j d (EitherFinal.b's (UpF.up i c f))) = inr (inl (UpF.up i (omega (arith, size_weight a)) f))
  either_parts q (UpF.up j d (EitherFinal.new c f)) = inr (inr (omega arith, f))

  both_sets : (q : ℕ) → q < table_states → Has (bit_or fa fb) q → UpF base (auto (two Either a b)).final q
  both_sets q l t = go ((has_or fa fb q).0 t)
    where
      go : Has fa q ⊎ Has fb q → UpF base (auto (two Either a b)).final q
      go (inl h) = of_a q ((ha.ends q l).0 h)
      go (inr h) = of_b q ((hb.ends q l).0 h)

  pub either_finals_on : (bit fa (base + 1) ≡ true) ⊎ (bit fb mid ≡ true) → FinalsAt (insert (bit_or fa fb) base) base (two Either a b)
  either_finals_on on = record { ends = λ q l. (λ t. out q l ((has_insert (bit_or fa fb) base q).0 t), λ u. (has_insert (bit_or fa fb) base q).1 (back q l (either_parts q u))) }
    where
      out : (q : ℕ) → q < table_states → Has (bit_or fa fb) q ⊎ (q ≡ base) → UpF base (auto (two Either a b)).final q
      out q l (inl t) = both_sets q l t
      out q l (inr d) = of_new q d (⊎_map (λ h. a_0.0 (true_T h)) (λ h. b_0.0 (true_T h)) on)

      back : (q : ℕ) → q < table_states → UpF (base + 1) (auto a).final q ⊎ UpF mid (auto b).final q ⊎ ((q ≡ base) × ((auto a).final 0 ⊎ (auto b).final 0)) → Has (bit_or fa fb) q ⊎ (q ≡ base)
      back q l (inl u) = inl ((has_or fa fb q).1 (inl ((ha.ends q l).1 u)))
      back q l (inr (inl u)) = inl ((has_or fa fb q).1 (inr ((hb.ends q l).1 u)))
      back q l (inr (inr u)) = inr u.0

  pub either_finals_off : bit fa (base + 1) ≡ false → bit fb mid ≡ false → FinalsAt (bit_or fa fb) base (two Either a b)
  either_finals_off na nb = record { ends = λ q l. (both_sets q l, λ u. back q l (either_parts q u)) }
    where
      none : (auto a).final 0 ⊎ (auto b).final 0 → ⊥
      none (inl f) = false_no na (a_0.1 f)
      none (inr f) = false_no nb (b_0.1 f)

      back : (q : ℕ) → q < table_states → UpF (base + 1) (auto a).final q ⊎ UpF mid (auto b).final q ⊎ ((q ≡ base) × ((auto a).final 0 ⊎ (auto b).final 0)) → Has (bit_or fa fb) q
      back q l (inl u) = (has_or fa fb q).1 (inl ((ha.ends q l).1 u))
      back q l (inr (inl u)) = (has_or fa fb q).1 (inr ((hb.ends q l).1 u))
      back q l (inr (inr u)) = absurd (none u.1)

-- `&&`: the pairs of finals; the operands' sets may stand at any base
module _ (base c d m n f fa fb : ℕ) (a b : Rule) (em : m ≡ weight_of a) (en : n ≡ weight_of b) (ca : c + weight_of a ≤ table_states) (db : d + weight_of b ≤ table_states)
    (ha : FinalsAt fa c a) (hb : FinalsAt fb d b)
    (inside : (q : ℕ) → base ≤ q → q < base + m * n → bit f q ≡ bit fa (c + (q - base) / n) && bit fb (d + (q - base) % n))
    (outside : (q : ℕ) → q < table_states → (q < base) ⊎ (base + m * n ≤ q) → bit f q ≡ false) where
  pairs : (q : ℕ) → base ≤ q → q < base + m * n → Has f q ↔ ((auto a).final ((q - base) / n) × (auto b).final ((q - base) % n))
  pairs q h l =
      let n0 : 0 < n = omega (arith, weight_pos b) in
      let k : q - base < m * n = omega arith in
      let i : (q - base) / n < m = (div-lt_iff_lt-mul n0).1 k in
      let j = mod-lt (q - base) n0 in
      let x = final_at fa c a ha (c + (q - base) / n) ((q - base) / n) refl (omega arith) in
      let y = final_at fb d b hb (d + (q - base) % n) ((q - base) % n) refl (omega arith) in
      let z = and_T (bit fa (c + (q - base) / n)) (bit fb (d + (q - base) % n)) in
      rw (inside q h l) (λ t. (x.0 (z.0 t).0, y.0 (z.0 t).1), λ t. z.1 (x.1 t.0, y.1 t.1))

  pair_out : (q : ℕ) → base ≤ q → (auto a).final ((q - base) / n) → (auto b).final ((q - base) % n) → UpF base (auto (two Both a b)).final q
  unfolding auto
  pair_out q h u v =
      let e : q - base ≡ (q - base) / n * (auto b).size + (q - base) % n = sym (div-add-mod' (q - base) n) ∙ ap (λ (k : ℕ). (q - base) / n * k + (q - base) % n) (en ∙ sym (size_weight b)) in
      UpF.up (q - base) (omega arith) (BothFinal.pair ((q - base) / n) ((q - base) % n) e u v)

  record Final (q : ℕ) : Type 0 where
    low : base ≤ q
    high : q < base + m * n
    first : (auto a).final ((q - base) / n)
    second : (auto b).final ((q - base) % n)

  pair_in : (q : ℕ) → UpF base (auto (two Both a b)).final q → Final q
  unfolding auto
  pair_in q (UpF.up k e (BothFinal.pair i j g u v)) =
      let w : (auto b).size ≡ n = size_weight b ∙ sym en in
      let g' : k ≡ i * n + j = g ∙ ap (λ (z : ℕ). i * z + j) w in
      let li = final_inside a i u in let lj = final_inside b j v in
      let lj' : j < n = omega arith in
      let li' : i < m = omega arith in
      let z : q - base ≡ i * n + j = omega arith in
      let fst : (q - base) / n ≡ i = ap (λ (y : ℕ). y / n) z ∙ pair_fst n i j lj' in
      let snd : (q - base) % n ≡ j = ap (λ (y : ℕ). y % n) z ∙ pair_snd n i j lj' in
      record { low = omega arith; high = omega (arith, pair_lt m n i j li' lj'); first = rw fst u; second = rw snd v }

  pub both_finals : FinalsAt f base (two Both a b)
  both_finals = record { ends = λ q l. (λ t. out q l (lt_or_ge q base) (lt_or_ge q (base + m * n)) t, λ u. let z = pair_in q u in (pairs q z.low z.high).1 (z.first, z.second)) }
    where
      out : (q : ℕ) → q < table_states → (q < base) ⊎ (base ≤ q) → (q < base + m * n) ⊎ (base + m * n ≤ q) → Has f q → UpF base (auto (two Both a b)).final q
      out q l (inl h) k t = absurd (false_no (outside q l (inl h)) t)
      out q l (inr h) (inr k) t = absurd (false_no (outside q l (inr k)) t)
      out q l (inr h) (inl k) t = let z = (pairs q h k).0 t in pair_out q h z.0 z.1

-- `[+]` and `[*]`
pub plus_finals : (base f : ℕ) (a : Rule) → FinalsAt f base a → FinalsAt f base (again Plus a)
unfolding auto
plus_finals base f a h = record { ends = h.ends }

pub star_finals : (base f : ℕ) (a : Rule) → FinalsAt f base a → FinalsAt (insert f base) base (again Star a)
unfolding auto
star_finals base f a h = record { ends = λ q l. (λ t. out q l ((has_insert f base q).0 t), λ u. (has_insert f base q).1 (back q l u)) }
  where
    old : (q : ℕ) → UpF base (auto a).final q → UpF base (λ j. (auto a).final j ⊎ (j ≡ 0)) q
    old q (UpF.up j e z) = UpF.up j e (inl z)

    out : (q : ℕ) → q < table_states → Has f q ⊎ (q ≡ base) → UpF base (λ j. (auto a).final j ⊎ (j ≡ 0)) q
    out q l (inl t) = old q ((h.ends q l).0 t)
    out q l (inr e) = UpF.up 0 (omega arith) (inr refl)

    back : (q : ℕ) → q < table_states → UpF base (λ j. (auto a).final j ⊎ (j ≡ 0)) q → Has f q ⊎ (q ≡ base)
    back q l (UpF.up j e (inl z)) = inl ((h.ends q l).1 (UpF.up j e z))
    back q l (UpF.up j e (inr z)) = inr (omega arith)

-- `&` has the finals of what it is built as
pub within_finals : (base f : ℕ) (a b : Rule) → FinalsAt f base (within_rule a b) → FinalsAt f base (two Within a b)
unfolding auto
within_finals base f a b h = record { ends = h.ends }
