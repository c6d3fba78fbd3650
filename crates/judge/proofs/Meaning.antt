-- From the answers for the parts of a sequence to what a rule accepts. Assumes nothing.
use mathlib.Core.Path.{◌≡◌, refl, ap, sym, subst, subst⁻¹, ◌∙◌}
use mathlib.Core.List.{List, [], ◌∷◌, ◌++◌, append_assoc}
use mathlib.Core.Logic.{◌⊎◌, ⊎_elim, inl, inr, ◌≢◌}
use Prim.Native.Nat.{ℕ, zero, suc, ◌+◌, ◌-◌, ◌≤◌, ◌<◌}
use native.Mathlib.Omega.{arith}
use lib.Dec.{T}
use lib.ListN.{length, get_or, take, drop, length-append, take-append-drop}
use lib.Seq.{take-take, drop-drop, drop-append-le, take_at, take-append_seam, drop-append_seam, length-take-le, length-slice, slice_empty, slice-cons, take-length}
use Rattle.bits.specs.Says.{Says}
use Rattle.definitions.specs.declared.kinds.Pair.{Pair}
use Rattle.definitions.specs.declared.kinds.Pair.TheVariants.{Then, Overlap, Either, Within, Both}
use Rattle.definitions.specs.declared.kinds.Repeat.TheVariants.{Star, Plus}
use Rattle.definitions.specs.Definition1.{Formula, Rule, letter, empty, two, again, counted}
use Rattle.definitions.specs.Definition2.{holds, OneLetter, Parts, Overlaps, Begins, Repeats, none, more, CountedParts, Sat}
use Rattle.judge.specs.Parts.{Few, part, yes, Judged, Filled}
use Rattle.judge.specs.inner.Cut.{LetterAt, ThenAt, OverlapAt, BeginsAt, WithinAt, PairAt, StepAt, StarAt, PlusOf}
use Rattle.judge.specs.inner.Judging.{InRow}
use Rattle.definitions.specs.declared.counts.Counts.{Counts}
use Rattle.definitions.proofs.PartsInARow.{OnePartMore, none_counted, part_counted, counted_parts, none_at_all}
use Rattle.bits.proofs.Truths.{T_true}
use Rattle.bits.proofs.Sayings.{says_map, says_in}

module _ (w : List ℕ) (i e : ℕ) (ie : i ≤ e) (ew : e ≤ length w) where
  -- a part is what stands before a cut and what stands after it
  pub part_split : (m : ℕ) → i ≤ m → m ≤ e → part i e w ≡ part i m w ++ part m e w
  part_split m lo hi =
      let x : List ℕ = take e w in
      let lx : length x ≡ e = length-take-le e w ew in
      let lm : length (take m x) ≡ m = length-take-le m x (omega arith) in
      ap (drop i) (sym (take-append-drop m x))
      ∙ drop-append-le i (take m x) (drop m x) (omega arith)
      ∙ ap (λ (l : List ℕ). drop i l ++ drop m x) (take-take m e w hi)

  part_nil : part i e w ≡ [] → i ≡ e
  part_nil p = omega (arith, ap length p, length-slice i e w ew)

  nil_part : i ≡ e → part i e w ≡ []
  nil_part q = subst (λ (j : ℕ). part j e w ≡ []) (sym q) (slice_empty e w)

  -- a part that is two lists joined is cut behind the first
  module _ (u v : List ℕ) (p : part i e w ≡ u ++ v) where
    cut_end : i + length u ≤ e
    cut_end = omega (arith, ap length p, length-append u v, length-slice i e w ew)

    cut_right : v ≡ part (i + length u) e w
    cut_right = sym (drop-append_seam u v) ∙ ap (drop (length u)) (sym p) ∙ drop-drop (length u) i (take e w)

    cut_left : u ≡ part i (i + length u) w
    cut_left =
        let m : ℕ = i + length u in
        let mw : m ≤ length w = omega (arith, cut_end) in
        let lo : i ≤ m = omega arith in
        let lp : length (part i m w) ≡ length u = omega (arith, length-slice i m w mw) in
        sym (take-append_seam u v) ∙ ap (take (length u)) (sym p ∙ part_split m lo cut_end) ∙ take_at (part i m w) (part m e w) (length u) lp

-- the part of one letter
pub part_one : (w : List ℕ) (m : ℕ) → m < length w → part m (m + 1) w ≡ get_or w m 0 ∷ []
part_one w m l =
    let stop : suc m ≡ m + 1 = omega arith in
    slice-cons m (m + 1) w 0 (omega arith) (omega arith) ∙ ap (λ (l : List ℕ). get_or w m 0 ∷ l) (subst (λ (j : ℕ). part j (m + 1) w ≡ []) (sym stop) (slice_empty (m + 1) w))

-- the answers for the cuts, of two operands that are judged
module _ (P Q : List ℕ → Type 0) (w a b : List ℕ) (ha : Judged P w a) (hb : Judged Q w b) (i e : ℕ) (ie : i ≤ e) (ew : e ≤ length w) where
  then_parts : ThenAt a b i e → Parts P Q (part i e w)
  then_parts t =
      let m : ℕ = t.cut in
      let mw : m ≤ length w = omega (arith, t.to) in
      record {
        w1 = part i m w;
        w2 = part m e w;
        whole = part_split w i e ie ew m t.from t.to;
        first = (ha.says i m t.from mw).yes_holds t.first;
        second = (hb.says m e t.to ew).yes_holds t.second;
      }

  parts_then : Parts P Q (part i e w) → ThenAt a b i e
  parts_then s =
      let m : ℕ = i + length s.w1 in
      let lo : i ≤ m = omega arith in
      let hi : m ≤ e = cut_end w i e ie ew s.w1 s.w2 s.whole in
      let mw : m ≤ length w = omega arith in
      record {
        cut = m;
        from = lo;
        to = hi;
        first = says_in (ha.says i m lo mw) (subst P (cut_left w i e ie ew s.w1 s.w2 s.whole) s.first);
        second = says_in (hb.says m e hi ew) (subst Q (cut_right w i e ie ew s.w1 s.w2 s.whole) s.second);
      }

  overlap_parts : OverlapAt a b i e → Overlaps P Q (part i e w)
  overlap_parts t =
      let m : ℕ = t.shared in
      let lt : m < e = t.to in
      let hi : m ≤ e = omega arith in
      let lo : i ≤ m = t.from in
      let lo' : i ≤ m + 1 = omega arith in
      let mw : m + 1 ≤ length w = omega arith in
      let on : part m e w ≡ get_or w m 0 ∷ part (suc m) e w = slice-cons m e w 0 lt ew in
      record {
        w1 = part i m w;
        x = get_or w m 0;
        w2 = part (suc m) e w;
        whole = part_split w i e ie ew m lo hi ∙ ap (λ (l : List ℕ). part i m w ++ l) on;
        first = subst P (part_split w i (m + 1) lo' mw m lo (omega arith) ∙ ap (λ (l : List ℕ). part i m w ++ l) (part_one w m (omega arith))) ((ha.says i (m + 1) lo' mw).yes_holds t.first);
        second = subst Q on ((hb.says m e hi ew).yes_holds t.second);
      }

  parts_overlap : Overlaps P Q (part i e w) → OverlapAt a b i e
  parts_overlap s =
      let u : List ℕ = s.w1 ++ (s.x ∷ []) in
      let m : ℕ = i + length s.w1 in
      let lo : i ≤ m = omega arith in
      let long : length u ≡ length s.w1 + 1 = length-append s.w1 (s.x ∷ []) in
      let p : part i e w ≡ u ++ s.w2 = s.whole ∙ sym (append_assoc s.w1 (s.x ∷ []) s.w2) in
      let end : i + length u ≡ m + 1 = omega arith in
      let hi' : i + length u ≤ e = cut_end w i e ie ew u s.w2 p in
      let hi : m < e = omega arith in
      let mw : m + 1 ≤ length w = omega arith in
      record {
        shared = m;
        from = lo;
        to = hi;
        first = says_in (ha.says i (m + 1) (omega arith) mw) (subst P (cut_left w i e ie ew u s.w2 p ∙ ap (λ (j : ℕ). part i j w) end) s.first);
        second = says_in (hb.says m e (omega arith) ew) (subst Q (cut_right w i e ie ew s.w1 (s.x ∷ s.w2) s.whole) s.second);
      }

  -- b accepts some beginning
  begins_parts : BeginsAt b i e → Begins Q (part i e w)
  begins_parts t =
      let m : ℕ = t.cut in
      let mw : m ≤ length w = omega (arith, t.to) in
      record { w1 = part i m w; w2 = part m e w; whole = part_split w i e ie ew m t.from t.to; first = (hb.says i m t.from mw).yes_holds t.first }

  parts_begins : Begins Q (part i e w) → BeginsAt b i e
  parts_begins s =
      let m : ℕ = i + length s.w1 in
      let lo : i ≤ m = omega arith in
      let hi : m ≤ e = cut_end w i e ie ew s.w1 s.w2 s.whole in
      let mw : m ≤ length w = omega arith in
      record { cut = m; from = lo; to = hi; first = says_in (hb.says i m lo mw) (subst Q (cut_left w i e ie ew s.w1 s.w2 s.whole) s.first) }

  within_parts : WithinAt a b i e → P (part i e w) × Begins Q (part i e w)
  within_parts t = ((ha.says i e ie ew).yes_holds t.all, begins_parts t.begins)

  parts_within : P (part i e w) × Begins Q (part i e w) → WithinAt a b i e
  parts_within (x, y) = record { all = says_in (ha.says i e ie ew) x; begins = parts_begins y }

some : (u : List ℕ) → u ≢ [] → 1 ≤ length u
some [] ne = absurd (ne refl)
some (x ∷ u) ne = omega arith

-- a repetition: nothing, or a first part that is not empty and a rest
star_view : {P : List ℕ → Type 0} {v : List ℕ} → Repeats P v → (v ≡ []) ⊎ ((x : List ℕ) × (y : List ℕ) × (v ≡ x ++ y) × (x ≢ []) × P x × Repeats P y)
star_view none = inl refl
star_view (more x y p ne a b) = inr (x, y, p, ne, a, b)

module _ (w : List ℕ) (short : Few w) where
  -- what is found for any two places is found for the parts of w
  pub by_cell : {F : ℕ → ℕ → Type 0} {R : List ℕ → Type 0} {r : List ℕ}
      → ((i e : ℕ) → i ≤ e → e ≤ length w → F i e → R (part i e w)) → ((i e : ℕ) → i ≤ e → e ≤ length w → R (part i e w) → F i e) → Filled F r → Judged R w r
  by_cell f g h = record { says = λ i e ie ew. says_map (f i e ie ew) (g i e ie ew) (h.says i e (omega arith) (omega arith)) }

  pub judged_empty : {r : List ℕ} → Filled ◌≡◌ r → Judged (Sat empty) w r
  unfolding Sat
  judged_empty h = by_cell (nil_part w) (part_nil w) h

  letter_part : (f : Formula) (i e : ℕ) → i ≤ e → e ≤ length w → LetterAt f w i e → OneLetter (holds f) (part i e w)
  letter_part f i e ie ew t =
      record { x = get_or w i 0; whole = ap (λ (j : ℕ). part i j w) t.one ∙ part_one w i t.inside; fits = subst⁻¹ T t.fits tt }

  part_letter : (f : Formula) (i e : ℕ) → i ≤ e → e ≤ length w → OneLetter (holds f) (part i e w) → LetterAt f w i e
  part_letter f i e ie ew s =
      let next : e ≡ i + 1 = omega (arith, ap length s.whole, length-slice i e w ew) in
      let lt : i < e = omega arith in
      let head : get_or w i 0 ≡ s.x = ap (λ (l : List ℕ). get_or l 0 0) (sym (slice-cons i e w 0 lt ew) ∙ s.whole) in
      record { one = next; inside = omega arith; fits = ap (holds f) head ∙ T_true (holds f s.x) s.fits }

  pub judged_letter : (f : Formula) {r : List ℕ} → Filled (LetterAt f w) r → Judged (Sat (letter f)) w r
  unfolding Sat
  judged_letter f h = by_cell (letter_part f) (part_letter f) h

  -- an operator of two, from its operands' answers
  pub judged_two : (p : Pair) (x y : Rule) {a b r : List ℕ} → Judged (Sat x) w a → Judged (Sat y) w b → Filled (PairAt p a b) r → Judged (Sat (two p x y)) w r
  unfolding Sat
  judged_two Then x y {a} {b} ha hb h = by_cell (then_parts (Sat x) (Sat y) w a b ha hb) (parts_then (Sat x) (Sat y) w a b ha hb) h
  judged_two Overlap x y {a} {b} ha hb h = by_cell (overlap_parts (Sat x) (Sat y) w a b ha hb) (parts_overlap (Sat x) (Sat y) w a b ha hb) h
  judged_two Either x y ha hb h =
      by_cell
      (λ i e ie ew t. ⊎_elim (λ q. inl ((ha.says i e ie ew).yes_holds q)) (λ q. inr ((hb.says i e ie ew).yes_holds q)) t)
      (λ i e ie ew s. ⊎_elim (λ q. inl (says_in (ha.says i e ie ew) q)) (λ q. inr (says_in (hb.says i e ie ew) q)) s)
      h
  judged_two Within x y {a} {b} ha hb h =
      by_cell
      (λ i e ie ew t. ⊎_elim (λ q. inl (within_parts (Sat x) (Sat y) w a b ha hb i e ie ew q)) (λ q. inr (within_parts (Sat y) (Sat x) w b a hb ha i e ie ew q)) t)
      (λ i e ie ew s. ⊎_elim (λ q. inl (parts_within (Sat x) (Sat y) w a b ha hb i e ie ew q)) (λ q. inr (parts_within (Sat y) (Sat x) w b a hb ha i e ie ew q)) s)
      h
  judged_two Both x y ha hb h =
      by_cell
      (λ i e ie ew (s, t). ((ha.says i e ie ew).yes_holds s, (hb.says i e ie ew).yes_holds t))
      (λ i e ie ew (s, t). (says_in (ha.says i e ie ew) s, says_in (hb.says i e ie ew) t))
      h

  -- a repetition, the shorter parts first: its answers for the rest are its own
  module _ {P : List ℕ → Type 0} {a r : List ℕ} (ha : Judged P w a) (h : Filled (StarAt a r) r) (e : ℕ) (ew : e ≤ length w) where
    star_step : (i : ℕ) → i ≤ e → ((m : ℕ) → i < m → m ≤ e → Says (yes r m e) (Repeats P (part m e w))) → Says (yes r i e) (Repeats P (part i e w))
    star_step i ie rest =
        says_map
        (λ t. ⊎_elim
        (λ (q : i ≡ e). subst⁻¹ (Repeats P) (nil_part w i e ie ew q) none)
        (λ (t : StepAt a r i e).
        let m : ℕ = t.cut in
        let lt : i < m = t.from in
        let hi : m ≤ e = t.to in
        let lo : i ≤ m = omega arith in
        let mw : m ≤ length w = omega arith in
        more (part i m w) (part m e w) (part_split w i e ie ew m lo hi)
        (λ q. omega (arith, part_nil w i m lo mw q))
        ((ha.says i m lo mw).yes_holds t.first)
        ((rest m lt hi).yes_holds t.second))
        t)
        (λ s. ⊎_elim
        (λ q. inl (part_nil w i e ie ew q))
        (λ (u, v, p, ne, x, y).
        let m : ℕ = i + length u in
        let pos : 1 ≤ length u = some u ne in
        let lo : i ≤ m = omega arith in
        let lt : i < m = omega arith in
        let hi : m ≤ e = cut_end w i e ie ew u v p in
        let mw : m ≤ length w = omega arith in
        inr (record {
          cut = m;
          from = lt;
          to = hi;
          first = says_in (ha.says i m lo mw) (subst P (cut_left w i e ie ew u v p) x);
          second = says_in (rest m lt hi) (subst (Repeats P) (cut_right w i e ie ew u v p) y);
        }))
        (star_view s))
        (h.says i e (omega arith) (omega arith))

    star_says : (n i : ℕ) → i ≤ e → e ≤ i + n → Says (yes r i e) (Repeats P (part i e w))
    star_says zero i ie bound = star_step i ie (λ m lo hi. absurd (omega arith))
    star_says (suc n) i ie bound = star_step i ie (λ m lo hi. star_says n m hi (omega arith))

  judged_repeats : {P : List ℕ → Type 0} {a r : List ℕ} → Judged P w a → Filled (StarAt a r) r → Judged (Repeats P) w r
  judged_repeats ha h = record { says = λ i e ie ew. star_says ha h e ew e i ie (omega arith) }

  pub judged_star : (x : Rule) {a r : List ℕ} → Judged (Sat x) w a → Filled (StarAt a r) r → Judged (Sat (again Star x)) w r
  unfolding Sat
  judged_star x ha h = judged_repeats ha h

  pub judged_plus : (x : Rule) {a r : List ℕ} → Judged (Sat x) w a → PlusOf a r → Judged (Sat (again Plus x)) w r
  unfolding Sat
  judged_plus x {a} ha h =
      let hb : Judged (Repeats (Sat x)) w h.rest = judged_repeats ha h.stars in
      by_cell (then_parts (Sat x) (Repeats (Sat x)) w a h.rest ha hb) (parts_then (Sat x) (Repeats (Sat x)) w a h.rest ha hb) h.cuts

-- ---- counted parts in a row, one part at a time

judged_as : {P Q : List ℕ → Type 0} {w a : List ℕ} → ((v : List ℕ) → P v → Q v) → ((v : List ℕ) → Q v → P v) → Judged P w a → Judged Q w a
judged_as {w = w} f g h = record { says = λ i e ie ew. says_map (f (part i e w)) (g (part i e w)) (h.says i e ie ew) }

-- no part is allowed, so that it does not matter what a part is
pub judged_none : (w : List ℕ) → Few w → (x : Rule) (c : Counts) {r : List ℕ} → c.low ≡ 0 → c.high ≡ 0 → Filled ◌≡◌ r → Judged (Sat (counted c.low c.high x)) w r
unfolding Sat
judged_none w few x c l z h =
    judged_as
    (λ v e. none_counted (Sat x) c.low c.high v e l)
    (λ v k. (none_at_all (Sat x) c.low 0 v (subst (λ (j : ℕ). CountedParts c.low j (Sat x) v) z k)).0)
    (judged_empty w few h)

pub row_none : (c : Counts) {a r : List ℕ} → c.low ≡ 0 → c.high ≡ 0 → Filled ◌≡◌ r → InRow a c r
row_none c l z h = record { rowed = λ x w few ha. judged_none w few x c l z h }

-- one part, and those that are left after it
module _ (c d : Counts) {a rest some : List ℕ} (l : 1 ≤ c.high) (el : d.low ≡ c.low - 1) (eh : d.high ≡ c.high - 1) (hr : InRow a d rest) (hs : Filled (PairAt Then a rest) some) where
  one_more : (x : Rule) (w : List ℕ) → Few w → Judged (Sat x) w a → Judged (OnePartMore (Sat x) c.low (c.high - 1)) w some
  unfolding Sat
  one_more x w few ha = rw (← el, ← eh) (judged_two w few Then x (counted d.low d.high x) ha (hr.rowed x w few ha) hs)

  high_is : c.high ≡ suc (c.high - 1)
  high_is = omega arith

  pub row_some : (c.low ≡ 0 → ⊥) → InRow a c some
  unfolding Sat
  row_some n = record {
    rowed = λ x w few ha.
        rw high_is (judged_as
        (λ v. part_counted (Sat x) c.low (c.high - 1) v)
        (λ v k. only (counted_parts (Sat x) c.low (c.high - 1) v k))
        (one_more x w few ha));
  }
    where
      only : {A B : Type 0} → (A × (c.low ≡ 0)) ⊎ B → B
      only (inl h) = absurd (n h.1)
      only (inr h) = h

  pub row_any : (z : c.low ≡ 0) {none r : List ℕ} → Filled ◌≡◌ none → Filled (PairAt Either some none) r → InRow a c r
  unfolding Sat
  row_any z {none} {r} hn h = record {
    rowed = λ x w few ha.
        rw high_is (judged_as
        (λ v. out x v)
        (λ v k. back x v (counted_parts (Sat x) c.low (c.high - 1) v k))
        (by_cell w few
        {F = PairAt Either some none} {R = λ v. OnePartMore (Sat x) c.low (c.high - 1) v ⊎ (v ≡ [])}
        (λ i e ie ew t. ⊎_elim (λ q. inl (((one_more x w few ha).says i e ie ew).yes_holds q)) (λ q. inr (((judged_empty w few hn).says i e ie ew).yes_holds q)) t)
        (λ i e ie ew s. ⊎_elim (λ q. inl (says_in ((one_more x w few ha).says i e ie ew) q)) (λ q. inr (says_in ((judged_empty w few hn).says i e ie ew) q)) s)
        h));
  }
    where
      out : (x : Rule) (v : List ℕ) → OnePartMore (Sat x) c.low (c.high - 1) v ⊎ (v ≡ []) → CountedParts c.low (suc (c.high - 1)) (Sat x) v
      out x v (inl p) = part_counted (Sat x) c.low (c.high - 1) v p
      out x v (inr e) = none_counted (Sat x) c.low (suc (c.high - 1)) v e z

      back : (x : Rule) (v : List ℕ) → ((v ≡ []) × (c.low ≡ 0)) ⊎ OnePartMore (Sat x) c.low (c.high - 1) v → OnePartMore (Sat x) c.low (c.high - 1) v ⊎ (v ≡ [])
      back x v (inl e) = inr e.0
      back x v (inr p) = inl p

-- the whole sequence is the part from 0 to its length
pub judged_whole : {P : List ℕ → Type 0} {w a : List ℕ} → Judged P w a → Says (yes a 0 (length w)) (P w)
judged_whole {P} {w} {a} h = subst (λ (l : List ℕ). Says (yes a 0 (length w)) (P l)) (take-length w) (h.says 0 (length w) (omega arith) (omega arith))
