-- The automaton of a rule accepts what Definition 2 says, for every rule and every sequence; its shape. Assumes nothing.
use Prim.Native.Nat.{ℕ, ◌+◌, ◌*◌}
use native.Mathlib.Nat.{mul-add, add-mul, mul_comm}
use native.Mathlib.Omega.{arith}
use mathlib.Core.Path.{◌≡◌, refl, ap, ap₂, ◌∙◌}
use mathlib.Core.Logic.{◌⊎◌, ⊎_map, ◌↔◌}
use mathlib.Core.Bool.{Bool}
use mathlib.Core.List.{List, [], ◌∷◌, cons≢nil}
use Rattle.definitions.specs.declared.kinds.Pair.TheVariants.{Then, Overlap, Either, Within, Both}
use Rattle.definitions.specs.declared.kinds.Repeat.TheVariants.{Star, Plus}
use Rattle.definitions.specs.Definition1.{Rule, letter, empty, two, again, counted, occurs, yea}
use Rattle.definitions.specs.Definition2.{holds, Sat, OneLetter, Begins, Repeats, none, more}
use Rattle.rules.specs.Weight.{weight_of, row_weight}
use Rattle.definitions.proofs.Maps.{map_parts, map_overlaps, map_repeats, map_begins, map_counted}
use Rattle.automata.specs.Auto.{Auto, Takes}
use Rattle.automata.specs.Build.{auto, empty_a, letter_a, the_label, then_a, both_a, any_a, within_a}
use Rattle.automata.proofs.language.Lang.{Acc, takes_acc, Good, good_empty, good_letter}
use Rattle.automata.proofs.language.Thens.{good_then, then_lang}
use Rattle.automata.proofs.language.Overlaps.{good_overlap, overlap_lang}
use Rattle.automata.proofs.language.Eithers.{good_either, either_lang}
use Rattle.automata.proofs.language.Boths.{good_both, both_lang}
use Rattle.automata.proofs.language.Repetitions.{good_plus, plus_lang, good_star, star_lang}
use Rattle.automata.proofs.language.Rows.{good_row, row_size, row_lang}
use Rattle.automata.proofs.language.Occurrences.{good_occurs, occurs_lang}

empty_lang : (w : List ℕ) → Acc empty_a 0 w ↔ (w ≡ [])
empty_lang [] = (λ a. refl, λ e. refl)
empty_lang (x ∷ w) = (λ a. absurd a.1, λ e. absurd (cons≢nil e))

letter_out : (f : ℕ → Bool) (w : List ℕ) → Acc (letter_a f) 0 w → OneLetter f w
letter_out f [] a = absurd (omega arith)
letter_out f (x ∷ []) (q, the_label e e' t, a) = record { x = x; whole = refl; fits = t }
letter_out f (x ∷ y ∷ w) (q, the_label e e' t, (r, the_label d d' u, a)) = absurd (omega arith)

letter_lang : (f : ℕ → Bool) (w : List ℕ) → Acc (letter_a f) 0 w ↔ OneLetter f w
letter_lang f w = (letter_out f w, λ h. rw h.whole (1, the_label refl refl h.fits, refl))

-- true[*] accepts everything
any_star : (w : List ℕ) → Repeats (Acc (letter_a (holds yea)) 0) w
unfolding holds
any_star [] = none
any_star (x ∷ w) = more (x ∷ []) w refl cons≢nil (1, the_label refl refl tt, refl) (any_star w)

pub good_any : Good any_a
good_any = good_star (letter_a (holds yea)) (good_letter (holds yea))

-- {b;true[*]} accepts what has a beginning that b accepts
begins_lang : (B : Auto) (gB : Good B) (w : List ℕ) → Acc (then_a B any_a) 0 w ↔ Begins (Acc B 0) w
begins_lang B gB w = (
  λ a. let h = (then_lang B any_a gB good_any w).0 a in record { w1 = h.w1; w2 = h.w2; whole = h.whole; first = h.first },
  λ h. (then_lang B any_a gB good_any w).1 (record {
    w1 = h.w1;
    w2 = h.w2;
    whole = h.whole;
    first = h.first;
    second = (star_lang (letter_a (holds yea)) (good_letter (holds yea)) h.w2).1 (any_star h.w2);
  }),
)

-- `&`
module _ (A B : Auto) (gA : Good A) (gB : Good B) where
  good_left : Good (both_a A (then_a B any_a))
  good_left = good_both A (then_a B any_a) gA (good_then B any_a gB good_any)

  good_right : Good (both_a (then_a A any_a) B)
  good_right = good_both (then_a A any_a) B (good_then A any_a gA good_any) gB

  good_within : Good (within_a A B)
  good_within = good_either (both_a A (then_a B any_a)) (both_a (then_a A any_a) B) good_left good_right

  abbrev OneWithin : List ℕ → Type 0
  OneWithin w = (Acc A 0 w × Begins (Acc B 0) w) ⊎ (Acc B 0 w × Begins (Acc A 0) w)

  halves : (w : List ℕ) → (Acc (both_a A (then_a B any_a)) 0 w ⊎ Acc (both_a (then_a A any_a) B) 0 w) ↔ OneWithin w
  halves w =
      let l = both_lang A (then_a B any_a) gA (good_then B any_a gB good_any) w in
      let r = both_lang (then_a A any_a) B (good_then A any_a gA good_any) gB w in (
        ⊎_map (λ a. ((l.0 a).0, (begins_lang B gB w).0 (l.0 a).1)) (λ a. ((r.0 a).1, (begins_lang A gA w).0 (r.0 a).0)),
        ⊎_map (λ h. l.1 (h.0, (begins_lang B gB w).1 h.1)) (λ h. r.1 ((begins_lang A gA w).1 h.1, h.0)),
      )

  within_lang : (w : List ℕ) → Acc (within_a A B) 0 w ↔ OneWithin w
  within_lang w =
      let e = either_lang (both_a A (then_a B any_a)) (both_a (then_a A any_a) B) good_left good_right w in
      (λ a. (halves w).0 (e.0 a), λ h. e.1 ((halves w).1 h))

-- steps and finals stay inside the size, no step enters 0
pub good : (r : Rule) → Good (auto r)
unfolding auto
good empty = good_empty
good (letter f) = good_letter (holds f)
good (two Then a b) = good_then (auto a) (auto b) (good a) (good b)
good (two Overlap a b) = good_overlap (auto a) (auto b) (good a) (good b)
good (two Either a b) = good_either (auto a) (auto b) (good a) (good b)
good (two Within a b) = good_within (auto a) (auto b) (good a) (good b)
good (two Both a b) = good_both (auto a) (auto b) (good a) (good b)
good (again Star a) = good_star (auto a) (good a)
good (again Plus a) = good_plus (auto a) (good a)
good (counted i j a) = good_row (auto a) (good a) i j
good (occurs i j f) = good_occurs i j (holds f)

-- what a state of an operand accepts, what Definition 2 accepts
abbrev Lang : Rule → List ℕ → Type 0
Lang r w = Acc (auto r) 0 w

pub sound : (r : Rule) (w : List ℕ) → Acc (auto r) 0 w → Sat r w
unfolding auto Sat
sound empty w a = (empty_lang w).0 a
sound (letter f) w a = letter_out (holds f) w a
sound (two Then a b) w h = map_parts (Lang a) (Sat a) (Lang b) (Sat b) (sound a) (sound b) w ((then_lang (auto a) (auto b) (good a) (good b) w).0 h)
sound (two Overlap a b) w h = map_overlaps (Lang a) (Sat a) (Lang b) (Sat b) (sound a) (sound b) w ((overlap_lang (auto a) (auto b) (good a) (good b) w).0 h)
sound (two Either a b) w h = ⊎_map (sound a w) (sound b w) ((either_lang (auto a) (auto b) (good a) (good b) w).0 h)
sound (two Within a b) w h =
    ⊎_map
    (λ t. (sound a w t.0, map_begins (Lang b) (Sat b) (sound b) w t.1))
    (λ t. (sound b w t.0, map_begins (Lang a) (Sat a) (sound a) w t.1))
    ((within_lang (auto a) (auto b) (good a) (good b) w).0 h)
sound (two Both a b) w h = let t = (both_lang (auto a) (auto b) (good a) (good b) w).0 h in (sound a w t.0, sound b w t.1)
sound (again Star a) w h = map_repeats (Lang a) (Sat a) (sound a) w ((star_lang (auto a) (good a) w).0 h)
sound (again Plus a) w h =
    map_parts (Lang a) (Sat a) (Repeats (Lang a)) (Repeats (Sat a)) (sound a) (map_repeats (Lang a) (Sat a) (sound a)) w ((plus_lang (auto a) (good a) w).0 h)
sound (counted i j a) w h = map_counted (Lang a) (Sat a) (sound a) i j w ((row_lang (auto a) (good a) i j w).0 h)
sound (occurs i j f) w h = (occurs_lang i j (holds f) w).0 h

pub complete : (r : Rule) (w : List ℕ) → Sat r w → Acc (auto r) 0 w
unfolding auto Sat
complete empty w a = (empty_lang w).1 a
complete (letter f) w a = (letter_lang (holds f) w).1 a
complete (two Then a b) w h = (then_lang (auto a) (auto b) (good a) (good b) w).1 (map_parts (Sat a) (Lang a) (Sat b) (Lang b) (complete a) (complete b) w h)
complete (two Overlap a b) w h = (overlap_lang (auto a) (auto b) (good a) (good b) w).1 (map_overlaps (Sat a) (Lang a) (Sat b) (Lang b) (complete a) (complete b) w h)
complete (two Either a b) w h = (either_lang (auto a) (auto b) (good a) (good b) w).1 (⊎_map (complete a w) (complete b w) h)
complete (two Within a b) w h =
    (within_lang (auto a) (auto b) (good a) (good b) w).1
    (⊎_map
    (λ t. (complete a w t.0, map_begins (Sat b) (Lang b) (complete b) w t.1))
    (λ t. (complete b w t.0, map_begins (Sat a) (Lang a) (complete a) w t.1)) h)
complete (two Both a b) w h = (both_lang (auto a) (auto b) (good a) (good b) w).1 (complete a w h.0, complete b w h.1)
complete (again Star a) w h = (star_lang (auto a) (good a) w).1 (map_repeats (Sat a) (Lang a) (complete a) w h)
complete (again Plus a) w h =
    (plus_lang (auto a) (good a) w).1 (map_parts (Sat a) (Lang a) (Repeats (Sat a)) (Repeats (Lang a)) (complete a) (map_repeats (Sat a) (Lang a) (complete a)) w h)
complete (counted i j a) w h = (row_lang (auto a) (good a) i j w).1 (map_counted (Sat a) (Lang a) (complete a) i j w h)
complete (occurs i j f) w h = (occurs_lang i j (holds f) w).1 h

-- the automaton of a rule accepts exactly what Definition 2 says
pub accepts_sat : (r : Rule) (w : List ℕ) → Takes (auto r) w ↔ Sat r w
accepts_sat r w = (λ a. sound r w ((takes_acc (auto r) w).0 a), λ h. (takes_acc (auto r) w).1 (complete r w h))

-- the weight of `&` is that of what it is built as
pub within_weight : (m n : ℕ) → 1 + m * (n + 2) + (m + 2) * n ≡ 2 * (m * n) + 2 * m + 2 * n + 1
within_weight m n = omega (arith, mul-add m n 2, add-mul m 2 n, mul_comm m 2)

-- the automaton has as many states as the rule weighs
pub size_weight : (r : Rule) → (auto r).size ≡ weight_of r
unfolding auto
size_weight empty = refl
size_weight (letter f) = refl
size_weight (two Then a b) = ap₂ (λ (m n : ℕ). m + n) (size_weight a) (size_weight b)
size_weight (two Overlap a b) = ap₂ (λ (m n : ℕ). m + n) (size_weight a) (size_weight b)
size_weight (two Either a b) = ap₂ (λ (m n : ℕ). 1 + m + n) (size_weight a) (size_weight b)
size_weight (two Within a b) = ap₂ (λ (m n : ℕ). 1 + m * (n + 2) + (m + 2) * n) (size_weight a) (size_weight b) ∙ within_weight (weight_of a) (weight_of b)
size_weight (two Both a b) = ap₂ (λ (m n : ℕ). m * n) (size_weight a) (size_weight b)
size_weight (again Star a) = size_weight a
size_weight (again Plus a) = size_weight a
size_weight (counted i j a) = row_size (auto a) (good a) i j ∙ ap (row_weight j) (size_weight a)
size_weight (occurs i j f) = refl
