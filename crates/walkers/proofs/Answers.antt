-- What the paths of `step` and `follow` tell. Assumes nothing.
use Prim.Native.Nat.{ℕ, ◌+◌, ◌^◌, ◌<◌, ◌≤◌}
use native.Mathlib.Numerals.{add-one}
use native.Mathlib.Omega.{arith}
use mathlib.Core.Path.{◌≡◌, refl, sym, ap, ◌∙◌}
use mathlib.Core.Logic.{◌⊎◌, inl, inr}
use mathlib.Core.Bool.{Bool, true, false, not, cond, ◌||◌, false≢true}
use mathlib.Core.List.{List}
use lib.Bits.{bit_and}
use lib.Dec.{eqb}
use Rattle.std.specs.Prelude.{Result, Ok}
use lib.ListN.{length, get_or, drop}
use lib.Seq.{drop-cons, drop-length}
use borrow.Author.Tests.{lt-ltb, le-ltb}
use Rattle.definitions.specs.Definition2.{letter_count}
use Rattle.definitions.specs.Numbers.{short_slice_number, bad_letter_number, full_count_number}
use Rattle.walkers.specs.declared.Walker.{Walker}
use Rattle.walkers.specs.declared.Refusal.{Refusal}
use Rattle.automata.specs.Table.{table_entries}
use Rattle.steps.specs.Moves.{advanced, meets}
use Rattle.steps.proofs.Gathering.{advanced_lt, meets_test}
use Rattle.walkers.specs.Steps.{largest_count, walker_at, flag, refusal, told, given, led_to_of, refused_as, step_of}
use Rattle.walkers.specs.Walks.{follow_from, follow_set, follow_of, ending}

-- ---- the walker after one more letter

-- of m, whether it matches now, and b, whether it matched before
first_new : (m b : Bool) (new old : ℕ) → m ≡ true → b ≡ false → new ≡ cond b old (cond m new old)
first_new m b new old e d = rw (e, d) refl

first_old : (m b : Bool) (new old : ℕ) → m ≡ false ⊎ b ≡ true → old ≡ cond b old (cond m new old)
first_old m true new old e = refl
first_old false false new old e = refl
first_old true false new old (inl e) = absurd (false≢true (sym e))
first_old true false new old (inr e) = absurd (false≢true e)

module _ (w : Walker) (set : ℕ) (small : set < 2 ^ 64) (first : ℕ) where
  abbrev matches : Bool
  matches = not (eqb (bit_and set w.finals) 0)

  led : first ≡ cond w.matched w.first (cond matches (w.taken + 1) w.first) → walker_at set w.finals (w.taken + 1) first (w.matched || matches) ≡ led_to_of w set
  led e = rw (e, meets_test set w.finals small)

  pub led_first : matches ≡ true → w.matched ≡ false → first ≡ w.taken + 1 → walker_at set w.finals (w.taken + 1) first (w.matched || matches) ≡ led_to_of w set
  led_first h d e = led (e ∙ first_new matches w.matched (w.taken + 1) w.first h d)

  pub led_on : matches ≡ false ⊎ w.matched ≡ true → first ≡ w.first → walker_at set w.finals (w.taken + 1) first (w.matched || matches) ≡ led_to_of w set
  led_on h e = led (e ∙ first_old matches w.matched (w.taken + 1) w.first h)

-- ---- one step

module _ (t : List ℕ) (w : Walker) (x : ℕ) where
  pub step_short : length t < table_entries → step_of t w x ≡ refused_as w short_slice_number 0
  unfolding step_of
  step_short h = rw (lt-ltb (length t) table_entries h)

  pub step_bad : table_entries ≤ length t → letter_count ≤ x → step_of t w x ≡ refused_as w bad_letter_number 0
  unfolding step_of
  step_bad h l = rw (le-ltb (length t) table_entries h, le-ltb x letter_count l)

  pub step_full : table_entries ≤ length t → x < letter_count → largest_count ≤ w.taken → step_of t w x ≡ refused_as w full_count_number 0
  unfolding step_of
  step_full h l k = rw (le-ltb (length t) table_entries h, lt-ltb x letter_count l, le-ltb w.taken largest_count k)

  pub step_moved : (set : ℕ) (v : Walker) → table_entries ≤ length t → x < letter_count → w.taken < largest_count → set ≡ advanced t w.set x → v ≡ led_to_of w set
      → told (given v (Ok (not (eqb (bit_and set w.finals) 0)))) ≡ step_of t w x
  unfolding step_of
  step_moved set v h l k e i = rw (i, e, le-ltb (length t) table_entries h, lt-ltb x letter_count l, lt-ltb w.taken largest_count k, meets_test (advanced t w.set x) w.finals (advanced_lt t w.set x))

-- ---- a whole sequence

-- what is left to follow, from place i on and at this set, tells what the whole does, begun at the set `from`
pub record Following (t : List ℕ) (f : ℕ) (l : List ℕ) (from set i : ℕ) : Type 0 where
  pub inside : i ≤ length l
  pub small : set < 2 ^ 64
  pub same : follow_from t f set i (drop i l) ≡ follow_from t f from 0 l

module _ (t : List ℕ) (f : ℕ) (l : List ℕ) where
  -- an answer from {0} is one of the whole
  pub follow_begun : (r : Result Bool Refusal) → ending r ≡ follow_set t f 1 l → ending r ≡ follow_of t f l
  unfolding follow_set follow_of
  follow_begun r e = e

  module _ (from : ℕ) where
    pub follow_short : length t < table_entries → refusal short_slice_number 0 ≡ follow_set t f from l
    unfolding follow_set
    follow_short h = rw (lt-ltb (length t) table_entries h)

    follow_long : table_entries ≤ length t → follow_set t f from l ≡ follow_from t f from 0 l
    unfolding follow_set
    follow_long h = rw (le-ltb (length t) table_entries h)

    pub following_start : (set : ℕ) → set ≡ from → from < 2 ^ 64 → Following t f l from set 0
    following_start set e h = record { inside = omega arith; small = rw e h; same = rw e refl }

    module _ (set i : ℕ) (at : Following t f l from set i) where
      next : i < length l → get_or l i 0 < letter_count → follow_from t f set i (drop i l) ≡ follow_from t f (advanced t set (get_or l i 0)) (i + 1) (drop (i + 1) l)
      unfolding follow_from
      next h b = rw (drop-cons l i 0 h, lt-ltb (get_or l i 0) letter_count b, add-one i)

      bad : i < length l → letter_count ≤ get_or l i 0 → follow_from t f set i (drop i l) ≡ refusal bad_letter_number i
      unfolding follow_from
      bad h b = rw (drop-cons l i 0 h, le-ltb (get_or l i 0) letter_count b)

      end : i ≡ length l → follow_from t f set i (drop i l) ≡ flag (meets set f)
      unfolding follow_from
      end e = rw (e, drop-length l)

      pub following_turn : (set' : ℕ) → i < length l → get_or l i 0 < letter_count → set' ≡ advanced t set (get_or l i 0) → Following t f l from set' (i + 1)
      following_turn set' h b e =
          record {
            inside = omega arith;
            small = rw e (advanced_lt t set (get_or l i 0));
            same = rw e (sym (next h b) ∙ at.same);
          }

      pub follow_refused : table_entries ≤ length t → i < length l → letter_count ≤ get_or l i 0 → refusal bad_letter_number i ≡ follow_set t f from l
      follow_refused k h b = sym (bad h b) ∙ at.same ∙ sym (follow_long k)

      pub follow_ended : table_entries ≤ length t → length l ≤ i → flag (not (eqb (bit_and set f) 0)) ≡ follow_set t f from l
      follow_ended k h = ap flag (meets_test set f at.small) ∙ sym (end (omega (arith, at.inside))) ∙ at.same ∙ sym (follow_long k)
