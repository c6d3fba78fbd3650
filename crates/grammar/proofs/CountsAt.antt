-- Counts at a place of the text. Assumes nothing.
use Prim.Native.Nat.{ℕ, suc, ◌+◌, ◌-◌, ◌≤◌, ◌<◌}
use native.Mathlib.Omega.{arith}
use native.Mathlib.Decide.{dec_lt}
use mathlib.Core.Path.{◌≡◌, refl, sym, ap, subst, ◌∙◌}
use mathlib.Core.Bool.{false}
use mathlib.Core.List.{List, [], ◌∷◌, ◌++◌}
use lib.ListN.{length, get_or, drop, drop_of_length-le}
use lib.Seq.{drop-cons}
use Rattle.definitions.specs.Encoding.{largest_count}
use Rattle.std.specs.Prelude.{Option, Some, None, Result, Ok, Err}
use Rattle.grammar.specs.declared.words.Fault.{Fault}
use Rattle.grammar.specs.declared.counts.Counted.{Counted}
use Rattle.grammar.specs.declared.counts.Number.{Number}
use Rattle.grammar.specs.inner.Reading.{Which, low, high, Digits, all, rest, number, counts, sign, Values, Rest, stop, others, more, digit_to, scan}
use Rattle.grammar.specs.inner.Values.{digits, texts}
use Rattle.grammar.specs.inner.Places.{At, Part, Fails, Passes, DigitAt, a_digit, no_digit, IsNumber, NumberAt, is, no_number, HighAt, is_high, not_high, CountedAt, are, no_counts}
use Rattle.grammar.proofs.Numbers.{one_digit, two_digits, others_of, begun_of, one_alone}
use Rattle.grammar.proofs.Rights.{more_text_lem, more_small}
use Rattle.grammar.proofs.Counting.{digit_below, digit_past, followed, by_digit, digit_low, not_a_digit, by_one, by_teen, teen_low, Stops, one_stands, one_low}
use Rattle.grammar.proofs.Complete.{same_followed}
use Rattle.grammar.proofs.Standing.{ended, seen, other_sign, no_part, char_part, parts, part_first}
use Rattle.grammar.proofs.Passing.{given_feed, alone, sign_passes, then_passes, then_fails}

-- which digit was found
module _ {s : List ℕ} {at last : ℕ} {r : Option ℕ} where
  pub is_digit : DigitAt s at last r → (d : ℕ) → r ≡ Some d → (d ≤ last) × At s at (48 + d)
  is_digit (a_digit d' q l x) d e = let i : d' ≡ d = cc in (omega arith, subst (λ (n : ℕ). At s at (48 + n)) i x)
  is_digit (no_digit q f) d e = absurd (let z : ◌≡◌ {A = ℕ} 0 1 = cc in omega arith)

  pub is_none : DigitAt s at last r → r ≡ None → (c : ℕ) → 48 ≤ c → c ≤ 48 + last → At s at c → ⊥
  is_none (a_digit d q l x) e = absurd (let z : ◌≡◌ {A = ℕ} 0 1 = cc in omega arith)
  is_none (no_digit q f) e = f

-- no digit stands there
away : (last c : ℕ) → (48 ≤ c → c ≤ last → ⊥) → digit_to last c ≡ false
away last c f = go (dec_lt c 48) (dec_lt last c)
  where
    go : Dec (c < 48) → Dec (last < c) → digit_to last c ≡ false
    go (yes h) l = digit_below last c h
    go (no h) (yes l) = digit_past last c l
    go (no h) (no l) = absurd (f (omega arith) (omega arith))

module _ (s : List ℕ) (at : ℕ) where
  pub stops_at : ((c : ℕ) → 48 ≤ c → c ≤ 53 → At s at c → ⊥) → Stops (drop at s)
  stops_at f = go (dec_lt at (length s))
    where
      go : Dec (at < length s) → Stops (drop at s)
      go (no h) = let l : length s ≤ at = omega arith in subst Stops (sym (drop_of_length-le s l)) tt
      go (yes h) = subst Stops (sym (drop-cons s at 0 h)) (away 53 (get_or s at 0) (λ l u. f (get_or s at 0) l u (record { inside = h; char = refl })))

  module _ (least : ℕ) (small : least ≤ largest_count) where
    -- the first digit
    pub digit_is : (v : ℕ) → At s at (48 + v) → v ≤ 9 → (v ≡ 1 → ⊥) → least ≤ v → IsNumber s at all least v (at + 1)
    digit_is v h l n q = record {
      begun = tt;
      fits = record { close = omega arith; small = omega arith };
      part = subst (λ (t : List ℕ). Part s at t (at + 1)) (sym (one_digit (48 + v) v l refl)) (char_part s h);
      on = λ w ns k. ap (λ (t : List ℕ). scan t (number all w (largest_count - least) ∷ ns) k at) (seen s h) ∙ by_digit w (largest_count - least) (48 + v) (drop (at + 1) s) ns v refl l n (omega arith) k at;
    }

    pub digit_less : (v : ℕ) → At s at (48 + v) → (v ≡ 1 → ⊥) → v < least → (w : Which) → Fails s at (number all w (largest_count - least) ∷ []) at
    digit_less v h n q w ms k = ap (λ (t : List ℕ). scan t (number all w (largest_count - least) ∷ ms) k at) (seen s h) ∙ digit_low w (largest_count - least) (48 + v) (drop (at + 1) s) ms v refl n (omega arith) k at

    pub none_there : ((c : ℕ) → 48 ≤ c → c ≤ 57 → At s at c → ⊥) → (w : Which) → Fails s at (number all w (largest_count - least) ∷ []) at
    none_there f w = go (dec_lt at (length s))
      where
        go : Dec (at < length s) → Fails s at (number all w (largest_count - least) ∷ []) at
        go (no h) = ended s (number all w (largest_count - least)) refl at (omega arith)
        go (yes h) = λ ms k.
            ap (λ (t : List ℕ). scan t (number all w (largest_count - least) ∷ ms) k at) (drop-cons s at 0 h)
            ∙ not_a_digit w (largest_count - least) (get_or s at 0) (drop (suc at) s) ms (away 57 (get_or s at 0) (λ l u. f (get_or s at 0) l u (record { inside = h; char = refl }))) (λ e. f (get_or s at 0) (omega arith) (omega arith) (record { inside = h; char = refl })) k at

    -- a "1" and what follows it
    pub one_and : At s at 49 → (r : Result Number Fault) → NumberAt s (at + 1) rest least r → NumberAt s at all least r
    one_and h r (is n q x) = is n q (record {
      begun = tt;
      fits = x.fits;
      part = subst (λ (t : List ℕ). Part s at t n.end) (sym x.begun) (parts s (49 ∷ []) (digits rest n.value) (char_part s h) x.part);
      on = λ w ns k.
          ap (λ (t : List ℕ). scan t (number all w (largest_count - least) ∷ ns) k at) (seen s h)
          ∙ by_one w (largest_count - least) 0 (drop (at + 1) s) ns k at
          ∙ x.on w ns k
          ∙ same_followed w (largest_count - least) n.value ns k (drop n.end s) n.end;
    })
    one_and h r (no_number p q f) = no_number p q (λ w ms k.
        ap (λ (t : List ℕ). scan t (number all w (largest_count - least) ∷ ms) k at) (seen s h)
        ∙ by_one w (largest_count - least) 0 (drop (at + 1) s) ms k at
        ∙ f w ms k)

    pub teen_is : (d v : ℕ) → At s at (48 + d) → d ≤ 5 → v ≡ 10 + d → least ≤ v → IsNumber s at rest least v (at + 1)
    teen_is d v h l e q =
        let t = two_digits (48 + d) v (omega arith) (omega arith) (omega arith) in
        record {
          begun = begun_of v ((48 + d) ∷ []) t;
          fits = record { close = omega arith; small = omega arith };
          part = subst (λ (t : List ℕ). Part s at t (at + 1)) (sym (others_of v ((48 + d) ∷ []) t)) (char_part s h);
          on = λ w ns k. ap (λ (t : List ℕ). scan t (number rest w (largest_count - least) ∷ ns) k at) (seen s h) ∙ by_teen w (largest_count - least) (48 + d) (drop (at + 1) s) ns v (omega arith) (omega arith) (omega arith) (omega arith) k at;
        }

    pub teen_less : (d v : ℕ) → At s at (48 + d) → d ≤ 5 → v ≡ 10 + d → v < least → (w : Which) → Fails s at (number rest w (largest_count - least) ∷ []) at
    teen_less d v h l e q w ms k = ap (λ (t : List ℕ). scan t (number rest w (largest_count - least) ∷ ms) k at) (seen s h) ∙ teen_low w (largest_count - least) (48 + d) (drop (at + 1) s) ms v (omega arith) (omega arith) (omega arith) (omega arith) k at

    pub one_is : at ≤ length s → Stops (drop at s) → least ≤ 1 → IsNumber s at rest least 1 at
    one_is i h q = record {
      begun = begun_of 1 [] one_alone;
      fits = record { close = omega arith; small = omega arith };
      part = subst (λ (t : List ℕ). Part s at t at) (sym (others_of 1 [] one_alone)) (no_part s at i);
      on = λ w ns k. one_stands w (largest_count - least) ns k at (drop at s) h (omega arith);
    }

    pub one_less : Stops (drop at s) → 1 < least → (w : Which) → Fails s at (number rest w (largest_count - least) ∷ []) at
    one_less h q w ms k = one_low w (largest_count - least) ms k at (drop at s) h (omega arith)

-- what follows the count
module _ (s : List ℕ) (at : ℕ) (d : Digits) (least v e : ℕ) (x : IsNumber s at d least v e) (w : Which) where
  pub number_passes : {e' : ℕ} (vs : Values (others w v)) → Passes s e (sign (stop w) ∷ others w v) (tt, vs) e' → Passes s at (number d w (largest_count - least) ∷ []) ((v, more w v vs), tt) e'
  number_passes {e'} vs y = record {
    small = ((x.begun, x.fits, more_small w v vs x.fits.small y.small.1), tt);
    part = alone s (number d w (largest_count - least)) (v, more w v vs) (subst (λ (t : List ℕ). Part s at (digits d v ++ t) e') (sym (more_text_lem w v vs)) (parts s (digits d v) (stop w ∷ texts (others w v) vs) x.part y.part));
    over = λ ms k.
        x.on w ms k
        ∙ y.over ms (followed d w (largest_count - least) v ms k)
        ∙ ap (λ (z : Rest ms). scan (drop e' s) ms z e') (given_feed (number d w (largest_count - least)) (others w v) ms (λ u. (v, more w v u)) k vs);
  }

  pub number_fails : (p : ℕ) → Fails s e (sign (stop w) ∷ others w v) p → Fails s at (number d w (largest_count - least) ∷ []) p
  number_fails p f ms k = x.on w ms k ∙ f ms (followed d w (largest_count - least) v ms k)

-- the answer's variant is known
module _ {s : List ℕ} {at : ℕ} {d : Digits} {least : ℕ} {r : Result Number Fault} where
  pub as_number : NumberAt s at d least r → (n : Number) → r ≡ Ok n → IsNumber s at d least n.value n.end
  as_number (is n' q x) n z = let i : n' ≡ n = cc in subst (λ (m : Number). IsNumber s at d least m.value m.end) i x
  as_number (no_number f q g) n z = absurd (let y : ◌≡◌ {A = ℕ} 0 1 = cc in omega arith)

  pub as_no_number : NumberAt s at d least r → (f : Fault) → r ≡ Err f → (w : Which) → Fails s at (number d w (largest_count - least) ∷ []) f.place
  as_no_number (is n q x) f z = absurd (let y : ◌≡◌ {A = ℕ} 0 1 = cc in omega arith)
  as_no_number (no_number f' q g) f z = let i : f' ≡ f = cc in subst (λ (h : Fault). (w : Which) → Fails s at (number d w (largest_count - least) ∷ []) h.place) i g

-- the second count, and what closes it
module _ (s : List ℕ) (at i j e : ℕ) (x : IsNumber s at all i j e) where
  pub high_open : (At s e 93 → ⊥) → HighAt s at i (Err (record { place = e }))
  high_open n = not_high _ refl (number_fails s at all i j e x high e (other_sign s e 93 n))

  pub high_closed : At s e 93 → HighAt s at i (Ok (record { low = i; high = j; end = e + 1 }))
  high_closed h = is_high _ refl refl (number_passes s at all i j e x high tt (sign_passes s h))

-- both counts
module _ (s : List ℕ) (at i e : ℕ) (x : IsNumber s at all 0 i e) where
  pub dots_broken : (f : Fault) → Fails s e (sign 46 ∷ sign 46 ∷ []) f.place → CountedAt s at (Err f)
  dots_broken p f = no_counts p refl (number_fails s at all 0 i e x low p.place (λ ms k. f (number all high (largest_count - i) ∷ ms) k))

  module _ (m : ℕ) (d : Part s e (46 ∷ 46 ∷ []) m) where
    dot : At s e 46
    dot = (part_first s d).0

    second_dot : At s (e + 1) 46
    second_dot = (part_first s (part_first s d).1).0

    dots_end : m ≡ e + 1 + 1
    dots_end = let l = d.ends in omega arith

    after_dots : (j end : ℕ) → Passes s m (number all high (largest_count - i) ∷ []) ((j, tt), tt) end → Passes s e (sign 46 ∷ sign 46 ∷ number all high (largest_count - i) ∷ []) (tt, (tt, ((j, tt), tt))) end
    after_dots j end y =
        then_passes s (sign 46) (sign 46 ∷ number all high (largest_count - i) ∷ []) tt (tt, ((j, tt), tt)) (sign_passes s dot)
        (then_passes s (sign 46) (number all high (largest_count - i) ∷ []) tt ((j, tt), tt) (sign_passes s second_dot) (subst (λ (n : ℕ). Passes s n (number all high (largest_count - i) ∷ []) ((j, tt), tt) end) dots_end y))

    no_second : (p : ℕ) → Fails s m (number all high (largest_count - i) ∷ []) p → Fails s e (sign 46 ∷ sign 46 ∷ number all high (largest_count - i) ∷ []) p
    no_second p f =
        then_fails s (sign 46) (sign 46 ∷ number all high (largest_count - i) ∷ []) tt p (sign_passes s dot)
        (then_fails s (sign 46) (number all high (largest_count - i) ∷ []) tt p (sign_passes s second_dot) (subst (λ (n : ℕ). Fails s n (number all high (largest_count - i) ∷ []) p) dots_end f))

    pub both_counts : (r : Result Counted Fault) → HighAt s m i r → CountedAt s at r
    both_counts r (is_high c q same y) =
        are c q (subst (λ (n : ℕ). Passes s at (counts ∷ []) ((n, c.high), tt) c.end) (sym same) (number_passes s at all 0 i e x low (tt, ((c.high, tt), tt)) (after_dots c.high c.end y)))
    both_counts r (not_high p q f) = no_counts p q (number_fails s at all 0 i e x low p.place (no_second p.place f))
