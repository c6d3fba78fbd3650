-- A walker over a table that serves a rule remembers how many letters it took, and the shortest beginning of them that the rule accepts. Assumes nothing.
use Prim.Native.Nat.{ℕ, ◌+◌, ◌<◌, ◌≤◌}
use native.Mathlib.Omega.{arith}
use mathlib.Core.Path.{◌≡◌, refl, sym, ap, ◌∙◌}
use mathlib.Core.Logic.{◌↔◌, ◌⊎◌, inl, inr}
use mathlib.Core.Bool.{Bool, true, false, cond, false≢true}
use mathlib.Core.List.{List, [], ◌∷◌, ◌++◌, append_assoc, append-nil}
use lib.Dec.{ltb}
use lib.ListN.{length, length-append}
use borrow.Author.Tests.{lt-ltb, le-ltb, ltb-true}
use Rattle.bits.specs.Word.{bit}
use Rattle.bits.proofs.Truths.{true_T, T_true}
use Rattle.definitions.specs.Definition1.{Rule}
use Rattle.definitions.specs.Definition2.{letter_count, Begins, Sat}
use Rattle.definitions.specs.Numbers.{short_slice_number, bad_letter_number, full_count_number}
use Rattle.automata.specs.Table.{table_states, table_entries, table_of}
use Rattle.automata.specs.Promise.{Letters, Serves}
use Rattle.steps.specs.Moves.{advanced, meets, walked}
use Rattle.steps.proofs.Walking.{start_meets, walk_accepts}
use Rattle.walkers.specs.declared.Walker.{Walker}
use Rattle.walkers.specs.Steps.{largest_count, start_of, flag, refusal, led_to_of, moved_by, refused_as, step_of}
use Rattle.walkers.specs.Remembers.{Took, fresh, stepped, refused, Shortest, Remembers}

-- ---- beginnings of a sequence with one letter more

module _ {P : List ℕ → Type 0} (u : List ℕ) (x : ℕ) where
  -- a beginning of u is one of the longer sequence
  abbrev later : Begins P u → Begins P (u ++ (x ∷ []))
  later b = record { w1 = b.w1; w2 = b.w2 ++ (x ∷ []); whole = ap (λ (l : List ℕ). l ++ (x ∷ [])) b.whole ∙ append_assoc b.w1 b.w2 (x ∷ []); first = b.first }

  abbrev all_of_it : P (u ++ (x ∷ [])) → Begins P (u ++ (x ∷ []))
  all_of_it p = record { w1 = u ++ (x ∷ []); w2 = []; whole = sym (append-nil (u ++ (x ∷ []))); first = p }

-- the empty sequence has one beginning
only_nothing : (w1 w2 : List ℕ) → [] ≡ w1 ++ w2 → w1 ≡ []
only_nothing [] w2 e = refl
only_nothing (x ∷ w1) w2 e = absurd (omega (arith, ap length e, length-append w1 w2))

module _ {P : List ℕ → Type 0} where
  abbrev pub nothing_begins : P [] → Begins P []
  nothing_begins p = record { w1 = []; w2 = []; whole = refl; first = p }

  pub of_nothing : Begins P [] → P []
  of_nothing o = rw (← only_nothing o.w1 o.w2 o.whole) o.first

-- what stands before a last letter stands in what is before the last letter
before_last : (w1 w2 u : List ℕ) (x y : ℕ) → u ++ (x ∷ []) ≡ w1 ++ (y ∷ w2) → (rest : List ℕ) × (u ≡ w1 ++ rest)
before_last [] w2 u x y e = (u, refl)
before_last (a ∷ w1) w2 [] x y e = absurd (omega (arith, ap length e, length-append w1 (y ∷ w2)))
before_last (a ∷ w1) w2 (b ∷ u) x y e =
    let h : b ≡ a = cc in
    let k : u ++ (x ∷ []) ≡ w1 ++ (y ∷ w2) = cc in
    let r = before_last w1 w2 u x y k in
    (r.0, rw (h) (ap (λ (l : List ℕ). a ∷ l) r.1))

-- and no other is but all of it
beginning_of : (u : List ℕ) (x : ℕ) (w1 w2 : List ℕ) → u ++ (x ∷ []) ≡ w1 ++ w2 → (w1 ≡ u ++ (x ∷ [])) ⊎ ((rest : List ℕ) × (u ≡ w1 ++ rest))
beginning_of u x w1 [] e = inl (sym (append-nil w1) ∙ sym e)
beginning_of u x w1 (y ∷ w2) e = inr (before_last w1 w2 u x y e)

-- ---- one step more

module _ (r : Rule) (u : List ℕ) (x : ℕ) (w : Walker) (set : ℕ) (knows : Remembers r u w) (says : (meets set w.finals ≡ true) ↔ Sat r (u ++ (x ∷ []))) where
  -- the shortest beginning stays the shortest
  shortest_stays : w.matched ≡ true → Shortest r (u ++ (x ∷ [])) w.first
  shortest_stays m = record { beginning = later u x s.beginning; long = s.long; least = least }
    where
      s : Shortest r u w.first
      s = knows.first_shortest m

      least : (o : Begins (Sat r) (u ++ (x ∷ []))) → w.first ≤ length o.w1
      least o = go (beginning_of u x o.w1 o.w2 o.whole)
        where
          go : (o.w1 ≡ u ++ (x ∷ [])) ⊎ ((rest : List ℕ) × (u ≡ o.w1 ++ rest)) → w.first ≤ length o.w1
          go (inl e) = omega (arith, s.long, ap length s.beginning.whole, length-append s.beginning.w1 s.beginning.w2, ap length e, length-append u (x ∷ []))
          go (inr e) = s.least (record { w1 = o.w1; w2 = e.0; whole = e.1; first = o.first })

  -- where there was no match before, nothing shorter than all of it is accepted
  none_before : w.matched ≡ false → (o : Begins (Sat r) (u ++ (x ∷ []))) → o.w1 ≡ u ++ (x ∷ [])
  none_before m o = go (beginning_of u x o.w1 o.w2 o.whole)
    where
      go : (o.w1 ≡ u ++ (x ∷ [])) ⊎ ((rest : List ℕ) × (u ≡ o.w1 ++ rest)) → o.w1 ≡ u ++ (x ∷ [])
      go (inl e) = e
      go (inr e) = absurd (false≢true (sym m ∙ knows.matched_exactly.1 (record { w1 = o.w1; w2 = e.0; whole = e.1; first = o.first })))

  counted : w.taken + 1 ≡ length (u ++ (x ∷ []))
  counted = omega (arith, knows.counts, length-append u (x ∷ []))

  first_now : w.matched ≡ false → Sat r (u ++ (x ∷ [])) → Shortest r (u ++ (x ∷ [])) (w.taken + 1)
  first_now m s =
      record {
        beginning = all_of_it u x s;
        long = sym counted;
        least = λ o. omega (arith, counted, ap length (none_before m o));
      }

  pub remember_step : Remembers r (u ++ (x ∷ [])) (led_to_of w set)
  remember_step = go w.matched refl (meets set w.finals) refl
    where
      go : (a : Bool) → w.matched ≡ a → (b : Bool) → meets set w.finals ≡ b → Remembers r (u ++ (x ∷ [])) (led_to_of w set)
      go true m b e =
          record {
            counts = counted;
            matched_exactly = (λ q. later u x (knows.matched_exactly.0 m), λ q. rw (m) refl);
            first_shortest = λ q. rw (m) (shortest_stays m);
            no_first = λ q. absurd (false≢true (sym (rw (m) at q)));
            matches_now = says;
          }
      go false m true e =
          record {
            counts = counted;
            matched_exactly = (λ q. all_of_it u x (says.0 e), λ q. rw (m, e) refl);
            first_shortest = λ q. rw (m, e) (first_now m (says.0 e));
            no_first = λ q. absurd (false≢true (sym (rw (m, e) at q)));
            matches_now = says;
          }
      go false m false e =
          record {
            counts = counted;
            matched_exactly = (λ q. absurd (false≢true (rw (m, e) at q)), λ o. absurd (false≢true (sym e ∙ says.1 (rw (← none_before m o) o.first))));
            first_shortest = λ q. absurd (false≢true (rw (m, e) at q));
            no_first = λ q. rw (m, e) (knows.no_first m);
            matches_now = says;
          }

-- ---- a whole history

letters_more : (u : List ℕ) (x : ℕ) → Letters u → x < letter_count → Letters (u ++ (x ∷ []))
letters_more [] x h l = (l, tt)
letters_more (y ∷ u) x h l = (h.0, letters_more u x h.1 l)

walked_more : (t : List ℕ) (set : ℕ) (u : List ℕ) (x : ℕ) → walked t set (u ++ (x ∷ [])) ≡ advanced t (walked t set u) x
walked_more t set [] x = refl
walked_more t set (y ∷ u) x = walked_more t (advanced t set y) u x

-- a flag is no refusal
no_flag : {b : Bool} {n p : ℕ} → flag b ≡ refusal n p → ⊥
no_flag q = let z : ◌≡◌ {A = ℕ} 0 1 = cc in omega arith

-- a step that says whether it matches was taken
record Taken (t : List ℕ) (w : Walker) (x : ℕ) (v : Walker) : Type 0 where
  letter : x < letter_count
  moved : v ≡ led_to_of w (advanced t w.set x)

taken : (t : List ℕ) (w : Walker) (x : ℕ) (v : Walker) (b : Bool) → step_of t w x ≡ record { walker = v; says = flag b } → Taken t w x v
unfolding step_of
taken t w x v b = go (ltb (length t) table_entries) (ltb x letter_count) refl (ltb w.taken largest_count)
  where
    go : (i j : Bool) → ltb x letter_count ≡ j → (k : Bool)
        → cond i (refused_as w short_slice_number 0) (cond j (cond k (moved_by t w x) (refused_as w full_count_number 0)) (refused_as w bad_letter_number 0)) ≡ record { walker = v; says = flag b } → Taken t w x v
    go true j e k q = absurd (no_flag (λ i. (sym q i).says))
    go false false e k q = absurd (no_flag (λ i. (sym q i).says))
    go false true e false q = absurd (no_flag (λ i. (sym q i).says))
    go false true e true q = record { letter = ltb-true x letter_count e; moved = λ i. (sym q i).walker }

-- and one that is refused leaves the walker as it came
kept : (t : List ℕ) (w : Walker) (x : ℕ) (v : Walker) (n p : ℕ) → step_of t w x ≡ record { walker = v; says = refusal n p } → v ≡ w
unfolding step_of
kept t w x v n p = go (ltb (length t) table_entries) (ltb x letter_count) (ltb w.taken largest_count)
  where
    go : (i j k : Bool) → cond i (refused_as w short_slice_number 0) (cond j (cond k (moved_by t w x) (refused_as w full_count_number 0)) (refused_as w bad_letter_number 0)) ≡ record { walker = v; says = refusal n p } → v ≡ w
    go true j k q = λ i. (sym q i).walker
    go false false k q = λ i. (sym q i).walker
    go false true false q = λ i. (sym q i).walker
    go false true true q = absurd (no_flag (λ i. (q i).says))

module _ (r : Rule) (t : List ℕ) (f : ℕ) (serves : Serves (table_of t table_states f) r) where
  -- what is known of a walker that took the letters u
  record Knows (u : List ℕ) (w : Walker) : Type 0 where
    letters : Letters u
    there : w.set ≡ walked t 1 u
    ends : w.finals ≡ f
    remembers : Remembers r u w

  says : (u : List ℕ) (set finals : ℕ) → Letters u → set ≡ walked t 1 u → finals ≡ f → (meets set finals ≡ true) ↔ Sat r u
  says u set finals h e d =
      let a = walk_accepts t f u in
      rw (e, d) (λ q. serves.sound u h (a.0 (true_T q)), λ s. T_true (meets (walked t 1 u) f) (a.1 (serves.complete u h s)))

  fresh_knows : Knows [] (start_of f)
  fresh_knows = record { letters = tt; there = refl; ends = refl; remembers = starts }
    where
      now : (meets 1 f ≡ true) ↔ Sat r []
      now = says [] 1 f tt refl refl

      accepted : (bit f 0 ≡ true) → Sat r []
      accepted e = now.0 (start_meets f ∙ e)

      starts : Remembers r [] (start_of f)
      starts =
          record {
            counts = refl;
            matched_exactly = (λ e. nothing_begins (accepted e), λ o. sym (start_meets f) ∙ now.1 (of_nothing o));
            first_shortest = λ e. record { beginning = nothing_begins (accepted e); long = refl; least = λ o. omega arith };
            no_first = λ e. refl;
            matches_now = now;
          }

  step_knows : (u : List ℕ) (x : ℕ) (w v : Walker) → Knows u w → Taken t w x v → Knows (u ++ (x ∷ [])) v
  step_knows u x w v k s =
      let h = letters_more u x k.letters s.letter in
      let e : advanced t w.set x ≡ walked t 1 (u ++ (x ∷ [])) = ap (λ (z : ℕ). advanced t z x) k.there ∙ sym (walked_more t 1 u x) in
      rw s.moved record { letters = h; there = e; ends = k.ends; remembers = remember_step r u x w (advanced t w.set x) k.remembers (says (u ++ (x ∷ [])) (advanced t w.set x) w.finals h e k.ends) }

  knows : (l : List ℕ) (v : Walker) → Took t f l v → Knows l v
  knows l v (fresh e d) = rw (e, d) fresh_knows
  knows l v (stepped u w x b h s e) = rw (e) (step_knows u x w v (knows u w h) (taken t w x v b s))
  knows l v (refused t' w x n p h s) = rw (kept t' w x v n p s) (knows l w h)

  -- a walker remembers what it took
  pub walker_remembers : (l : List ℕ) (v : Walker) → Took t f l v → Remembers r l v
  walker_remembers l v h = (knows l v h).remembers

-- every sequence of letters that can be counted is taken
module _ (t : List ℕ) (long : table_entries ≤ length t) (f : ℕ) where
  taken_from : (u : List ℕ) (w : Walker) → Took t f u w → w.taken ≡ length u → (l : List ℕ) → Letters l → length u + length l ≤ largest_count → (v : Walker) × Took t f (u ++ l) v
  unfolding step_of
  taken_from u w h c [] k s = (w, rw (append-nil u) h)
  taken_from u w h c (x ∷ l) k s =
      let m : w.taken < largest_count = omega arith in
      let e : step_of t w x ≡ moved_by t w x = rw (le-ltb (length t) table_entries long, lt-ltb x letter_count k.0, lt-ltb w.taken largest_count m) in
      let n = led_to_of w (advanced t w.set x) in
      let g = taken_from (u ++ (x ∷ [])) n (stepped u w x (meets (advanced t w.set x) w.finals) h e refl) (omega (arith, c, length-append u (x ∷ []))) l k.1 (omega (arith, length-append u (x ∷ []))) in
      (g.0, rw (← append_assoc u (x ∷ []) l) g.1)

  pub every_sequence_taken : (l : List ℕ) → Letters l → length l ≤ largest_count → (v : Walker) × Took t f l v
  every_sequence_taken l h s = taken_from [] (start_of f) (fresh refl refl) refl l h (omega arith)
