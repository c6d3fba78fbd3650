-- Reading passes over the text of what is needed, and keeps its value. Assumes nothing.
use Prim.Native.Nat.{ℕ, zero, suc, ◌+◌, ◌-◌, ◌≤◌, ◌<◌}
use native.Mathlib.Omega.{arith}
use native.Mathlib.Decide.{dec_lt}
use mathlib.Core.Path.{◌≡◌, refl, sym, ap, ◌∙◌}
use mathlib.Core.Bool.{Bool, true, false, cond, ◌&&◌}
use mathlib.Core.List.{List, [], ◌∷◌, ◌++◌, append_assoc, append-nil}
use lib.ListN.{length, length-append}
use lib.Dec.{eqb}
use borrow.Author.Tests.{eq-eqb, ne_eqb}
use Rattle.definitions.specs.declared.kinds.Junction.{Junction}
use Rattle.definitions.specs.declared.kinds.Junction.TheVariants.{And, Or}
use Rattle.definitions.specs.declared.kinds.Pair.{Pair}
use Rattle.definitions.specs.declared.kinds.Pair.TheVariants.{Then, Overlap, Either, Within, Both}
use Rattle.definitions.specs.declared.kinds.Repeat.TheVariants.{Star, Plus}
use Rattle.definitions.specs.Definition1.{Formula, prop, yea, nay, neg, join, Rule, letter, empty, two, again, counted, occurs}
use Rattle.definitions.specs.Encoding.{largest_count, CountsFit, SmallF, Small}
use Rattle.writing.specs.Decimal.{decimal}
use Rattle.grammar.specs.Text.{junction_char, counts_text, formula_text, text}
use Rattle.grammar.specs.inner.Reading.{Which, low, high, all, rest, Need, rule, formula, digit, junction, tail, second, bracket, star, occurrence, number, sign, Counts, uncounted, from, Bracket, plus, starred, Tail, pair, repeated, Second, within, both, More, Value, Rest, closed, seconded, standing, rule_rows, as_second, Row, row, only, stop, others, near, digit_to, ended, number_rows, counts, from_to, as_star, rows, Outcome, good, broken, On, pick, scan, parse}
use Rattle.grammar.specs.inner.Values.{occurrence_text, tail_text, more_text, text_n, SmallC, SmallB, Near}
use Rattle.grammar.proofs.Numbers.{one_digit, two_digits, one_alone}
use Rattle.grammar.proofs.Picking.{later}
use Rattle.grammar.proofs.Counting.{followed, by_digit, by_one, by_teen, Stops, one_stands}

abbrev pub Passed : (n : Need) → Value n → Type 0
Passed n v = (t : List ℕ) (ns : List Need) (k : Value n → Rest ns) (at : ℕ) → scan (text_n n v ++ t) (n ∷ ns) k at ≡ scan t ns (k v) (at + length (text_n n v))

far : (l : List ℕ) (ns : List Need) (k : Rest ns) (m n : ℕ) → m ≡ n → scan l ns k m ≡ scan l ns k n
far l ns k m n q = ap (λ (j : ℕ). scan l ns k j) q

-- the six propositions
six : (P : ℕ → Type 0) → P 0 → P 1 → P 2 → P 3 → P 4 → P 5 → (i : ℕ) → i ≤ 5 → P i
six P a b c d e f zero h = a
six P a b c d e f (suc zero) h = b
six P a b c d e f (suc (suc zero)) h = c
six P a b c d e f (suc (suc (suc zero))) h = d
six P a b c d e f (suc (suc (suc (suc zero)))) h = e
six P a b c d e f (suc (suc (suc (suc (suc zero))))) h = f
six P a b c d e f (suc (suc (suc (suc (suc (suc i)))))) h = absurd (omega arith)

pub over_digit : (i : ℕ) → i ≤ 5 → Passed digit i
unfolding rows
over_digit i h = six (λ (j : ℕ). Passed digit j) (λ t ns k at. refl) (λ t ns k at. refl) (λ t ns k at. refl) (λ t ns k at. refl) (λ t ns k at. refl) (λ t ns k at. refl) i h

pub over_sign : (c : ℕ) → Passed (sign c) tt
unfolding rows
over_sign c t ns k at = rw (eq-eqb c c refl)

module _ (f : Formula) (g : Passed formula f) where
  over_junction : (j : Junction) → Passed junction (j, f)
  unfolding rows
  over_junction And t ns k at = rw (append_assoc (formula_text f) (41 ∷ []) t)
      (g (41 ∷ t) (sign 41 ∷ ns) (λ v u. k (And, v)) (at + 1) ∙ far t ns (k (And, f)) _ _ (omega (arith, length-append (formula_text f) (41 ∷ []))))
  over_junction Or t ns k at = rw (append_assoc (formula_text f) (41 ∷ []) t)
      (g (41 ∷ t) (sign 41 ∷ ns) (λ v u. k (Or, v)) (at + 1) ∙ far t ns (k (Or, f)) _ _ (omega (arith, length-append (formula_text f) (41 ∷ []))))

pub over_formula : (f : Formula) → SmallF f → Passed formula f
unfolding rows
over_formula (prop i) h t ns k at = over_digit i h t ns (λ v. k (prop v)) (at + 1) ∙ far t ns (k (prop i)) _ _ (omega arith)
over_formula yea h t ns k at = far t ns (k yea) _ _ (omega arith)
over_formula nay h t ns k at = far t ns (k nay) _ _ (omega arith)
over_formula (neg f) h t ns k at = over_formula f h t ns (λ v. k (neg v)) (at + 1) ∙ far t ns (k (neg f)) _ _ (omega arith)
over_formula (join j f g) (u, v) t ns k at =
    rw (append_assoc (formula_text f) (junction_char j ∷ (formula_text g ++ (41 ∷ []))) t)
    (over_formula f u ((junction_char j ∷ (formula_text g ++ (41 ∷ []))) ++ t) (junction ∷ ns) (λ a b. k (join b.0 a b.1)) (at + 1)
    ∙ over_junction g (over_formula g v) j t ns (λ b. k (join b.0 f b.1)) _
    ∙ far t ns (k (join j f g)) _ _ (omega (arith, length-append (formula_text f) (junction_char j ∷ (formula_text g ++ (41 ∷ []))))))

-- what is needed after "&" is a rule and "}", unless another "&" comes
as_rule_lem : (c : ℕ) (on : On) (ns : List Need) (k : Second → Rest ns) (at : ℕ) (other : Outcome) → pick second (as_second rule_rows) c on ns k at other ≡ pick rule rule_rows c on (sign 125 ∷ ns) (λ r u. k (within r)) at other
as_rule_lem c on ns k at other = refl

pub no_and : (l : List ℕ) (c : ℕ) (s : List ℕ) → l ≡ c ∷ s → eqb c 38 ≡ false → (ns : List Need) (k : Second → Rest ns) (at : ℕ) → scan l (second ∷ ns) k at ≡ scan l (rule ∷ sign 125 ∷ ns) (λ r u. k (within r)) at
unfolding rows
no_and l c s q e ns k at = rw q (later (eqb c 38) _ _ e ∙ as_rule_lem c (scan s) ns k at (broken at))

record NoAnd (l : List ℕ) : Type 0 where
  char : ℕ
  rest : List ℕ
  whole : l ≡ char ∷ rest
  other : eqb char 38 ≡ false

formula_begins : (f : Formula) (t : List ℕ) → NoAnd (formula_text f ++ t)
formula_begins (prop i) t = record { char = _; rest = _; whole = refl; other = refl }
formula_begins yea t = record { char = _; rest = _; whole = refl; other = refl }
formula_begins nay t = record { char = _; rest = _; whole = refl; other = refl }
formula_begins (neg f) t = record { char = _; rest = _; whole = refl; other = refl }
formula_begins (join j f g) t = record { char = _; rest = _; whole = refl; other = refl }

begins : (r : Rule) (t : List ℕ) → NoAnd (text r ++ t)
begins (letter f) t = formula_begins f t
begins empty t = record { char = _; rest = _; whole = refl; other = refl }
begins (two p a b) t = record { char = _; rest = _; whole = refl; other = refl }
begins (again p a) t = record { char = _; rest = _; whole = refl; other = refl }
begins (counted i j a) t = record { char = _; rest = _; whole = refl; other = refl }
begins (occurs i j f) t = let o = formula_begins f ((91 ∷ 61 ∷ counts_text i j) ++ t) in record { char = o.char; rest = o.rest; whole = append_assoc (formula_text f) (91 ∷ 61 ∷ counts_text i j) t ∙ o.whole; other = o.other }

-- a rule's text that begins with a formula's is read as that
as_letter : (f : Formula) (t : List ℕ) (ns : List Need) (k : Rule → Rest ns) (at : ℕ) → scan (formula_text f ++ t) (rule ∷ ns) k at ≡ scan (formula_text f ++ t) (formula ∷ occurrence ∷ ns) (λ v c. k (standing v c)) at
unfolding rows
as_letter (prop i) t ns k at = refl
as_letter yea t ns k at = refl
as_letter nay t ns k at = refl
as_letter (neg f) t ns k at = refl
as_letter (join j f g) t ns k at = refl

-- the digits of a count, and then what must follow it
pub same_followed : (w : Which) (m v : ℕ) (ns : List Need) (k : ℕ × More w → Rest ns) (t : List ℕ) (at : ℕ) → scan t (sign (stop w) ∷ (others w v ++ ns)) (followed rest w m v ns k) at ≡ scan t (sign (stop w) ∷ (others w v ++ ns)) (followed all w m v ns k) at
same_followed low m v ns k t at = refl
same_followed high m v ns k t at = refl

stops_there : (w : Which) (x : More w) (t : List ℕ) → Stops (more_text w x ++ t)
stops_there low x t = refl
stops_there high x t = refl

module _ (w : Which) (m v : ℕ) (x : More w) (n : Near m v) (f : (t : List ℕ) (ns : List Need) (k : ℕ × More w → Rest ns) (at : ℕ) → scan (more_text w x ++ t) (sign (stop w) ∷ (others w v ++ ns)) (followed all w m v ns k) at ≡ scan t ns (k (v, x)) (at + length (more_text w x))) where
  by_digits : (l : List ℕ) → decimal v ≡ l → ((t : List ℕ) (ns : List Need) (k : ℕ × More w → Rest ns) (at : ℕ) → scan (l ++ (more_text w x ++ t)) (number all w m ∷ ns) k at ≡ scan (more_text w x ++ t) (sign (stop w) ∷ (others w v ++ ns)) (followed all w m v ns k) (at + length l)) → Passed (number all w m) (v, x)
  by_digits l q g t ns k at =
      ap (λ (u : List ℕ). scan ((u ++ more_text w x) ++ t) (number all w m ∷ ns) k at) q
      ∙ ap (λ (u : List ℕ). scan u (number all w m ∷ ns) k at) (append_assoc l (more_text w x) t)
      ∙ g t ns k at
      ∙ f t ns k (at + length l)
      ∙ far t ns (k (v, x)) _ _ (let e = ap length q in omega (arith, length-append (decimal v) (more_text w x)))

  few : v ≤ 9 → (v ≡ 1 → ⊥) → Passed (number all w m) (v, x)
  few h z = by_digits ((48 + v) ∷ []) (one_digit (48 + v) v h refl) (λ t ns k at. by_digit w m (48 + v) (more_text w x ++ t) ns v refl h z n.close k at)

  one : v ≡ 1 → Passed (number all w m) (v, x)
  one e = by_digits (49 ∷ []) (ap decimal e ∙ one_alone)
      (λ t ns k at.
      by_one w m 0 (more_text w x ++ t) ns k at
      ∙ one_stands w m ns k (at + 1) (more_text w x ++ t) (stops_there w x t) (let h = n.close in omega arith)
      ∙ same_followed w m 1 ns k (more_text w x ++ t) (at + 1)
      ∙ ap (λ (u : ℕ). scan (more_text w x ++ t) (sign (stop w) ∷ (others w u ++ ns)) (followed all w m u ns k) (at + 1)) (sym e))

  two_of : 10 ≤ v → Passed (number all w m) (v, x)
  two_of h = by_digits (49 ∷ (38 + v) ∷ []) (two_digits (38 + v) v h n.small (omega arith))
      (λ t ns k at.
      by_one w m 0 ((38 + v) ∷ (more_text w x ++ t)) ns k at
      ∙ by_teen w m (38 + v) (more_text w x ++ t) ns v (omega arith) h n.small n.close k (at + 1)
      ∙ same_followed w m v ns k (more_text w x ++ t) (at + 1 + 1)
      ∙ far (more_text w x ++ t) (sign (stop w) ∷ (others w v ++ ns)) (followed all w m v ns k) _ _ (omega arith))

  over_number : Passed (number all w m) (v, x)
  over_number = by_size (dec_lt v 10) (dec_lt v 1) (dec_lt 1 v)
    where
      by_size : Dec (v < 10) → Dec (v < 1) → Dec (1 < v) → Passed (number all w m) (v, x)
      by_size (no h) a b = two_of (omega arith)
      by_size (yes h) (yes a) b = few (omega arith) (λ z. omega arith)
      by_size (yes h) (no a) (yes b) = few (omega arith) (λ z. omega arith)
      by_size (yes h) (no a) (no b) = one (omega arith)

over_high : (m j : ℕ) → Near m j → Passed (number all high m) (j, tt)
over_high m j n = over_number high m j tt n close_on
  where
    close_on : (t : List ℕ) (ns : List Need) (k : ℕ × Unit {0} → Rest ns) (at : ℕ) → scan (93 ∷ t) (sign 93 ∷ ns) (followed all high m j ns k) at ≡ scan t ns (k (j, tt)) (at + 1)
    close_on t ns k at = over_sign 93 t ns (followed all high m j ns k) at

pub over_counts : (i j : ℕ) → CountsFit i j → Passed counts (i, j)
over_counts i j c = over_number low largest_count i j (record { close = omega arith; small = let a = c.rising in let b = c.small in omega arith }) dots_on
  where
    dots_on : (t : List ℕ) (ns : List Need) (k : ℕ × ℕ → Rest ns) (at : ℕ) → scan (46 ∷ 46 ∷ ((decimal j ++ (93 ∷ [])) ++ t)) (sign 46 ∷ sign 46 ∷ number all high (largest_count - i) ∷ ns) (followed all low largest_count i ns k) at ≡ scan t ns (k (i, j)) (at + length (more_text low j))
    dots_on t ns k at =
        over_sign 46 (46 ∷ ((decimal j ++ (93 ∷ [])) ++ t)) (sign 46 ∷ number all high (largest_count - i) ∷ ns) (followed all low largest_count i ns k) at
        ∙ over_sign 46 ((decimal j ++ (93 ∷ [])) ++ t) (number all high (largest_count - i) ∷ ns) (λ u y. k (i, y.0)) (at + 1)
        ∙ over_high (largest_count - i) j (record { close = let a = c.rising in let b = c.small in omega arith; small = c.small }) t ns (λ y. k (i, y.0)) (at + 1 + 1)
        ∙ far t ns (k (i, j)) _ _ (omega arith)

-- what is needed after "[*" is the counts, unless "]" comes
abbrev by_tests : ℕ → Bool → Bool → List (Row counts)
by_tests c a b = cond a (row 49 (number rest low largest_count ∷ []) (λ x. x.0) ∷ []) (only b (ended low largest_count c (c - 48)))

as_counts : (c : ℕ) (on : On) (ns : List Need) (k : Counts → Rest ns) (at : ℕ) (other : Outcome) → pick star (as_star (number_rows all low largest_count c)) c on ns k at other ≡ pick counts (number_rows all low largest_count c) c on ns (λ v. k (from_to v)) at other
as_counts c on ns k at other = go (eqb c 49) (digit_to 57 c && near largest_count (c - 48))
  where
    go : (a b : Bool) → pick star (as_star (by_tests c a b)) c on ns k at other ≡ pick counts (by_tests c a b) c on ns (λ v. k (from_to v)) at other
    go true b = refl
    go false true = refl
    go false false = refl

pub no_bracket : (l : List ℕ) (c : ℕ) (s : List ℕ) → l ≡ c ∷ s → eqb c 93 ≡ false → (ns : List Need) (k : Counts → Rest ns) (at : ℕ) → scan l (star ∷ ns) k at ≡ scan l (counts ∷ ns) (λ v. k (from_to v)) at
unfolding rows
no_bracket l c s q e ns k at = rw q (later (eqb c 93) _ _ e ∙ as_counts c (scan s) ns k at (broken at))

record Digit (l : List ℕ) : Type 0 where
  char : ℕ
  rest : List ℕ
  whole : l ≡ char ∷ rest
  other : eqb char 93 ≡ false

count_begins : (i : ℕ) → i ≤ largest_count → Digit (decimal i)
count_begins i h = go (dec_lt i 10)
  where
    go : Dec (i < 10) → Digit (decimal i)
    go (yes l) = record { char = 48 + i; rest = []; whole = one_digit (48 + i) i (omega arith) refl; other = ne_eqb (48 + i) 93 (λ e. omega arith) }
    go (no l) = record { char = 49; rest = (38 + i) ∷ []; whole = two_digits (38 + i) i (omega arith) h (omega arith); other = refl }

over_star : (c : Counts) → SmallC c → Passed star c
unfolding rows
over_star uncounted h t ns k at = far t ns (k uncounted) _ _ (omega arith)
over_star (from i j) h t ns k at =
    let d = count_begins i (let a = h.rising in let b = h.small in omega arith) in
    no_bracket _ d.char _ (ap (λ (u : List ℕ). (u ++ (46 ∷ 46 ∷ (decimal j ++ (93 ∷ [])))) ++ t) d.whole) d.other ns k at ∙ over_counts i j h t ns (λ v. k (from_to v)) at

over_occurrence : (i j : ℕ) → CountsFit i j → Passed occurrence (from i j)
unfolding rows
over_occurrence i j h t ns k at = over_counts i j h t ns (λ v. k (from_to v)) (at + 1 + 1) ∙ far t ns (k (from i j)) _ _ (omega arith)

over_bracket : (b : Bracket) → SmallB b → Passed bracket b
unfolding rows
over_bracket plus h t ns k at = far t ns (k plus) _ _ (omega arith)
over_bracket (starred c) h t ns k at = over_star c h t ns (λ v. k (starred v)) (at + 1) ∙ far t ns (k (starred c)) _ _ (omega arith)

-- nothing follows a formula that stands as a rule, unless "[" comes
abbrev pub Free : List ℕ → Type 0
Free [] = Unit {0}
Free (c ∷ t) = eqb c 91 ≡ false

pub over_none : (t : List ℕ) → Free t → (ns : List Need) (k : Counts → Rest ns) (at : ℕ) → scan t (occurrence ∷ ns) k at ≡ scan t ns (k uncounted) at
unfolding rows
over_none [] h ns k at = refl
over_none (c ∷ t) h ns k at = later (eqb c 91) _ _ h

over_empty : (t : List ℕ) (ns : List Need) (k : Rule → Rest ns) (at : ℕ) → scan (text empty ++ t) (rule ∷ ns) k at ≡ scan t ns (k empty) (at + length (text empty))
unfolding rows
over_empty t ns k at = far t ns (k empty) _ _ (omega arith)

abbrev PassedFree : Rule → Type 0
PassedFree r = (t : List ℕ) → Free t → (ns : List Need) (k : Rule → Rest ns) (at : ℕ) → scan (text r ++ t) (rule ∷ ns) k at ≡ scan t ns (k r) (at + length (text r))

module _ (b : Rule) (h : PassedFree b) where
  -- the rule and "}"
  over_closed : (A : Type 0) (f : Rule → A) (t : List ℕ) (ns : List Need) (k : A → Rest ns) (at : ℕ) → scan ((text b ++ (125 ∷ [])) ++ t) (rule ∷ sign 125 ∷ ns) (λ v u. k (f v)) at ≡ scan t ns (k (f b)) (at + length (text b ++ (125 ∷ [])))
  over_closed A f t ns k at =
      ap (λ (l : List ℕ). scan l (rule ∷ sign 125 ∷ ns) (λ v u. k (f v)) at) (append_assoc (text b) (125 ∷ []) t)
      ∙ h (125 ∷ t) refl (sign 125 ∷ ns) (λ v u. k (f v)) at
      ∙ over_sign 125 t ns (λ u. k (f b)) (at + length (text b))
      ∙ far t ns (k (f b)) _ _ (omega (arith, length-append (text b) (125 ∷ [])))

  over_within : Passed second (within b)
  over_within t ns k at =
      let i = begins b ((125 ∷ []) ++ t) in
      no_and _ i.char i.rest (append_assoc (text b) (125 ∷ []) t ∙ i.whole) i.other ns k at ∙ over_closed Second within t ns k at

  over_both : Passed second (both b)
  unfolding rows
  over_both t ns k at = over_closed Second both t ns k (at + 1) ∙ far t ns (k (both b)) _ _ (omega arith)

  over_pair : (p : Pair) → Passed tail (pair p b)
  unfolding rows
  over_pair Then t ns k at = over_closed Tail (pair Then) t ns k (at + 1) ∙ far t ns (k (pair Then b)) _ _ (omega arith)
  over_pair Overlap t ns k at = over_closed Tail (pair Overlap) t ns k (at + 1) ∙ far t ns (k (pair Overlap b)) _ _ (omega arith)
  over_pair Either t ns k at = over_closed Tail (pair Either) t ns k (at + 1) ∙ far t ns (k (pair Either b)) _ _ (omega arith)
  over_pair Within t ns k at = over_within t ns (λ v. k (seconded v)) (at + 1) ∙ far t ns (k (pair Within b)) _ _ (omega arith)
  over_pair Both t ns k at = over_both t ns (λ v. k (seconded v)) (at + 1) ∙ far t ns (k (pair Both b)) _ _ (omega arith)

over_repeated : (b : Bracket) → SmallB b → Passed tail (repeated b)
unfolding rows
over_repeated b h t ns k at = over_bracket b h t ns (λ v. k (repeated v)) (at + 1 + 1) ∙ far t ns (k (repeated b)) _ _ (omega arith)

-- "[" never follows a first operand
tail_free : (l : Tail) (t : List ℕ) → Free (tail_text l ++ t)
tail_free (pair Then b) t = refl
tail_free (pair Overlap b) t = refl
tail_free (pair Either b) t = refl
tail_free (pair Within b) t = refl
tail_free (pair Both b) t = refl
tail_free (repeated b) t = refl

over_brace : (a : Rule) → PassedFree a → (l : Tail) → Passed tail l → (t : List ℕ) (ns : List Need) (k : Rule → Rest ns) (at : ℕ) → scan (123 ∷ ((text a ++ tail_text l) ++ t)) (rule ∷ ns) k at ≡ scan t ns (k (closed a l)) (at + 1 + length (text a ++ tail_text l))
unfolding rows
over_brace a h l g t ns k at =
    rw (append_assoc (text a) (tail_text l) t)
    (h (tail_text l ++ t) (tail_free l t) (tail ∷ ns) (λ x y. k (closed x y)) (at + 1)
    ∙ g t ns (λ y. k (closed a y)) _
    ∙ far t ns (k (closed a l)) _ _ (omega (arith, length-append (text a) (tail_text l))))

pub over_rule : (r : Rule) → Small r → PassedFree r
over_rule (letter f) h t z ns k at = as_letter f t ns k at ∙ over_formula f h t (occurrence ∷ ns) (λ v c. k (standing v c)) at ∙ over_none t z ns (λ c. k (standing f c)) _
over_rule (occurs i j f) (c, h) t z ns k at =
    ap (λ (l : List ℕ). scan l (rule ∷ ns) k at) (append_assoc (formula_text f) (occurrence_text (from i j)) t)
    ∙ as_letter f (occurrence_text (from i j) ++ t) ns k at
    ∙ over_formula f h (occurrence_text (from i j) ++ t) (occurrence ∷ ns) (λ v c. k (standing v c)) at
    ∙ over_occurrence i j c t ns (λ c. k (standing f c)) _
    ∙ far t ns (k (occurs i j f)) _ _ (omega (arith, length-append (formula_text f) (occurrence_text (from i j))))
over_rule empty h t z ns k at = over_empty t ns k at
over_rule (again Star a) h t z ns k at = over_brace a (over_rule a h) (repeated (starred uncounted)) (over_repeated (starred uncounted) tt) t ns k at ∙ far t ns (k (again Star a)) _ _ (omega arith)
over_rule (again Plus a) h t z ns k at = over_brace a (over_rule a h) (repeated plus) (over_repeated plus tt) t ns k at ∙ far t ns (k (again Plus a)) _ _ (omega arith)
over_rule (counted i j a) (c, h) t z ns k at = over_brace a (over_rule a h) (repeated (starred (from i j))) (over_repeated (starred (from i j)) c) t ns k at ∙ far t ns (k (counted i j a)) _ _ (omega arith)
over_rule (two p a b) (u, v) t z ns k at = over_brace a (over_rule a u) (pair p b) (over_pair b (over_rule b v) p) t ns k at ∙ far t ns (k (two p a b)) _ _ (omega arith)

-- the text of a rule is read as it
pub text_is_read : (r : Rule) → Small r → parse (text r) ≡ good r
text_is_read r h = ap parse (sym (append-nil (text r))) ∙ over_rule r h [] tt [] (λ x. x) 0
