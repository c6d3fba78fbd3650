-- Reading a count: by a digit, by a "1" and what follows it, and where no count can have the character. Assumes nothing.
use Prim.Native.Nat.{ℕ, ◌+◌, ◌-◌, ◌≤◌, ◌<◌}
use native.Mathlib.Omega.{arith}
use mathlib.Core.Path.{◌≡◌, refl, sym, ap, ap₂, subst, ◌∙◌}
use mathlib.Core.Bool.{Bool, true, false, cond, ◌&&◌}
use mathlib.Core.List.{List, [], ◌∷◌, ◌++◌}
use lib.Dec.{leb}
use borrow.Author.Tests.{le-leb, lt-leb, eq-eqb, ne_eqb}
use Rattle.definitions.specs.Encoding.{largest_count}
use Rattle.grammar.specs.inner.Reading.{Which, Digits, all, rest, Need, number, sign, Value, Rest, Row, row, only, stop, others, more, near, digit_to, ended, number_rows, rows, broken, feed, pick, scan}
use Rattle.grammar.proofs.Picking.{Closes, Opens, at_once}

-- the tests
near_yes : (m v : ℕ) → largest_count ≤ v + m → near m v ≡ true
near_yes m v h = le-leb largest_count (v + m) h

near_no : (m v : ℕ) → v + m < largest_count → near m v ≡ false
near_no m v h = lt-leb largest_count (v + m) h

and_no : (a b : Bool) → b ≡ false → (a && b) ≡ false
and_no true b q = q
and_no false b q = refl

pub digit_yes : (last c : ℕ) → 48 ≤ c → c ≤ last → digit_to last c ≡ true
digit_yes last c h l = ap₂ (λ (a b : Bool). a && b) (le-leb 48 c h) (le-leb c last l)

pub digit_below : (last c : ℕ) → c < 48 → digit_to last c ≡ false
digit_below last c h = ap (λ (a : Bool). a && leb c last) (lt-leb 48 c h)

pub digit_past : (last c : ℕ) → last < c → digit_to last c ≡ false
digit_past last c h = and_no (leb 48 c) (leb c last) (lt-leb c last h)

-- which rows there are, by the tests
module _ (w : Which) (m c : ℕ) where
  abbrev by_first : Bool → Bool → ℕ → List (Row (number all w m))
  by_first a b v = cond a (row 49 (number rest w m ∷ []) (λ x. x.0) ∷ []) (only b (ended w m c v))

  abbrev by_second : Bool → Bool → Bool → ℕ → List (Row (number rest w m))
  by_second a b d v = cond a (only b (ended w m c v)) (only d (row (stop w) (others w 1) (λ x. (1, more w 1 x))))

  digit_rows : (v : ℕ) → c ≡ 48 + v → v ≤ 9 → (v ≡ 1 → ⊥) → largest_count ≤ v + m → number_rows all w m c ≡ ended w m c v ∷ []
  digit_rows v q l n h =
      let e : c - 48 ≡ v = omega arith in
      ap (λ (a : Bool). by_first a (digit_to 57 c && near m (c - 48)) (c - 48)) (ne_eqb c 49 (λ z. n (omega arith)))
      ∙ ap (by_first false (digit_to 57 c && near m (c - 48))) e
      ∙ ap (λ (u : ℕ). by_first false (digit_to 57 c && near m u) v) e
      ∙ ap₂ (λ (a b : Bool). by_first false (a && b) v) (digit_yes 57 c (omega arith) (omega arith)) (near_yes m v h)

  few_rows : (v : ℕ) → c ≡ 48 + v → (v ≡ 1 → ⊥) → v + m < largest_count → number_rows all w m c ≡ []
  few_rows v q n h =
      ap₂ (λ (a b : Bool). by_first a b (c - 48)) (ne_eqb c 49 (λ z. n (omega arith))) (and_no (digit_to 57 c) (near m (c - 48)) (near_no m (c - 48) (omega arith)))

  other_rows : digit_to 57 c ≡ false → (c ≡ 49 → ⊥) → number_rows all w m c ≡ []
  other_rows q n = ap₂ (λ (a b : Bool). by_first a (b && near m (c - 48)) (c - 48)) (ne_eqb c 49 n) q

  teen_rows : (v : ℕ) → c + 10 ≡ 48 + v → 10 ≤ v → v ≤ 15 → largest_count ≤ v + m → number_rows rest w m c ≡ ended w m c v ∷ []
  teen_rows v q h l n =
      let e : 10 + (c - 48) ≡ v = omega arith in
      ap (by_second (digit_to 53 c) (near m (10 + (c - 48))) (near m 1)) e
      ∙ ap (λ (u : ℕ). by_second (digit_to 53 c) (near m u) (near m 1) v) e
      ∙ ap₂ (λ (a b : Bool). by_second a b (near m 1) v) (digit_yes 53 c (omega arith) (omega arith)) (near_yes m v n)

  no_teen_rows : (v : ℕ) → c + 10 ≡ 48 + v → 10 ≤ v → v ≤ 15 → v + m < largest_count → number_rows rest w m c ≡ []
  no_teen_rows v q h l n = ap₂ (λ (a b : Bool). by_second a b (near m 1) (10 + (c - 48))) (digit_yes 53 c (omega arith) (omega arith)) (near_no m (10 + (c - 48)) (omega arith))

  alone_rows : digit_to 53 c ≡ false → largest_count ≤ 1 + m → number_rows rest w m c ≡ row (stop w) (others w 1) (λ x. (1, more w 1 x)) ∷ []
  alone_rows q h = ap₂ (λ (a d : Bool). by_second a (near m (10 + (c - 48))) d (10 + (c - 48))) q (near_yes m 1 h)

  no_rows : digit_to 53 c ≡ false → 1 + m < largest_count → number_rows rest w m c ≡ []
  no_rows q h = ap₂ (λ (a d : Bool). by_second a (near m (10 + (c - 48))) d (10 + (c - 48))) q (near_no m 1 h)

-- the one row, or none
one_row : (n : Need) (rs : List (Row n)) (c : ℕ) (r : Row n) → rs ≡ r ∷ [] → c ≡ r.char → Opens n rs c r
one_row n rs c r q e = subst (λ (l : List (Row n)). Opens n l c r) (sym q) (λ on ns k at other. at_once _ _ _ (eq-eqb c r.char e))

no_row : (n : Need) (rs : List (Row n)) (c : ℕ) → rs ≡ [] → Closes n rs c
no_row n rs c q = subst (λ (l : List (Row n)). Closes n l c) (sym q) (λ on ns k at other. refl)

-- what is made once v is followed by what must follow it
abbrev pub followed : (d : Digits) (w : Which) (m v : ℕ) (ns : List Need) → (Value (number d w m) → Rest ns) → Rest (sign (stop w) ∷ (others w v ++ ns))
followed d w m v ns k = λ u. feed (number d w m) (others w v) ns (λ x. (v, more w v x)) k

module _ (w : Which) (m c : ℕ) (t : List ℕ) (ns : List Need) where
  pub by_digit : (v : ℕ) → c ≡ 48 + v → v ≤ 9 → (v ≡ 1 → ⊥) → largest_count ≤ v + m → (k : Value (number all w m) → Rest ns) (at : ℕ) → scan (c ∷ t) (number all w m ∷ ns) k at ≡ scan t (sign (stop w) ∷ (others w v ++ ns)) (followed all w m v ns k) (at + 1)
  unfolding rows
  by_digit v q l n h k at = one_row (number all w m) (number_rows all w m c) c (ended w m c v) (digit_rows w m c v q l n h) refl (scan t) ns k at (broken at)

  pub digit_low : (v : ℕ) → c ≡ 48 + v → (v ≡ 1 → ⊥) → v + m < largest_count → (k : Value (number all w m) → Rest ns) (at : ℕ) → scan (c ∷ t) (number all w m ∷ ns) k at ≡ broken at
  unfolding rows
  digit_low v q n h k at = no_row (number all w m) (number_rows all w m c) c (few_rows w m c v q n h) (scan t) ns k at (broken at)

  pub not_a_digit : digit_to 57 c ≡ false → (c ≡ 49 → ⊥) → (k : Value (number all w m) → Rest ns) (at : ℕ) → scan (c ∷ t) (number all w m ∷ ns) k at ≡ broken at
  unfolding rows
  not_a_digit q n k at = no_row (number all w m) (number_rows all w m c) c (other_rows w m c q n) (scan t) ns k at (broken at)

  pub by_one : (k : Value (number all w m) → Rest ns) (at : ℕ) → scan (49 ∷ t) (number all w m ∷ ns) k at ≡ scan t (number rest w m ∷ ns) k (at + 1)
  unfolding rows
  by_one k at = refl

  pub by_teen : (v : ℕ) → c + 10 ≡ 48 + v → 10 ≤ v → v ≤ 15 → largest_count ≤ v + m → (k : Value (number rest w m) → Rest ns) (at : ℕ) → scan (c ∷ t) (number rest w m ∷ ns) k at ≡ scan t (sign (stop w) ∷ (others w v ++ ns)) (followed rest w m v ns k) (at + 1)
  unfolding rows
  by_teen v q h l n k at = one_row (number rest w m) (number_rows rest w m c) c (ended w m c v) (teen_rows w m c v q h l n) refl (scan t) ns k at (broken at)

  pub teen_low : (v : ℕ) → c + 10 ≡ 48 + v → 10 ≤ v → v ≤ 15 → v + m < largest_count → (k : Value (number rest w m) → Rest ns) (at : ℕ) → scan (c ∷ t) (number rest w m ∷ ns) k at ≡ broken at
  unfolding rows
  teen_low v q h l n k at = no_row (number rest w m) (number_rows rest w m c) c (no_teen_rows w m c v q h l n) (scan t) ns k at (broken at)

-- the characters do not go on with a second digit
abbrev pub Stops : List ℕ → Type 0
Stops [] = Unit {0}
Stops (c ∷ t) = digit_to 53 c ≡ false

module _ (w : Which) (m : ℕ) (ns : List Need) (k : Value (number rest w m) → Rest ns) (at : ℕ) where
  pub one_stands : (t : List ℕ) → Stops t → largest_count ≤ 1 + m → scan t (number rest w m ∷ ns) k at ≡ scan t (sign (stop w) ∷ (others w 1 ++ ns)) (followed rest w m 1 ns k) at
  unfolding rows
  one_stands [] q h = refl
  one_stands (c ∷ t) q h = ap (λ (l : List (Row (number rest w m))). pick (number rest w m) l c (scan t) ns k at (broken at)) (alone_rows w m c q h)

  pub one_low : (t : List ℕ) → Stops t → 1 + m < largest_count → scan t (number rest w m ∷ ns) k at ≡ broken at
  unfolding rows
  one_low [] q h = refl
  one_low (c ∷ t) q h = no_row (number rest w m) (number_rows rest w m c) c (no_rows w m c q h) (scan t) ns k at (broken at)
