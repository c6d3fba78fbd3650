-- Every row of the table says what it should: its character and the texts of its needs are the text of what it makes. Assumes nothing.
use Prim.Native.Nat.{ℕ, ◌+◌, ◌-◌, ◌≤◌}
use native.Mathlib.Omega.{arith}
use mathlib.Core.Path.{◌≡◌, refl, sym, ap, ap₂, ◌∙◌}
use mathlib.Core.Bool.{Bool, true, false, cond, ◌&&◌}
use mathlib.Core.Option.{Option, none, some}
use mathlib.Core.List.{List, [], ◌∷◌, ◌++◌, append_assoc, append-nil}
use lib.Dec.{eqb, leb}
use borrow.Author.Tests.{leb-true}
use Rattle.definitions.specs.Definition1.{Formula, Rule}
use Rattle.definitions.specs.Encoding.{largest_count, SmallF, Small}
use Rattle.writing.specs.Decimal.{decimal}
use Rattle.grammar.specs.Text.{formula_text, text}
use Rattle.grammar.specs.inner.Reading.{Which, low, high, Digits, all, rest, Need, rule, formula, digit, junction, tail, second, bracket, star, occurrence, number, sign, Counts, uncounted, from, Bracket, plus, starred, Tail, pair, repeated, Second, within, both, Value, Values, fore, aft, Row, row, only, bracketed, closed, seconded, standing, formula_rows, rule_rows, as_rule, as_second, stop, others, more, near, digit_to, ended, number_rows, counts, as_star, rows, missing}
use Rattle.grammar.specs.inner.Values.{occurrence_text, bracket_text, tail_text, second_text, more_text, digits, text_n, texts, SmallC, SmallB, SmallT, SmallS, Begun, Near, SmallM, SmallN, Smalls}
use Rattle.grammar.proofs.Numbers.{one_digit, two_digits, others_of, begun_of, one_alone}

abbrev pub Right : (n : Need) → Row n → Type 0
Right n r = (vs : Values r.needs) → Smalls r.needs vs → (text_n n (r.made vs) ≡ r.char ∷ texts r.needs vs) × SmallN n (r.made vs)

abbrev pub Rights : (n : Need) → List (Row n) → Type 0
Rights n [] = Unit {0}
Rights n (r ∷ rs) = Right n r × Rights n rs

bracketed_text : (a : Rule) (b : Bracket) → text (bracketed b a) ≡ 123 ∷ (text a ++ tail_text (repeated b))
bracketed_text a plus = refl
bracketed_text a (starred uncounted) = refl
bracketed_text a (starred (from i j)) = refl

bracketed_small : (a : Rule) (b : Bracket) → Small a → SmallB b → Small (bracketed b a)
bracketed_small a plus u v = u
bracketed_small a (starred uncounted) u v = u
bracketed_small a (starred (from i j)) u v = (v, u)

closed_text : (a : Rule) (t : Tail) → text (closed a t) ≡ 123 ∷ (text a ++ tail_text t)
closed_text a (pair p b) = refl
closed_text a (repeated b) = bracketed_text a b

closed_small : (a : Rule) (t : Tail) → Small a → SmallT t → Small (closed a t)
closed_small a (pair p b) u v = (u, v)
closed_small a (repeated b) u v = bracketed_small a b u v

seconded_text : (s : Second) → tail_text (seconded s) ≡ 38 ∷ second_text s
seconded_text (within b) = refl
seconded_text (both b) = refl

seconded_small : (s : Second) → SmallS s → SmallT (seconded s)
seconded_small (within b) u = u
seconded_small (both b) u = u

pub standing_text : (f : Formula) (c : Counts) → text (standing f c) ≡ formula_text f ++ occurrence_text c
standing_text f uncounted = sym (append-nil (formula_text f))
standing_text f (from i j) = refl

pub standing_small : (f : Formula) (c : Counts) → SmallF f → SmallC c → Small (standing f c)
standing_small f uncounted u v = u
standing_small f (from i j) u v = (v, u)

-- the last of several needs has nothing after it
last : (c : ℕ) (s : List ℕ) → ◌≡◌ {A = List ℕ} (c ∷ s) (c ∷ (s ++ []))
last c s = ap (λ (t : List ℕ). c ∷ t) (sym (append-nil s))

last_two : (c : ℕ) (s t : List ℕ) → ◌≡◌ {A = List ℕ} (c ∷ (s ++ t)) (c ∷ (s ++ (t ++ [])))
last_two c s t = ap (λ (u : List ℕ). c ∷ (s ++ u)) (sym (append-nil t))

formula_rights : Rights formula formula_rows
formula_rights = (
  λ v s. (refl, s.0),
  (
    λ v s. (refl, tt),
    (
      λ v s. (refl, tt),
      (
        λ v s. (last 33 (formula_text v.0), s.0),
        (λ v s. (last_two 40 (formula_text v.0) (text_n junction v.1.0), (s.0, s.1.0)), tt),
      ),
    ),
  ),
)

-- needs in a row
pub both_texts : (ms ns : List Need) (vs : Values (ms ++ ns)) → texts (ms ++ ns) vs ≡ texts ms (fore ms ns vs) ++ texts ns (aft ms ns vs)
both_texts [] ns vs = refl
both_texts (m ∷ ms) ns vs = ap (λ (t : List ℕ). text_n m vs.0 ++ t) (both_texts ms ns vs.1) ∙ sym (append_assoc (text_n m vs.0) (texts ms (fore ms ns vs.1)) (texts ns (aft ms ns vs.1)))

pub fore_small : (ms ns : List Need) (vs : Values (ms ++ ns)) → Smalls (ms ++ ns) vs → Smalls ms (fore ms ns vs)
fore_small [] ns vs s = tt
fore_small (m ∷ ms) ns vs s = (s.0, fore_small ms ns vs.1 s.1)

pub aft_small : (ms ns : List Need) (vs : Values (ms ++ ns)) → Smalls (ms ++ ns) vs → Smalls ns (aft ms ns vs)
aft_small [] ns vs s = s
aft_small (m ∷ ms) ns vs s = aft_small ms ns vs.1 s.1

-- one need more at the end of a row's
module _ (n m : Need) (r : Row n) (h : Right n r) (vs : Values (r.needs ++ (m ∷ []))) (s : Smalls (r.needs ++ (m ∷ [])) vs) where
  abbrev first : Values r.needs
  first = fore r.needs (m ∷ []) vs

  abbrev then : Value m
  then = (aft r.needs (m ∷ []) vs).0

  with_last : text_n n (r.made first) ++ text_n m then ≡ r.char ∷ texts (r.needs ++ (m ∷ [])) vs
  with_last =
      let o = h first (fore_small r.needs (m ∷ []) vs s) in
      ap (λ (t : List ℕ). t ++ text_n m then) o.0
      ∙ ap (λ (t : List ℕ). r.char ∷ (texts r.needs first ++ t)) (sym (append-nil (text_n m then)))
      ∙ ap (λ (t : List ℕ). r.char ∷ t) (sym (both_texts r.needs (m ∷ []) vs))

  first_small : SmallN n (r.made first)
  first_small = (h first (fore_small r.needs (m ∷ []) vs s)).1

  then_small : SmallN m then
  then_small = (aft_small r.needs (m ∷ []) vs s).0

as_rule_lem : (rs : List (Row formula)) → Rights formula rs → Rights rule (as_rule rs)
as_rule_lem [] h = tt
as_rule_lem (r ∷ rs) (h, hs) = (
  λ v s. (
    standing_text (r.made (first formula occurrence r h v s)) (then formula occurrence r h v s) ∙ with_last formula occurrence r h v s,
    standing_small (r.made (first formula occurrence r h v s)) (then formula occurrence r h v s) (first_small formula occurrence r h v s) (then_small formula occurrence r h v s),
  ),
  as_rule_lem rs hs,
)

rule_rights : Rights rule rule_rows
rule_rights = (
  λ v s. (refl, tt),
  (
    λ v s. (closed_text v.0 v.1.0 ∙ last_two 123 (text v.0) (tail_text v.1.0), closed_small v.0 v.1.0 s.0 s.1.0),
    as_rule_lem formula_rows formula_rights,
  ),
)

as_second_lem : (rs : List (Row rule)) → Rights rule rs → Rights second (as_second rs)
as_second_lem [] h = tt
as_second_lem (r ∷ rs) (h, hs) = (λ v s. (with_last rule (sign 125) r h v s, first_small rule (sign 125) r h v s), as_second_lem rs hs)

-- counts
pub both_true : (a b : Bool) → (a && b) ≡ true → (a ≡ true) × (b ≡ true)
both_true true b q = (refl, q)
both_true false b q = (q, cc)

pub more_text_lem : (w : Which) (v : ℕ) (x : Values (others w v)) → more_text w (more w v x) ≡ stop w ∷ texts (others w v) x
more_text_lem low v x = ap (λ (t : List ℕ). 46 ∷ 46 ∷ t) (sym (append-nil (decimal x.1.0.0 ++ (93 ∷ []))))
more_text_lem high v x = refl

pub more_small : (w : Which) (v : ℕ) (x : Values (others w v)) → v ≤ largest_count → Smalls (others w v) x → SmallM w v (more w v x)
more_small low v x l s = let i = s.1.0.1 in let a = i.close in let b = i.small in record { rising = omega arith; small = b }
more_small high v x l s = tt

pub ended_right : (d : Digits) (w : Which) (m c v : ℕ) → digits d v ≡ c ∷ [] → Begun d v → Near m v → Right (number d w m) (ended w m c v)
ended_right d w m c v q b n x s = (
  ap₂ (λ (t u : List ℕ). t ++ u) q (more_text_lem w v x.1),
  (b, n, more_small w v x.1 n.small s.1),
)

stop_right : (w : Which) (m : ℕ) → Near m 1 → Right (number rest w m) (row (stop w) (others w 1) (λ x. (1, more w 1 x)))
stop_right w m n x s = (
  ap (λ (t : List ℕ). t ++ more_text w (more w 1 x)) (others_of 1 [] one_alone) ∙ more_text_lem w 1 x,
  (begun_of 1 [] one_alone, n, more_small w 1 x n.small s),
)

one_right : (w : Which) (m : ℕ) → Right (number all w m) (row 49 (number rest w m ∷ []) (λ x. x.0))
one_right w m x s = (
  ap (λ (t : List ℕ). t ++ more_text w x.0.1) s.0.0 ∙ last 49 (digits rest x.0.0 ++ more_text w x.0.1),
  (tt, s.0.1, s.0.2),
)

-- rows by a test
if_rights : (n : Need) (b : Bool) (rs qs : List (Row n)) → (b ≡ true → Rights n rs) → Rights n qs → Rights n (cond b rs qs)
if_rights n true rs qs f g = f refl
if_rights n false rs qs f g = g

only_right : (n : Need) (b : Bool) (r : Row n) → (b ≡ true → Right n r) → Rights n (only b r)
only_right n b r f = if_rights n b (r ∷ []) [] (λ q. (f q, tt)) tt

-- what the tests say
pub near_true : (m v : ℕ) → near m v ≡ true → v ≤ largest_count → Near m v
near_true m v q l = record { close = leb-true largest_count (v + m) q; small = l }

pub digit_true : (last c : ℕ) → digit_to last c ≡ true → (48 ≤ c) × (c ≤ last)
digit_true last c q = let i = both_true (leb 48 c) (leb c last) q in (leb-true 48 c i.0, leb-true c last i.1)

number_rights : (d : Digits) (w : Which) (m c : ℕ) → Rights (number d w m) (number_rows d w m c)
number_rights all w m c =
    if_rights (number all w m) (eqb c 49) (row 49 (number rest w m ∷ []) (λ x. x.0) ∷ []) (only (digit_to 57 c && near m (c - 48)) (ended w m c (c - 48))) (λ q. (one_right w m, tt))
    (only_right (number all w m) (digit_to 57 c && near m (c - 48)) (ended w m c (c - 48))
    (λ q.
    let i = both_true (digit_to 57 c) (near m (c - 48)) q in
    let j = digit_true 57 c i.0 in
    ended_right all w m c (c - 48) (one_digit c (c - 48) (omega arith) (omega arith)) tt (near_true m (c - 48) i.1 (omega arith))))
number_rights rest w m c =
    if_rights (number rest w m) (digit_to 53 c) (only (near m (10 + (c - 48))) (ended w m c (10 + (c - 48)))) (only (near m 1) (row (stop w) (others w 1) (λ x. (1, more w 1 x))))
    (λ q.
    let j = digit_true 53 c q in
    let e = two_digits c (10 + (c - 48)) (omega arith) (omega arith) (omega arith) in
    only_right (number rest w m) (near m (10 + (c - 48))) (ended w m c (10 + (c - 48))) (λ z. ended_right rest w m c (10 + (c - 48)) (others_of _ _ e) (begun_of _ _ e) (near_true m (10 + (c - 48)) z (omega arith))))
    (only_right (number rest w m) (near m 1) (row (stop w) (others w 1) (λ x. (1, more w 1 x))) (λ z. stop_right w m (near_true m 1 z (omega arith))))

as_star_lem : (rs : List (Row counts)) → Rights counts rs → Rights star (as_star rs)
as_star_lem [] h = tt
as_star_lem (r ∷ rs) (h, hs) = (λ v s. let o = h v s in (o.0, o.1.2), as_star_lem rs hs)

pub rights : (n : Need) (c : ℕ) → Rights n (rows n c)
unfolding rows
rights rule c = rule_rights
rights formula c = formula_rights
rights digit c = (λ v s. (refl, omega arith), (λ v s. (refl, omega arith), (λ v s. (refl, omega arith), (λ v s. (refl, omega arith), (λ v s. (refl, omega arith), (λ v s. (refl, omega arith), tt))))))
rights junction c = (λ v s. (refl, s.0), (λ v s. (refl, s.0), tt))
rights tail c = (
  λ v s. (refl, s.0),
  (
    λ v s. (refl, s.0),
    (
      λ v s. (refl, s.0),
      (
        λ v s. (seconded_text v.0 ∙ last 38 (second_text v.0), seconded_small v.0 s.0),
        (λ v s. (last_two 125 (91 ∷ []) (bracket_text v.1.0), s.1.0), tt),
      ),
    ),
  ),
)
rights second c = (λ v s. (refl, s.0), as_second_lem rule_rows rule_rights)
rights bracket c = (λ v s. (last 42 (text_n star v.0), s.0), (λ v s. (refl, tt), tt))
rights star c = (λ v s. (refl, tt), as_star_lem (number_rows all low largest_count c) (number_rights all low largest_count c))
rights occurrence c = (λ v s. (last_two 91 (61 ∷ []) (text_n counts v.1.0), s.1.0.2), tt)
rights (number d w m) c = number_rights d w m c
rights (sign s) c = (λ v s. (refl, tt), tt)

-- a need that is passed over takes no character
abbrev pub MissingRight : (n : Need) → Option (Value n) → Type 0
MissingRight n none = Unit {0}
MissingRight n (some v) = (text_n n v ≡ []) × SmallN n v

pub missing_right : (n : Need) → MissingRight n (missing n)
missing_right rule = tt
missing_right formula = tt
missing_right digit = tt
missing_right junction = tt
missing_right tail = tt
missing_right second = tt
missing_right bracket = tt
missing_right star = tt
missing_right occurrence = (refl, tt)
missing_right (number d w m) = tt
missing_right (sign c) = tt
