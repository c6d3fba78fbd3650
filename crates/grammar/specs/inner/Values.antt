-- The text of each value that reading may need. Assumes nothing: these are definitions.
use Rattle.std.specs.Prelude.{ℕ, ◌+◌, ◌≤◌, ◌≡◌, List, [], ◌∷◌, ◌++◌, drop}
use Rattle.definitions.specs.Definition2.{last_proposition}
use Rattle.definitions.specs.Encoding.{largest_count, CountsFit, SmallF, Small}
use Rattle.writing.specs.Decimal.{decimal}
use Rattle.grammar.specs.Text.{digit_char, junction_char, pair_sign, counts_text, formula_text, text}
use Rattle.grammar.specs.inner.Reading.{Which, low, high, Digits, all, rest, Need, rule, formula, digit, junction, tail, second, bracket, star, occurrence, number, sign, Counts, uncounted, from, Bracket, plus, starred, Tail, pair, repeated, Second, within, both, More, Value, Values}

abbrev pub star_text : Counts → List ℕ
star_text uncounted = 93 ∷ []
star_text (from i j) = counts_text i j

abbrev pub occurrence_text : Counts → List ℕ
occurrence_text uncounted = []
occurrence_text (from i j) = 91 ∷ 61 ∷ counts_text i j

abbrev pub bracket_text : Bracket → List ℕ
bracket_text plus = 43 ∷ 93 ∷ []
bracket_text (starred c) = 42 ∷ star_text c

abbrev pub tail_text : Tail → List ℕ
tail_text (pair p b) = pair_sign p ++ (text b ++ (125 ∷ []))
tail_text (repeated b) = 125 ∷ 91 ∷ bracket_text b

abbrev pub second_text : Second → List ℕ
second_text (within b) = text b ++ (125 ∷ [])
second_text (both b) = 38 ∷ (text b ++ (125 ∷ []))

-- what stands after a count
abbrev pub more_text : (w : Which) → More w → List ℕ
more_text low j = 46 ∷ 46 ∷ (decimal j ++ (93 ∷ []))
more_text high u = 93 ∷ []

abbrev pub digits : Digits → ℕ → List ℕ
digits all v = decimal v
digits rest v = drop 1 (decimal v)

abbrev pub text_n : (n : Need) → Value n → List ℕ
text_n rule r = text r
text_n formula f = formula_text f
text_n digit i = digit_char i ∷ []
text_n junction v = junction_char v.0 ∷ (formula_text v.1 ++ (41 ∷ []))
text_n tail t = tail_text t
text_n second s = second_text s
text_n bracket b = bracket_text b
text_n star c = star_text c
text_n occurrence c = occurrence_text c
text_n (number d w m) v = digits d v.0 ++ more_text w v.1
text_n (sign c) v = c ∷ []

abbrev pub SmallC : Counts → Type 0
SmallC uncounted = Unit {0}
SmallC (from i j) = CountsFit i j

abbrev pub SmallB : Bracket → Type 0
SmallB plus = Unit {0}
SmallB (starred c) = SmallC c

abbrev pub SmallT : Tail → Type 0
SmallT (pair p b) = Small b
SmallT (repeated b) = SmallB b

abbrev pub SmallS : Second → Type 0
SmallS (within b) = Small b
SmallS (both b) = Small b

-- the first digit is the one that the digits follow
abbrev pub Begun : Digits → ℕ → Type 0
Begun all v = Unit {0}
Begun rest v = decimal v ≡ 49 ∷ drop 1 (decimal v)

-- a count that is at most m below the largest
pub record Near (m v : ℕ) : Type 0 where
  pub close : largest_count ≤ v + m
  pub small : v ≤ largest_count

abbrev pub SmallM : (w : Which) → ℕ → More w → Type 0
SmallM low v j = CountsFit v j
SmallM high v u = Unit {0}

abbrev pub SmallN : (n : Need) → Value n → Type 0
SmallN rule r = Small r
SmallN formula f = SmallF f
SmallN digit i = i ≤ last_proposition
SmallN junction v = SmallF v.1
SmallN tail t = SmallT t
SmallN second s = SmallS s
SmallN bracket b = SmallB b
SmallN star c = SmallC c
SmallN occurrence c = SmallC c
SmallN (number d w m) v = Begun d v.0 × Near m v.0 × SmallM w v.0 v.1
SmallN (sign c) v = Unit {0}

abbrev pub texts : (ns : List Need) → Values ns → List ℕ
texts [] vs = []
texts (n ∷ ns) vs = text_n n vs.0 ++ texts ns vs.1

abbrev pub Smalls : (ns : List Need) → Values ns → Type 0
Smalls [] vs = Unit {0}
Smalls (n ∷ ns) vs = SmallN n vs.0 × Smalls ns vs.1
