-- What the readers promise of a place of the text: a character that stands there, what was taken from there on, or the place of the first fault.
-- Assumes nothing: these are definitions.
use Rattle.std.specs.Prelude.{ℕ, ◌+◌, ◌-◌, ◌<◌, ◌≤◌, ◌≡◌, List, [], ◌∷◌, ◌++◌, length, get_or, drop, Option, Some, None, Result, Ok, Err}
use Rattle.definitions.specs.declared.kinds.Junction.{Junction}
use Rattle.definitions.specs.declared.kinds.Pair.{Pair}
use Rattle.definitions.specs.Encoding.{largest_count}
use Rattle.grammar.specs.declared.words.Fault.{Fault}
use Rattle.grammar.specs.declared.counts.Number.{Number}
use Rattle.grammar.specs.declared.counts.Counted.{Counted}
use Rattle.grammar.specs.declared.signs.Headed.{Headed}
use Rattle.grammar.specs.declared.signs.Sign.{Sign}
use Rattle.grammar.specs.declared.signs.Sign.TheVariants as signed
use Rattle.grammar.specs.Text.{junction_char, pair_sign}
use Rattle.grammar.specs.inner.Reading.{Which, high, Digits, all, Need, rule, junction, tail, bracket, star, occurrence, number, sign, starred, Tail, pair, Values, Rest, stop, others, more, counts, feed, given, broken, scan}
use Rattle.grammar.specs.inner.Values.{digits, texts, Begun, Near, Smalls}
use Rattle.grammar.specs.inner.Wide.{head_bytes, bracket_head, standing_head}

-- the character stands at the place
pub record At (s : List ℕ) (at c : ℕ) : Type 0 where
  pub inside : at < length s
  pub char : get_or s at 0 ≡ c

-- reading on from `at` with these needs first meets a fault at p, whatever is needed after them
abbrev pub Fails : List ℕ → ℕ → List Need → ℕ → Type 0
Fails s at ns p = (ms : List Need) (k : Rest (ns ++ ms)) → scan (drop at s) (ns ++ ms) k at ≡ broken p

-- the part stands from `at` up to, not including, `end`
pub record Part (s : List ℕ) (at : ℕ) (part : List ℕ) (end : ℕ) : Type 0 where
  pub chars : drop at s ≡ part ++ drop end s
  pub ends : end ≡ at + length part
  pub inside : end ≤ length s

-- from `at` up to `end` stand the values of the needs, and reading goes over them
pub record Passes (s : List ℕ) (at : ℕ) (ns : List Need) (vs : Values ns) (end : ℕ) : Type 0 where
  pub small : Smalls ns vs
  pub part : Part s at (texts ns vs) end
  pub over : (ms : List Need) (k : Rest (ns ++ ms)) → scan (drop at s) (ns ++ ms) k at ≡ scan (drop end s) ms (given ns ms k vs) end

-- the very characters of a word are needed
abbrev pub signs : List ℕ → List Need
signs [] = []
signs (c ∷ w) = sign c ∷ signs w

abbrev pub WordEnds : List ℕ → ℕ → List ℕ → Result ℕ Fault → Type 0
WordEnds s at w (Ok e) = Part s at w e
WordEnds s at w (Err f) = Fails s at (signs w) f.place

-- the digit, at most `last`, that stands at `at`
pub data DigitAt (s : List ℕ) (at last : ℕ) (r : Option ℕ) : Type 0 where
  a_digit : (d : ℕ) → r ≡ Some d → d ≤ last → At s at (48 + d) → DigitAt s at last r
  no_digit : r ≡ None → ((c : ℕ) → 48 ≤ c → c ≤ 48 + last → At s at c → ⊥) → DigitAt s at last r

-- digits of the count v, no less than `least`, stand from `at` up to `end`: what follows the count is needed there
pub record IsNumber (s : List ℕ) (at : ℕ) (d : Digits) (least v end : ℕ) : Type 0 where
  pub begun : Begun d v
  pub fits : Near (largest_count - least) v
  pub part : Part s at (digits d v) end
  pub on : (w : Which) (ns : List Need) (k : Rest (number d w (largest_count - least) ∷ ns)) → scan (drop at s) (number d w (largest_count - least) ∷ ns) k at ≡ scan (drop end s) (sign (stop w) ∷ (others w v ++ ns)) (λ u. feed (number d w (largest_count - least)) (others w v) ns (λ x. (v, more w v x)) k) end

pub data NumberAt (s : List ℕ) (at : ℕ) (d : Digits) (least : ℕ) (r : Result Number Fault) : Type 0 where
  is : (n : Number) → r ≡ Ok n → IsNumber s at d least n.value n.end → NumberAt s at d least r
  no_number : (f : Fault) → r ≡ Err f → ((w : Which) → Fails s at (number d w (largest_count - least) ∷ []) f.place) → NumberAt s at d least r

-- the second count, after the first, and what closes it
pub data HighAt (s : List ℕ) (at i : ℕ) (r : Result Counted Fault) : Type 0 where
  is_high : (c : Counted) → r ≡ Ok c → c.low ≡ i → Passes s at (number all high (largest_count - i) ∷ []) ((c.high, tt), tt) c.end → HighAt s at i r
  not_high : (f : Fault) → r ≡ Err f → Fails s at (number all high (largest_count - i) ∷ []) f.place → HighAt s at i r

-- the counts that stand at `at`, with all that follows them
pub data CountedAt (s : List ℕ) (at : ℕ) (r : Result Counted Fault) : Type 0 where
  are : (c : Counted) → r ≡ Ok c → Passes s at (counts ∷ []) ((c.low, c.high), tt) c.end → CountedAt s at r
  no_counts : (f : Fault) → r ≡ Err f → Fails s at (counts ∷ []) f.place → CountedAt s at r

-- the head that values of the needs ask for
pub data HeadedAt (s : List ℕ) (at : ℕ) (ns : List Need) (head : Values ns → List ℕ) (r : Result Headed Fault) : Type 0 where
  by : (h : Headed) → r ≡ Ok h → (vs : Values ns) → Passes s at ns vs h.end → head_bytes h.head ≡ head vs → HeadedAt s at ns head r
  unheaded : (f : Fault) → r ≡ Err f → Fails s at ns f.place → HeadedAt s at ns head r

-- what follows "[*"
abbrev pub StarAt : List ℕ → ℕ → Result Headed Fault → Type 0
StarAt s at r = HeadedAt s at (star ∷ []) (λ v. bracket_head (starred v.0)) r

-- what follows "}"
abbrev pub BracketAt : List ℕ → ℕ → Result Headed Fault → Type 0
BracketAt s at r = HeadedAt s at (sign 91 ∷ bracket ∷ []) (λ v. bracket_head v.1.0) r

-- what may follow a formula that stands as a rule
abbrev pub OccurrenceAt : List ℕ → ℕ → Result Headed Fault → Type 0
OccurrenceAt s at r = HeadedAt s at (occurrence ∷ []) (λ v. standing_head v.0) r

-- the junction that stands at `at`
pub data JunctionAt (s : List ℕ) (at : ℕ) (r : Option Junction) : Type 0 where
  joins : (j : Junction) → r ≡ Some j → At s at (junction_char j) → JunctionAt s at r
  no_junction : r ≡ None → Fails s at (junction ∷ []) at → JunctionAt s at r

-- an operator stands at `at`: its second operand is needed from `end` on
pub record Operator (s : List ℕ) (at : ℕ) (p : Pair) (end : ℕ) : Type 0 where
  pub part : Part s at (pair_sign p) end
  pub on : (ns : List Need) (k : Tail → Rest ns) → scan (drop at s) (tail ∷ ns) k at ≡ scan (drop end s) (rule ∷ sign 125 ∷ ns) (λ b u. k (pair p b)) end

-- what follows the first operand of "{": an operator, a repetition, or a fault
pub data SignAt (s : List ℕ) (at : ℕ) (r : Result Sign Fault) : Type 0 where
  operator : (p : Pair) (end : ℕ) → r ≡ Ok (signed.Operator p end) → Operator s at p end → SignAt s at r
  repetition : (h : Headed) → r ≡ Ok (signed.Repetition h) → At s at 125 → BracketAt s (at + 1) (Ok h) → SignAt s at r
  no_sign : (f : Fault) → r ≡ Err f → Fails s at (tail ∷ []) f.place → SignAt s at r
