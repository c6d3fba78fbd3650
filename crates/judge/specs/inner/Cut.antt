-- Definition 2 for one part, from i to e, over the answers a and b of the operands: a line for each operator. Assumes nothing: these are definitions.
use Rattle.std.specs.Prelude.{ℕ, ◌+◌, ◌-◌, ◌≤◌, ◌<◌, ◌≡◌, ◌⊎◌, true, List, length, get_or}
use Rattle.bits.specs.Word.{many}
use Rattle.definitions.specs.declared.counts.Counts.{Counts}
use Rattle.definitions.specs.declared.kinds.Pair.{Pair}
use Rattle.definitions.specs.declared.kinds.Pair.TheVariants.{Then, Overlap, Either, Within, Both}
use Rattle.definitions.specs.Definition1.{Formula}
use Rattle.definitions.specs.Definition2.{holds}
use Rattle.judge.specs.Parts.{yes, Filled}

-- the part is the one letter of w at i, and f holds in it
pub record LetterAt (f : Formula) (w : List ℕ) (i e : ℕ) : Type 0 where
  pub one : e ≡ i + 1
  pub inside : i < length w
  pub fits : holds f (get_or w i 0) ≡ true

-- `;`: a accepts what stands before some cut, and b what stands after it
pub record ThenAt (a b : List ℕ) (i e : ℕ) : Type 0 where
  pub cut : ℕ
  pub from : i ≤ cut
  pub to : cut ≤ e
  pub first : yes a i cut ≡ true
  pub second : yes b cut e ≡ true

-- `:`: a accepts what goes up to some letter, and b what goes on from it, that letter included in both
pub record OverlapAt (a b : List ℕ) (i e : ℕ) : Type 0 where
  pub shared : ℕ
  pub from : i ≤ shared
  pub to : shared < e
  pub first : yes a i (shared + 1) ≡ true
  pub second : yes b shared e ≡ true

-- a accepts some beginning of the part
pub record BeginsAt (a : List ℕ) (i e : ℕ) : Type 0 where
  pub cut : ℕ
  pub from : i ≤ cut
  pub to : cut ≤ e
  pub first : yes a i cut ≡ true

-- a accepts the part and b some beginning of it
pub record WithinAt (a b : List ℕ) (i e : ℕ) : Type 0 where
  pub all : yes a i e ≡ true
  pub begins : BeginsAt b i e

-- what a pair of operands gives
abbrev pub PairAt : Pair → List ℕ → List ℕ → ℕ → ℕ → Type 0
PairAt Then a b i e = ThenAt a b i e
PairAt Overlap a b i e = OverlapAt a b i e
PairAt Either a b i e = (yes a i e ≡ true) ⊎ (yes b i e ≡ true)
PairAt Within a b i e = WithinAt a b i e ⊎ WithinAt b a i e
PairAt Both a b i e = (yes a i e ≡ true) × (yes b i e ≡ true)

-- `[*]`, but for the empty part: a accepts a non-empty first part, and the rest is accepted again
pub record StepAt (a rest : List ℕ) (i e : ℕ) : Type 0 where
  pub cut : ℕ
  pub from : i < cut
  pub to : cut ≤ e
  pub first : yes a i cut ≡ true
  pub second : yes rest cut e ≡ true

-- `[*]`; the answers for the rest are its own
abbrev pub StarAt : List ℕ → List ℕ → ℕ → ℕ → Type 0
StarAt a rest i e = (i ≡ e) ⊎ StepAt a rest i e

-- how many letters from i up to, not including, e are accepted alone
abbrev pub letters_at_of : List ℕ → ℕ → ℕ → ℕ
letters_at_of a i e = many (e - i) (λ k. yes a (i + k) (i + k + 1))

-- `[=i..j]`; a accepts the letters that satisfy the formula
pub record OccursAt (c : Counts) (a : List ℕ) (i e : ℕ) : Type 0 where
  pub low : c.low ≤ letters_at_of a i e
  pub high : letters_at_of a i e ≤ c.high

-- `[+]`: a first part, and a rest that `[*]` accepts
pub record PlusOf (a r : List ℕ) : Type 0 where
  pub rest : List ℕ
  pub stars : Filled (StarAt a rest) rest
  pub cuts : Filled (ThenAt a rest) r
