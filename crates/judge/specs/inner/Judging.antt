-- What the walk over a rule's bytes promises, of whatever stands at a place. Assumes nothing: these are definitions.
use Rattle.std.specs.Prelude.{ℕ, Bool, List}
use Rattle.bits.specs.Says.{Says}
use Rattle.definitions.specs.declared.counts.Counts.{Counts}
use Rattle.definitions.specs.declared.kinds.Repeat.{Repeat}
use Rattle.definitions.specs.Definition1.{Formula, Rule, again, counted}
use Rattle.definitions.specs.Definition2.{Sat}
use Rattle.rules.specs.Places.{FormulaAt, RuleAt}
use Rattle.judge.specs.Parts.{Few, Judged, RowOf, Filled}
use Rattle.judge.specs.inner.Cut.{LetterAt}

-- which parts of w, of those that begin at i and of all, are one letter of which the formula holds
abbrev pub LetterRow : List ℕ → ℕ → List ℕ → ℕ → ℕ → Type 0
LetterRow s at w i row = (f : Formula) (e : ℕ) → FormulaAt s at f e → RowOf (LetterAt f w i) row

abbrev pub LetterParts : List ℕ → ℕ → List ℕ → List ℕ → Type 0
LetterParts s at w a = (f : Formula) (e : ℕ) → FormulaAt s at f e → Filled (LetterAt f w) a

-- which parts of w the rule accepts, and which its repetition accepts
abbrev pub JudgedAt : List ℕ → ℕ → List ℕ → List ℕ → Type 0
JudgedAt s at w a = (r : Rule) (e : ℕ) → RuleAt s at r e → Judged (Sat r) w a

abbrev pub RepeatedAt : Repeat → List ℕ → ℕ → List ℕ → List ℕ → Type 0
RepeatedAt p s at w a = (r : Rule) (e : ℕ) → RuleAt s at r e → Judged (Sat (again p r)) w a

-- where a says which parts of a sequence some rule accepts, r says which are counted parts of it in a row
pub record InRow (a : List ℕ) (c : Counts) (r : List ℕ) : Type 0 where
  pub rowed : (x : Rule) (w : List ℕ) → Few w → Judged (Sat x) w a → Judged (Sat (counted c.low c.high x)) w r

-- whether the rule that the bytes begin with accepts w
abbrev pub AcceptsAs : List ℕ → List ℕ → Bool → Type 0
AcceptsAs s w b = (r : Rule) (e : ℕ) → RuleAt s 0 r e → Says b (Sat r w)
