-- What the reader promises of what it took from a place of the text on, and of the bytes that it wrote for it. Assumes nothing: these are definitions.
use Rattle.std.specs.Prelude.{ℕ, ◌+◌, ◌≡◌, List, [], ◌∷◌, Result, Ok, Err}
use Rattle.definitions.specs.Definition1.{prop, join}
use Rattle.definitions.specs.Encoding.{spell_f}
use Rattle.grammar.specs.declared.words.Fault.{Fault}
use Rattle.text_reader.specs.declared.reader.Taken.{Taken}
use Rattle.grammar.specs.inner.Reading.{Need, rule, formula, digit, junction, tail, occurrence, Values, closed, standing}
use Rattle.grammar.specs.inner.Wide.{wide}
use Rattle.writing.specs.Wrote.{Wrote}
use Rattle.grammar.specs.inner.Places.{At, Passes, Fails, signs}

-- values of the needs stand there, and their bytes are written from `to` up to `past`
pub record Took (s : List ℕ) (at : ℕ) (ns : List Need) (bytes : Values ns → List ℕ) (before : List ℕ) (to : ℕ) (after : List ℕ) (end past : ℕ) : Type 0 where
  pub vs : Values ns
  pub there : Passes s at ns vs end
  pub wrote : Wrote (bytes vs) before to after past

pub data TakenAs (s : List ℕ) (at : ℕ) (ns : List Need) (bytes : Values ns → List ℕ) (before : List ℕ) (to : ℕ) (after : List ℕ) (r : Result Taken Fault) : Type 0 where
  took : (t : Taken) → r ≡ Ok t → Took s at ns bytes before to after t.end t.past → TakenAs s at ns bytes before to after r
  broke : (f : Fault) → r ≡ Err f → Fails s at ns f.place → TakenAs s at ns bytes before to after r

-- a word, for which one kind byte is written
abbrev pub KindTaken : (s : List ℕ) (at : ℕ) (w : List ℕ) (kind : ℕ) (before : List ℕ) (to : ℕ) (after : List ℕ) → Result Taken Fault → Type 0
KindTaken s at w kind before to after t = TakenAs s at (signs w) (λ v. kind ∷ []) before to after t

-- the digit of a proposition
abbrev pub DigitTaken : (s : List ℕ) (at : ℕ) (before : List ℕ) (to : ℕ) (after : List ℕ) → Result Taken Fault → Type 0
DigitTaken s at before to after t = TakenAs s at (digit ∷ []) (λ v. spell_f (prop v.0)) before to after t

abbrev pub FormulaTaken : (s : List ℕ) (at : ℕ) (before : List ℕ) (to : ℕ) (after : List ℕ) → Result Taken Fault → Type 0
FormulaTaken s at before to after t = TakenAs s at (formula ∷ []) (λ v. spell_f v.0) before to after t

-- what stands after "("
abbrev pub JoinTaken : (s : List ℕ) (at : ℕ) (before : List ℕ) (to : ℕ) (after : List ℕ) → Result Taken Fault → Type 0
JoinTaken s at before to after t = TakenAs s at (formula ∷ junction ∷ []) (λ v. spell_f (join v.1.0.0 v.0 v.1.0.1)) before to after t

-- a formula that stands as a rule
abbrev pub LetterTaken : (s : List ℕ) (at : ℕ) (before : List ℕ) (to : ℕ) (after : List ℕ) → Result Taken Fault → Type 0
LetterTaken s at before to after t = TakenAs s at (formula ∷ occurrence ∷ []) (λ v. wide (standing v.0 v.1.0)) before to after t

abbrev pub RuleTaken : (s : List ℕ) (at : ℕ) (before : List ℕ) (to : ℕ) (after : List ℕ) → Result Taken Fault → Type 0
RuleTaken s at before to after t = TakenAs s at (rule ∷ []) (λ v. wide v.0) before to after t

-- what stands after "{"
abbrev pub BraceTaken : (s : List ℕ) (at : ℕ) (before : List ℕ) (to : ℕ) (after : List ℕ) → Result Taken Fault → Type 0
BraceTaken s at before to after t = TakenAs s at (rule ∷ tail ∷ []) (λ v. wide (closed v.0 v.1.0)) before to after t

-- what was taken, with one very character after it
pub data Closes (s : List ℕ) (c : ℕ) (t : Taken) (r : Result Taken Fault) : Type 0 where
  there : At s t.end c → r ≡ Ok (record { end = t.end + 1; past = t.past }) → Closes s c t r
  not_there : (At s t.end c → ⊥) → r ≡ Err (record { place = t.end }) → Closes s c t r
