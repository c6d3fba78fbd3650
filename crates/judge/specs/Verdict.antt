-- What judging comes to, for every two strings of bytes. Assumes nothing: these are definitions.
use Rattle.std.specs.Prelude.{ℕ, ◌<◌, ◌≤◌, ◌≡◌, Bool, List, length, get_or, Option, None, Some, Result, Ok, Err}
use Rattle.bits.specs.Says.{Says}
use Rattle.rules.specs.declared.Known.{Known}
use Rattle.definitions.specs.Definition1.{Rule}
use Rattle.definitions.specs.Definition2.{letter_count, Sat}
use Rattle.definitions.specs.Numbers.{bad_letter_number, too_many_letters_number}
use Rattle.rules.specs.Answer as rules
use Rattle.rules.specs.Answer.{answer, AcceptedAs, known_of}
use Rattle.judge.specs.declared.Judged.{Judged}
use Rattle.judge.specs.declared.Refusal.{Refusal}
use Rattle.judge.specs.Refusals.{number, place}
use Rattle.judge.specs.Parts.{letter_limit, Few}

-- yes or no, with what is known of the rule; or refused, with number and place
pub data Verdict : Type 0 where
  judged : Bool → Known → Verdict
  refused : ℕ → ℕ → Verdict

-- what judging answers: its result, or why there is none
abbrev pub Answer : Type 0
Answer = Result Judged Refusal

-- the paper's number and values for each case of the answer
abbrev pub told : Answer → Verdict
told (Ok j) = judged j.accepts j.rule
told (Err x) = refused (number x) (place x)

-- below the index n stand letters only
pub record LettersTo (w : List ℕ) (n : ℕ) : Type 0 where
  pub below : (i : ℕ) → i < n → get_or w i 0 < letter_count

-- at the index i stands the first byte that is no letter
pub record StrayAt (w : List ℕ) (i : ℕ) : Type 0 where
  pub inside : i < length w
  pub stray : letter_count ≤ get_or w i 0
  pub first : LettersTo w i

-- letters only, or the first byte that is none
abbrev pub ScannedAs : List ℕ → Option ℕ → Type 0
ScannedAs w None = LettersTo w (length w)
ScannedAs w (Some i) = StrayAt w i

-- the right verdict on the rule's bytes s and the letters w: the rule's own refusal, then 23, then 22; else yes exactly if the rule accepts w
pub data JudgeRight (s w : List ℕ) : Verdict → Type 0 where
  rule_refused : {n p : ℕ} → answer s ≡ rules.refused n p → JudgeRight s w (refused n p)
  too_many : {r : Rule} → AcceptedAs s r → letter_limit < length w → JudgeRight s w (refused too_many_letters_number 0)
  no_letter : {r : Rule} {i : ℕ} → AcceptedAs s r → Few w → StrayAt w i → JudgeRight s w (refused bad_letter_number i)
  decided : {r : Rule} {b : Bool} → AcceptedAs s r → Few w → LettersTo w (length w) → Says b (Sat r w) → JudgeRight s w (judged b (known_of r))
