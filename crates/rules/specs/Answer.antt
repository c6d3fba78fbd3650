-- What reading a whole rule comes to, for every string of bytes. Assumes nothing: these are definitions.
use Rattle.std.specs.Prelude.{cond, ℕ, ◌≤◌, ◌≡◌, List, [], ◌∷◌, leb, ltb, length, Ok, Err, Result as Returned}
use Rattle.rules.specs.declared.Known.{Known}
use Rattle.definitions.specs.declared.Refusal.{Refusal}
use Rattle.definitions.specs.Definition1.{Rule}
use Rattle.rules.specs.Weight.{weight_of, weight_limit}
use Rattle.rules.specs.Named.{uses_of}
use Rattle.definitions.specs.Refusals.{number, place}
use Rattle.rules.specs.Reading.{Outcome, good, fault, rule, scan}

-- a longer rule is refused before it is read
abbrev pub longest_rule : ℕ
longest_rule = 255

-- accepted, with what is known of the rule; or refused, with number and place
pub data Result : Type 0 where
  accepted : Known → Result
  refused : ℕ → ℕ → Result

-- the rule that the bytes are, or their first fault
abbrev pub parse : List ℕ → Outcome
parse s = scan s (rule ∷ []) (λ r. r) 0

-- what is known of a rule
abbrev pub known_of : Rule → Known
known_of r = record { weight = weight_of r; uses = uses_of r }

-- the weight is tested last
abbrev pub weighed : Outcome → Result
weighed (good r) = cond (leb (weight_of r) weight_limit) (accepted (known_of r)) (refused 7 0)
weighed (fault n p) = refused n p

-- the length is tested first
abbrev pub answer : List ℕ → Result
answer s = cond (ltb longest_rule (length s)) (refused 1 0) (weighed (parse s))

-- the bytes are accepted, as the spelling of the rule r
pub record AcceptedAs (s : List ℕ) (r : Rule) : Type 0 where
  pub short : length s ≤ longest_rule
  pub spelt : parse s ≡ good r
  pub light : weight_of r ≤ weight_limit

-- what reading a rule hands back
abbrev pub RuleAnswer : Type 0
RuleAnswer = Returned Known Refusal

-- the paper's number and values for each case of the answer
abbrev pub told : RuleAnswer → Result
told (Ok k) = accepted k
told (Err x) = refused (number x) (place x)
