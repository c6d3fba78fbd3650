-- From what each step of `judge` finds to the right verdict. Assumes nothing.
use Prim.Native.Nat.{ℕ, ◌<◌}
use mathlib.Core.Path.{◌≡◌, sym, ap, ◌∙◌}
use mathlib.Core.Bool.{Bool}
use mathlib.Core.List.{List}
use lib.ListN.{length}
use Rattle.rules.specs.declared.Known.{Known}
use Rattle.definitions.specs.declared.Refusal.{Refusal}
use Rattle.std.specs.Prelude.{Ok, Err}
use Rattle.definitions.specs.Definition1.{Rule}
use Rattle.definitions.specs.Refusals.{number, place}
use Rattle.definitions.specs.Numbers.{bad_letter_number, too_many_letters_number}
use Rattle.rules.specs.Answer as rules
use Rattle.rules.specs.Answer.{answer, AcceptedAs, known_of}
use Rattle.rules.proofs.Accepting.{accepted_rule, accepted_stands}
use Rattle.judge.specs.Parts.{letter_limit, Few}
use Rattle.judge.specs.inner.Judging.{AcceptsAs}
use Rattle.judge.specs.Verdict.{judged, refused, LettersTo, StrayAt, JudgeRight, rule_refused, too_many, no_letter, decided}

module _ (s w : List ℕ) (a : rules.RuleAnswer) (read : rules.told a ≡ answer s) where
  -- the reader's refusal
  pub right_refusal : (x : Refusal) → a ≡ Err x → JudgeRight s w (refused (number x) (place x))
  right_refusal x q = rule_refused (sym read ∙ ap rules.told q)

  module _ (k : Known) (q : a ≡ Ok k) where
    -- the rule that the reader accepted
    pub read_as : (r : Rule) × AcceptedAs s r × (k ≡ known_of r)
    read_as = accepted_rule s k (sym read ∙ ap rules.told q)

    pub right_many : letter_limit < length w → JudgeRight s w (refused too_many_letters_number 0)
    right_many l = too_many read_as.1 l

    pub right_stray : Few w → (i : ℕ) → StrayAt w i → JudgeRight s w (refused bad_letter_number i)
    right_stray few i h = no_letter read_as.1 few h

    pub right_judged : Few w → LettersTo w (length w) → (b : Bool) → AcceptsAs s w b → JudgeRight s w (judged b k)
    right_judged few h b d = rw read_as.2 (decided read_as.1 few h (d read_as.0 (length s) (accepted_stands s read_as.0 read_as.1)))
