-- No second answer fits the promise of `judge`: there is one right verdict, and `told` loses nothing. Assumes nothing.
use Prim.Native.Nat.{ℕ}
use native.Mathlib.Omega.{arith}
use mathlib.Core.Path.{◌≡◌, refl, ap, subst⁻¹}
use mathlib.Core.Bool.{Bool, cond}
use mathlib.Core.List.{List}
use lib.Dec.{eqb}
use Rattle.bits.specs.Says.{Says}
use Rattle.definitions.specs.Definition1.{Rule}
use Rattle.definitions.specs.Definition2.{Sat}
use Rattle.rules.specs.Answer.{AcceptedAs, known_of}
use Rattle.rules.proofs.Accepting.{not_refused, accepted_once}
use Rattle.definitions.specs.Numbers.{bad_letter_number}
use Rattle.rules.proofs.Once.{told_once, handed_on, handed_on_lem}
use Rattle.judge.specs.declared.Refusal.{Refusal}
use Rattle.judge.specs.declared.Refusal.TheVariants.{OfRule, TooManyLetters, BadLetter}
use Rattle.std.specs.Prelude.{Ok, Err}
use Rattle.judge.specs.Refusals.{number, place}
use Rattle.judge.specs.Verdict.{Answer, Verdict, judged, refused, told, JudgeRight, rule_refused, too_many, no_letter, decided}
use Rattle.bits.proofs.Sayings.{says_once}
use Rattle.judge.proofs.Strays.{stray_once, no_stray}

module _ (s w : List ℕ) where
  same_answer : (r r' : Rule) → AcceptedAs s r → AcceptedAs s r' → (b b' : Bool) → Says b (Sat r w) → Says b' (Sat r' w) → judged b (known_of r) ≡ judged b' (known_of r')
  same_answer r r' a a' b b' h h' =
      let q : r ≡ r' = accepted_once s r r' a a' in
      let e : b ≡ b' = says_once h (subst⁻¹ (λ (x : Rule). Says b' (Sat x w)) q h') in
      let k : known_of r ≡ known_of r' = ap known_of q in
      cc

  one_verdict : {v : Verdict} → JudgeRight s w v → {v' : Verdict} → JudgeRight s w v' → v ≡ v'
  one_verdict (rule_refused q) (rule_refused q') = cc
  one_verdict (rule_refused q) (too_many a l) = absurd (not_refused s _ _ _ q a)
  one_verdict (rule_refused q) (no_letter a f h) = absurd (not_refused s _ _ _ q a)
  one_verdict (rule_refused q) (decided a f h d) = absurd (not_refused s _ _ _ q a)
  one_verdict (too_many a l) (rule_refused q) = absurd (not_refused s _ _ _ q a)
  one_verdict (too_many a l) (too_many a' l') = refl
  one_verdict (too_many a l) (no_letter a' f h) = absurd (omega (arith, f.few))
  one_verdict (too_many a l) (decided a' f h d) = absurd (omega (arith, f.few))
  one_verdict (no_letter a f h) (rule_refused q) = absurd (not_refused s _ _ _ q a)
  one_verdict (no_letter a f h) (too_many a' l) = absurd (omega (arith, f.few))
  one_verdict (no_letter a f h) (no_letter a' f' h') = ap (refused bad_letter_number) (stray_once w _ _ h h')
  one_verdict (no_letter a f h) (decided a' f' h' d) = absurd (no_stray w _ h h')
  one_verdict (decided a f h d) (rule_refused q) = absurd (not_refused s _ _ _ q a)
  one_verdict (decided a f h d) (too_many a' l) = absurd (omega (arith, f.few))
  one_verdict (decided a f h d) (no_letter a' f' h') = absurd (no_stray w _ h' h)
  one_verdict (decided a f h d) (decided a' f' h' d') = same_answer _ _ a a' _ _ d d'

-- the refusal of a number and a place, and the answer that a verdict tells of: `told` loses nothing
abbrev named : ℕ → ℕ → Refusal
named n p = handed_on OfRule (cond (eqb n bad_letter_number) (BadLetter p) TooManyLetters) n p

named_told : (x : Refusal) → named (number x) (place x) ≡ x
named_told (OfRule x) = handed_on_lem OfRule _ x
named_told TooManyLetters = refl
named_told (BadLetter i) = refl

abbrev meant : Verdict → Answer
meant (judged b k) = Ok (record { accepts = b; rule = k })
meant (refused n p) = Err (named n p)

meant_told : (a : Answer) → meant (told a) ≡ a
meant_told (Ok j) = refl
meant_told (Err x) = ap Err (named_told x)

-- no second answer fits the promise of `judge`
pub one_answer : (s w : List ℕ) (a b : Answer) → JudgeRight s w (told a) → JudgeRight s w (told b) → a ≡ b
one_answer s w a b ra rb = told_once told meant meant_told a b (one_verdict s w ra rb)
