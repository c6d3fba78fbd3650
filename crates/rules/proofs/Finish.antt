-- From what `rule_end` and `weight_at` promise at place 0 to the answer of the whole. Assumes nothing.
use Prim.Native.Nat.{ℕ, ◌<◌, ◌≤◌, min}
use native.Mathlib.Omega.{arith}
use mathlib.Core.Path.{◌≡◌, sym, ap, ap₂, ◌∙◌}
use mathlib.Core.List.{List, []}
use lib.ListN.{length, drop_of_length-le}
use lib.Seq.{drop-cons}
use borrow.Author.Tests.{lt-ltb, le-ltb, le-leb, lt-leb}
use Rattle.definitions.specs.declared.Refusal.{Refusal}
use Rattle.std.specs.Prelude.{Ok, Err}
use Rattle.rules.specs.declared.weights.Weighed.{Weighed}
use Rattle.definitions.specs.Definition1.{Rule}
use Rattle.rules.specs.Weight.{weight_of, weight_limit, counted_to}
use Rattle.rules.specs.Named.{uses_of}
use Rattle.definitions.specs.Refusals.{number, place}
use Rattle.rules.specs.Reading.{Outcome, good, fault, scan}
use Rattle.rules.specs.Places.{RuleAt}
use Rattle.rules.specs.Walks.{RuleRead, shown, WeighedAs}
use Rattle.rules.specs.Answer.{longest_rule, accepted, refused, parse, weighed, answer}
use Rattle.rules.proofs.Scan.{over_rule}

heavy_as : (r : Rule) (w : ℕ) → w ≡ min counted_to (weight_of r) → weight_limit < w → weighed (good r) ≡ refused 7 0
heavy_as r w q h = let l : weight_limit < weight_of r = omega arith in rw (lt-leb _ _ l)

light_as : (r : Rule) (w u : ℕ) → w ≡ min counted_to (weight_of r) → u ≡ uses_of r → w ≤ weight_limit → weighed (good r) ≡ accepted (record { weight = w; uses = u })
light_as r w u q v h =
    let e : weight_of r ≡ w = omega arith in
    let l : weight_of r ≤ weight_limit = omega arith in
    rw (le-leb _ _ l) (ap₂ (λ (n m : ℕ). accepted (record { weight = n; uses = m })) e (sym v))

module _ (s : List ℕ) where
  pub told_long : longest_rule < length s → refused 1 0 ≡ answer s
  told_long h = rw (lt-ltb _ _ h)

  module _ (h : length s ≤ longest_rule) where
    short : (o : Outcome) → parse s ≡ o → weighed o ≡ answer s
    short o q = ap weighed (sym q) ∙ rw (le-ltb _ _ h)

    pub told_bad : (x : Refusal) → RuleRead s 0 (Err x) → refused (number x) (place x) ≡ answer s
    told_bad x p = short (shown x) (p [] (λ r. r))

    pub told_left : (e : ℕ) → RuleRead s 0 (Ok e) → e < length s → refused 6 e ≡ answer s
    told_left e (r, d) l = short (fault 6 e) (over_rule s d [] (λ r. r) ∙ ap (λ (t : List ℕ). scan t [] r e) (drop-cons s e 0 l))

    whole : (e : ℕ) (r : Rule) → RuleAt s 0 r e → length s ≤ e → parse s ≡ good r
    whole e r d l = over_rule s d [] (λ r. r) ∙ ap (λ (t : List ℕ). scan t [] r e) (drop_of_length-le s l)

    pub told_light : (e : ℕ) → RuleRead s 0 (Ok e) → length s ≤ e → (w : Weighed) → WeighedAs s 0 w → w.weight ≤ weight_limit → accepted (record { weight = w.weight; uses = w.uses }) ≡ answer s
    told_light e (r, d) l w k u = sym (light_as r w.weight w.uses (k r e d).0 (k r e d).1 u) ∙ short (good r) (whole e r d l)

    pub told_heavy : (e : ℕ) → RuleRead s 0 (Ok e) → length s ≤ e → (w : Weighed) → WeighedAs s 0 w → weight_limit < w.weight → refused 7 0 ≡ answer s
    told_heavy e (r, d) l w k u = sym (heavy_as r w.weight (k r e d).0 u) ∙ short (good r) (whole e r d l)
