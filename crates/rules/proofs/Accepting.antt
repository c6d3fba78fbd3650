-- What it is that bytes are accepted as a rule: the answer says so, at most one rule fits, it stands in the bytes from 0 to their end,
-- and the accepted strings of bytes are exactly the spellings of rules within the limits. Assumes nothing.
use Prim.Native.Nat.{ℕ, ◌≤◌}
use native.Mathlib.Omega.{arith}
use mathlib.Core.Path.{◌≡◌, refl, sym, subst, ◌∙◌}
use mathlib.Core.Bool.{Bool, true, false, cond}
use mathlib.Core.Logic.{◌↔◌}
use mathlib.Core.List.{List}
use lib.Dec.{leb, ltb}
use lib.ListN.{length}
use borrow.Author.Tests.{le-ltb, le-leb, leb-true, ltb-false}
use Rattle.rules.specs.declared.Known.{Known}
use Rattle.definitions.specs.Definition1.{Rule}
use Rattle.rules.specs.Weight.{weight_of, weight_limit}
use Rattle.rules.specs.Reading.{Outcome, good, fault}
use Rattle.definitions.specs.Encoding.{spell, Small}
use Rattle.rules.specs.Places.{RuleAt, GoodRule}
use Rattle.rules.specs.Answer.{longest_rule, accepted, refused, parse, known_of, weighed, answer, AcceptedAs}
use Rattle.rules.proofs.Encode.{read_is_spelt, spelt_is_read}
use Rattle.rules.proofs.Stands.{stands}

no_refusal : (n p : ℕ) (k : Known) → refused n p ≡ accepted k → ⊥
no_refusal n p k q = let z : ◌≡◌ {A = ℕ} 0 1 = cc in omega arith

module _ (s : List ℕ) where
  on_weight : (r : Rule) (k : Known) (t : Bool) → leb (weight_of r) weight_limit ≡ t → cond t (accepted (known_of r)) (refused 7 0) ≡ accepted k → (weight_of r ≤ weight_limit) × (k ≡ known_of r)
  on_weight r k true e q = (leb-true (weight_of r) weight_limit e, cc)
  on_weight r k false e q = absurd (no_refusal 7 0 k q)

  on_outcome : length s ≤ longest_rule → (k : Known) (o : Outcome) → parse s ≡ o → weighed o ≡ accepted k → (r : Rule) × AcceptedAs s r × (k ≡ known_of r)
  on_outcome h k (good r) e q =
      let w = on_weight r k (leb (weight_of r) weight_limit) refl q in
      (r, record { short = h; spelt = e; light = w.0 }, w.1)
  on_outcome h k (fault n p) e q = absurd (no_refusal n p k q)

  -- an answer that accepts comes with the rule, and with what is known of it
  pub accepted_rule : (k : Known) → answer s ≡ accepted k → (r : Rule) × AcceptedAs s r × (k ≡ known_of r)
  accepted_rule k q = go (ltb longest_rule (length s)) refl q
    where
      go : (t : Bool) → ltb longest_rule (length s) ≡ t → cond t (refused 1 0) (weighed (parse s)) ≡ accepted k → (r : Rule) × AcceptedAs s r × (k ≡ known_of r)
      go true e q = absurd (no_refusal 1 0 k q)
      go false e q = on_outcome (ltb-false longest_rule (length s) e) k (parse s) refl q

  pub accepted_answer : (r : Rule) → AcceptedAs s r → answer s ≡ accepted (known_of r)
  accepted_answer r a = rw (le-ltb _ _ a.short, a.spelt, le-leb _ _ a.light)

  pub not_refused : (n p : ℕ) (r : Rule) → answer s ≡ refused n p → AcceptedAs s r → ⊥
  not_refused n p r q a = no_refusal n p (known_of r) (sym q ∙ accepted_answer r a)

  pub accepted_once : (r r' : Rule) → AcceptedAs s r → AcceptedAs s r' → r ≡ r'
  accepted_once r r' a b = let q : good r ≡ good r' = sym a.spelt ∙ b.spelt in cc

  pub accepted_stands : (r : Rule) → AcceptedAs s r → RuleAt s 0 r (length s)
  accepted_stands r a = stands s r a.spelt

  pub accepted_good : (r : Rule) → AcceptedAs s r → GoodRule s 0
  accepted_good r a = (r, length s, accepted_stands r a)

  -- the spellings of rules within the limits, and no others
  pub accepted_spelling : (r : Rule) → AcceptedAs s r ↔ ((spell r ≡ s) × Small r × (length s ≤ longest_rule) × (weight_of r ≤ weight_limit))
  accepted_spelling r = (
    λ a. let i = read_is_spelt s r a.spelt in (i.0, i.1, a.short, a.light),
    λ h. record { short = h.2; spelt = subst (λ (t : List ℕ). parse t ≡ good r) h.0 (spelt_is_read r h.1); light = h.3 },
  )
