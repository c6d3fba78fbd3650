-- From the answers of the operands that stand in the bytes to those of the rule. Assumes nothing.
use Prim.Native.Nat.{ℕ, ◌+◌}
use native.Mathlib.Omega.{arith}
use mathlib.Core.Path.{◌≡◌, subst⁻¹}
use mathlib.Core.List.{List}
use lib.ListN.{get_or}
use Rattle.definitions.specs.declared.kinds.Pair.{Pair}
use Rattle.definitions.specs.declared.kinds.Repeat.{Repeat}
use Rattle.definitions.specs.declared.kinds.Repeat.TheVariants.{Star, Plus}
use Rattle.definitions.specs.declared.kinds.RuleKind.TheVariants.{Letter, Empty, Two, Again, Counted, Occurs}
use Rattle.definitions.specs.declared.kinds.Kind.TheVariants.{OfRule}
use Rattle.definitions.specs.declared.counts.Counts.{Counts}
use Rattle.definitions.specs.Definition1.{Rule, counted, occurs}
use Rattle.definitions.specs.Definition2.{Sat}
use Rattle.definitions.specs.Kinds.{kind_of}
use Rattle.rules.specs.Places.{RuleAt, RuleEnds}
use Rattle.definitions.specs.Encoding.{CountsAs}
use Rattle.rules.proofs.PlacesOnce.{rule_of_lem}
use Rattle.rules.proofs.Walks.{counts_told, told_counts}
use Rattle.judge.specs.Parts.{Few, Judged, Filled}
use Rattle.judge.specs.inner.Cut.{PairAt, StarAt, PlusOf, OccursAt}
use Rattle.judge.specs.inner.Judging.{LetterParts, JudgedAt, RepeatedAt, InRow}
use Rattle.judge.proofs.Meaning.{judged_letter, judged_empty, judged_two, judged_star, judged_plus, judged_none}
use Rattle.judge.proofs.Occurrences.{judged_occurs}

module _ (s : List ℕ) (at : ℕ) (w : List ℕ) (few : Few w) where
  as_rule_lem : {r r' : Rule} {a : List ℕ} → r ≡ r' → Judged (Sat r') w a → Judged (Sat r) w a
  as_rule_lem {a = a} q h = subst⁻¹ (λ (r : Rule). Judged (Sat r) w a) q h

  pub at_letter : kind_of (get_or s at 0) ≡ OfRule Letter → (a : List ℕ) → LetterParts s (at + 1) w a → JudgedAt s at w a
  at_letter q a h r e d = let i = rule_of_lem s (OfRule Letter) d q in as_rule_lem i.1 (judged_letter w few i.0 (h i.0 e i.2))

  pub at_empty : kind_of (get_or s at 0) ≡ OfRule Empty → (a : List ℕ) → Filled ◌≡◌ a → JudgedAt s at w a
  at_empty q a h r e d = let i = rule_of_lem s (OfRule Empty) d q in as_rule_lem i.0 (judged_empty w few h)

  pub at_again : (p : Repeat) → kind_of (get_or s at 0) ≡ OfRule (Again p) → (a : List ℕ) → RepeatedAt p s (at + 1) w a → JudgedAt s at w a
  at_again p q a h r e d = let i = rule_of_lem s (OfRule (Again p)) d q in as_rule_lem i.1 (h i.0 e i.2)

  pub at_two : (p : Pair) → kind_of (get_or s at 0) ≡ OfRule (Two p) → (m : ℕ) → RuleEnds s (at + 1) m → (a b c : List ℕ)
      → JudgedAt s (at + 1) w a → JudgedAt s m w b → Filled (PairAt p a b) c → JudgedAt s at w c
  at_two p q m ends a b c ha hb h r e d =
      let i = rule_of_lem s (OfRule (Two p)) d q in
      let second : RuleAt s m i.1 e = rw (ends i.0 i.2 i.4) i.5 in
      as_rule_lem i.3 (judged_two w few p i.0 i.1 (ha i.0 i.2 i.4) (hb i.1 e second) h)

  -- counted parts: none is allowed, or some; and counted letters
  module _ (c : Counts) (k : CountsAs s at c) where
    pub at_counted : kind_of (get_or s at 0) ≡ OfRule Counted → (a b : List ℕ) → JudgedAt s (at + 3) w a → InRow a c b → JudgedAt s at w b
    at_counted q a b ha h r e d = let i = rule_of_lem s (OfRule Counted) d q in as_rule_lem (told_counts s at c k counted i.0 r i.1) (h.rowed i.0 w few (ha i.0 e i.3))

    pub at_occurs : kind_of (get_or s at 0) ≡ OfRule Occurs → (a b : List ℕ) → LetterParts s (at + 3) w a → Filled (OccursAt c a) b → JudgedAt s at w b
    at_occurs q a b ha h r e d = let i = rule_of_lem s (OfRule Occurs) d q in as_rule_lem (told_counts s at c k occurs i.0 r i.1) (judged_occurs w i.0 a few (ha i.0 e i.3) c h)

    pub at_none : kind_of (get_or s at 0) ≡ OfRule Counted → c.high ≡ 0 → (b : List ℕ) → Filled ◌≡◌ b → JudgedAt s at w b
    at_none q z b h r e d =
        let i = rule_of_lem s (OfRule Counted) d q in
        let f = counts_told s at c k i.2 in
        let l : c.low ≡ 0 = let u = f.rising in omega arith in
        as_rule_lem (told_counts s at c k counted i.0 r i.1) (judged_none w few i.0 c l z h)

  pub repeated : (a b : List ℕ) → JudgedAt s at w a → Filled (StarAt a b) b → RepeatedAt Star s at w b
  repeated a b ha h r e d = judged_star w few r (ha r e d) h

  pub repeated_once : (a b : List ℕ) → JudgedAt s at w a → PlusOf a b → RepeatedAt Plus s at w b
  repeated_once a b ha h r e d = judged_plus w few r (ha r e d) h
