-- Refusal 2 has the length of the bytes for its place. Assumes nothing.
use Prim.Native.Nat.{ℕ, ◌+◌}
use native.Mathlib.Omega.{arith}
use mathlib.Core.Path.{◌≡◌}
use mathlib.Core.Bool.{Bool, true, false, cond}
use mathlib.Core.List.{List, [], ◌∷◌}
use lib.Dec.{leb}
use lib.ListN.{length}
use Rattle.definitions.specs.declared.kinds.FormulaKind.TheVariants.{Proposition, Truth, Falsity, Not, Join}
use Rattle.definitions.specs.declared.kinds.RuleKind.TheVariants.{Letter, Empty, Two, Again, Counted, Occurs}
use Rattle.definitions.specs.declared.kinds.Kind.{Kind}
use Rattle.definitions.specs.declared.kinds.Kind.TheVariants.{OfFormula, OfRule, Unknown}
use Rattle.definitions.specs.Definition1.{Formula, prop, yea, nay, neg, join, Rule, letter, empty, two, again, counted, occurs}
use Rattle.definitions.specs.Kinds.{kind_of}
use Rattle.rules.specs.Reading.{fault, Need, rule, formula, body, counts, Rest, scan, take_rule, take_formula}
use Rattle.definitions.specs.Encoding.{counts_do_fit}
use Rattle.rules.specs.Answer.{parse}

other : (n m : ℕ) (a p q : ℕ) → fault n a ≡ fault m p → (n ≡ m → ⊥) → p ≡ q
other n m a p q e differ = let z : n ≡ m = cc in absurd (differ z)

module _ (bs : List ℕ) (ih : (ns : List Need) (k : Rest ns) (at p : ℕ) → scan bs ns k at ≡ fault 2 p → p ≡ at + length bs) (ns : List Need) (at p : ℕ) where
  next : p ≡ at + 1 + length bs → p ≡ at + (length bs + 1)
  next q = omega arith

  on_rule : (k : Rule → Rest ns) (κ : Kind) → take_rule κ (scan bs) ns k at ≡ fault 2 p → p ≡ at + (length bs + 1)
  on_rule k Unknown q = other 3 2 at p _ q (omega arith)
  on_rule k (OfFormula f) q = other 4 2 at p _ q (omega arith)
  on_rule k (OfRule Letter) q = next (ih (formula ∷ ns) (λ f. k (letter f)) (at + 1) p q)
  on_rule k (OfRule Empty) q = next (ih ns (k empty) (at + 1) p q)
  on_rule k (OfRule (Two x)) q = next (ih (rule ∷ rule ∷ ns) (λ a b. k (two x a b)) (at + 1) p q)
  on_rule k (OfRule (Again x)) q = next (ih (rule ∷ ns) (λ a. k (again x a)) (at + 1) p q)
  on_rule k (OfRule Counted) q = next (ih (counts ∷ rule ∷ ns) (λ c a. k (counted c.0 c.1 a)) (at + 1) p q)
  on_rule k (OfRule Occurs) q = next (ih (counts ∷ formula ∷ ns) (λ c f. k (occurs c.0 c.1 f)) (at + 1) p q)

  on_formula : (k : Formula → Rest ns) (κ : Kind) → take_formula κ (scan bs) ns k at ≡ fault 2 p → p ≡ at + (length bs + 1)
  on_formula k Unknown q = other 3 2 at p _ q (omega arith)
  on_formula k (OfRule r) q = other 4 2 at p _ q (omega arith)
  on_formula k (OfFormula Proposition) q = next (ih (body ∷ ns) (λ i. k (prop i)) (at + 1) p q)
  on_formula k (OfFormula Truth) q = next (ih ns (k yea) (at + 1) p q)
  on_formula k (OfFormula Falsity) q = next (ih ns (k nay) (at + 1) p q)
  on_formula k (OfFormula Not) q = next (ih (formula ∷ ns) (λ f. k (neg f)) (at + 1) p q)
  on_formula k (OfFormula (Join j)) q = next (ih (formula ∷ formula ∷ ns) (λ f g. k (join j f g)) (at + 1) p q)

  on_body : (k : ℕ → Rest ns) (b : ℕ) (t : Bool) → cond t (scan bs ns (k b) (at + 1)) (fault 5 at) ≡ fault 2 p → p ≡ at + (length bs + 1)
  on_body k b true q = next (ih ns (k b) (at + 1) p q)
  on_body k b false q = other 5 2 at p _ q (omega arith)

  on_counts : (k : ℕ × ℕ → Rest ns) (i j : ℕ) (t : Bool) → cond t (scan bs ns (k (i, j)) (at + 2)) (fault 8 at) ≡ fault 2 p → p ≡ at + (length bs + 2)
  on_counts k i j true q = let r = ih ns (k (i, j)) (at + 2) p q in omega arith
  on_counts k i j false q = other 8 2 at p _ q (omega arith)

ended : (l : List ℕ) (ns : List Need) (k : Rest ns) (at p : ℕ) → scan l ns k at ≡ fault 2 p → p ≡ at + length l
ended [] [] k at p q = let z : ◌≡◌ {A = ℕ} 0 1 = cc in absurd (omega arith)
ended [] (n ∷ ns) k at p q = let z : at ≡ p = cc in omega arith
ended (b ∷ bs) [] k at p q = other 6 2 at p _ q (omega arith)
ended (b ∷ bs) (rule ∷ ns) k at p q = let r = on_rule bs (ended bs) ns at p k (kind_of b) q in omega arith
ended (b ∷ bs) (formula ∷ ns) k at p q = let r = on_formula bs (ended bs) ns at p k (kind_of b) q in omega arith
ended (b ∷ bs) (body ∷ ns) k at p q = let r = on_body bs (ended bs) ns at p k b (leb b 5) q in omega arith
ended (b ∷ []) (counts ∷ ns) k at p q = let z : at + 1 ≡ p = cc in omega arith
ended (b ∷ c ∷ bs) (counts ∷ ns) k at p q = let r = on_counts bs (ended bs) ns at p k b c (counts_do_fit b c) q in omega arith

pub ended_at : (s : List ℕ) (p : ℕ) → parse s ≡ fault 2 p → p ≡ length s
ended_at s p q = let r = ended s (rule ∷ []) (λ x. x) 0 p q in omega arith
