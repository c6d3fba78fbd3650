-- No second answer fits the promises of `formula_end` and `rule_end`: one thing stands at a place, or one fault is met. Assumes nothing.
use Prim.Native.Nat.{ℕ, ◌+◌}
use native.Mathlib.Omega.{arith}
use mathlib.Core.Path.{◌≡◌, sym, ap, ◌∙◌}
use mathlib.Core.Bool.{Bool, true, false, cond}
use mathlib.Core.List.{List, [], ◌∷◌}
use lib.Dec.{leb}
use lib.ListN.{drop}
use Rattle.definitions.specs.declared.Refusal.{Refusal}
use Rattle.std.specs.Prelude.{Result, Ok, Err}
use Rattle.definitions.specs.Definition1.{Formula, Rule, empty}
use Rattle.definitions.specs.Definition2.{last_proposition}
use Rattle.definitions.specs.Refusals.{number, place}
use Rattle.rules.specs.Reading.{fault, Need, rule, formula, body, scan}
use Rattle.rules.specs.Places.{FormulaAt, RuleAt}
use Rattle.rules.specs.Walks.{shown, Fails, FormulaRead, RuleRead}
use Rattle.rules.proofs.Scan.{over_formula, over_rule}
use Rattle.rules.proofs.PlacesOnce.{formula_once, rule_once}
use Rattle.rules.proofs.Once.{one_refusal}

-- bytes that end what is needed and bytes that do not meet different faults
module _ (e : ℕ) (x : Refusal) where
  after_body : (b : Bool) (bs : List ℕ) → cond b (scan bs [] empty (e + 1)) (fault 5 e) ≡ fault 6 e → ⊥
  after_body false bs q = let z : ◌≡◌ {A = ℕ} 5 6 = cc in omega arith
  after_body true [] q = let z : ◌≡◌ {A = ℕ} 0 1 = cc in omega arith
  after_body true (b ∷ bs) q = let z : e + 1 ≡ e = cc in omega arith

  no_fault : (bs : List ℕ) → scan bs [] empty e ≡ shown x → scan bs (body ∷ []) (λ i. empty) e ≡ shown x → ⊥
  no_fault [] p q = let z : ◌≡◌ {A = ℕ} 0 1 = cc in omega arith
  no_fault (b ∷ bs) p q = after_body (leb b last_proposition) bs (q ∙ sym p)

one_fault : (s : List ℕ) (at : ℕ) (n : Need) (x y : Refusal) → Fails s at n x → Fails s at n y → x ≡ y
one_fault s at n x y f g =
    let e : shown x ≡ shown y = sym (f [] (λ v. empty)) ∙ g [] (λ v. empty) in
    let p : number x ≡ number y = cc in
    let q : place x ≡ place y = cc in
    one_refusal x y p q

module _ (s : List ℕ) (at : ℕ) where
  formula_no_fault : {f : Formula} {e : ℕ} (x : Refusal) → FormulaAt s at f e → Fails s at formula x → ⊥
  formula_no_fault {f} {e} x a h =
      no_fault e x (drop e s) (sym (over_formula s a [] (λ v. empty)) ∙ h [] (λ v. empty)) (sym (over_formula s a (body ∷ []) (λ v i. empty)) ∙ h (body ∷ []) (λ v i. empty))

  rule_no_fault : {r : Rule} {e : ℕ} (x : Refusal) → RuleAt s at r e → Fails s at rule x → ⊥
  rule_no_fault {r} {e} x a h =
      no_fault e x (drop e s) (sym (over_rule s a [] (λ v. empty)) ∙ h [] (λ v. empty)) (sym (over_rule s a (body ∷ []) (λ v i. empty)) ∙ h (body ∷ []) (λ v i. empty))

  pub one_formula_end : (a b : Result ℕ Refusal) → FormulaRead s at a → FormulaRead s at b → a ≡ b
  one_formula_end (Ok e) (Ok e') (f, p) (f', q) = ap Ok (formula_once s p f' e' q).1
  one_formula_end (Ok e) (Err y) (f, p) q = absurd (formula_no_fault y p q)
  one_formula_end (Err x) (Ok e) p (f, q) = absurd (formula_no_fault x q p)
  one_formula_end (Err x) (Err y) p q = ap Err (one_fault s at formula x y p q)

  pub one_rule_end : (a b : Result ℕ Refusal) → RuleRead s at a → RuleRead s at b → a ≡ b
  one_rule_end (Ok e) (Ok e') (r, p) (r', q) = ap Ok (rule_once s p r' e' q).1
  one_rule_end (Ok e) (Err y) (r, p) q = absurd (rule_no_fault y p q)
  one_rule_end (Err x) (Ok e) p (r, q) = absurd (rule_no_fault x q p)
  one_rule_end (Err x) (Err y) p q = ap Err (one_fault s at rule x y p q)
