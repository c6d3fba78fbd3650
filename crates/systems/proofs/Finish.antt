-- From what the readers promise to the answer of the whole. Assumes nothing.
use Prim.Native.Nat.{ℕ, ◌+◌, ◌<◌, ◌≤◌}
use native.Mathlib.Omega.{arith}
use mathlib.Core.Path.{◌≡◌, sym, ap, ◌∙◌}
use mathlib.Core.Bool.{true, false}
use mathlib.Core.List.{List, [], ◌∷◌}
use lib.ListN.{length, drop}
use borrow.Author.Tests.{lt-ltb, le-ltb}
use Rattle.std.specs.Prelude.{Ok, Err}
use Rattle.definitions.specs.Definition1.{Formula}
use Rattle.systems.specs.declared.Refusal.{Refusal}
use Rattle.systems.specs.Kinds.{step_mark}
use Rattle.systems.specs.Refusals.{number, place}
use Rattle.systems.specs.Reading.{Outcome, good, fault, mark, formula, scan, parse}
use Rattle.systems.specs.Spelling.{spell_f}
use Rattle.systems.specs.inner.Walks.{shown, FormulaRead, StartAt, StartRead}
use Rattle.systems.specs.Answer.{longest_system, accepted, refused, placed, answer}
use Rattle.systems.proofs.Scan.{over_mark, over_formula, left_over, whole}
use Rattle.systems.proofs.Standing.{formula_long}

module _ (s : List ℕ) where
  pub told_long : longest_system < length s → refused 9 0 ≡ answer s
  told_long h = rw (lt-ltb _ _ h)

  over_start : {f : Formula} {step : ℕ} → StartAt s f step → parse s ≡ scan (drop step s) (formula true ∷ []) (λ g. good f g) step
  over_start {f} {step} x =
      over_mark s x.first_mark (formula false ∷ mark step_mark ∷ formula true ∷ []) (λ i f m g. good f g)
      ∙ over_formula s x.first (mark step_mark ∷ formula true ∷ []) (λ f m g. good f g)
      ∙ over_mark s x.second_mark (formula true ∷ []) (λ m g. good f g)

  module _ (h : length s ≤ longest_system) where
    short : (o : Outcome) → parse s ≡ o → placed o ≡ answer s
    short o q = ap placed (sym q) ∙ rw (le-ltb _ _ h)

    pub told_bad_start : (x : Refusal) → StartRead s (Err x) → refused (number x) (place x) ≡ answer s
    told_bad_start x p = short (shown x) (p (formula true ∷ []) (λ i f m g. good f g))

    pub told_bad_step : (step : ℕ) → StartRead s (Ok step) → (x : Refusal) → FormulaRead s true step (Err x) → refused (number x) (place x) ≡ answer s
    told_bad_step step (f, a) x p = short (shown x) (over_start a ∙ p [] (λ g. good f g))

    pub told_left : (step : ℕ) → StartRead s (Ok step) → (e : ℕ) → FormulaRead s true step (Ok e) → e < length s → refused 6 e ≡ answer s
    told_left step (f, a) e (g, d) l = short (fault 6 e) (over_start a ∙ over_formula s d [] (λ g. good f g) ∙ left_over s e (good f g) l)

    pub told_whole : (step : ℕ) → StartRead s (Ok step) → (e : ℕ) → FormulaRead s true step (Ok e) → length s ≤ e → accepted step ≡ answer s
    told_whole step (f, a) e (g, d) l =
        let n = formula_long a.first in
        let q = a.second_mark.ends in
        let p : step ≡ 1 + length (spell_f f) + 1 = omega arith in
        ap accepted p ∙ short (good f g) (over_start a ∙ over_formula s d [] (λ g. good f g) ∙ whole s e (good f g) l)
