-- No second answer fits the promise of `read_formulas`, and no second content of the slice. Assumes nothing.
use Prim.Native.Nat.{ℕ}
use native.Mathlib.Omega.{arith}
use mathlib.Core.Path.{◌≡◌, refl, sym, ap, ap₂, ◌∙◌}
use mathlib.Core.Bool.{true}
use mathlib.Core.List.{List, ◌++◌}
use lib.Dec.{ltb}
use lib.ListN.{drop}
use borrow.Author.Tests.{ltb-true}
use Rattle.std.specs.Prelude.{⊤, Ok, Err}
use Rattle.std.specs.Prelude as std
use Rattle.definitions.specs.Numbers.{short_slice_number}
use Rattle.definitions.specs.Definition1.{Formula}
use Rattle.systems.specs.declared.Refusal as systems-refusal
use Rattle.systems.specs.declared.Refusal.TheVariants.{TooLong, Ended, UnknownKind, WrongSort, NoProposition, Leftover}
use Rattle.systems.specs.Refusals as systems-refusals
use Rattle.systems.specs.Answer as systems
use Rattle.systems.specs.Answer.{AcceptedAs}
use Rattle.systems.proofs.Accepting.{accepted_once, system_answer}
use Rattle.systems.proofs.Once.{one_refusal as system-refusal-once}
use Rattle.formula_models.specs.declared.Refusal.{Refusal}
use Rattle.formula_models.specs.declared.Refusal.TheVariants.{OfSystem, ShortModel}
use Rattle.formula_models.specs.Refusals.{number, place}
use Rattle.formula_models.specs.Bytes.{model_length, model_bytes}
use Rattle.formula_models.specs.Answer.{Result, refused, told, FormulasRight, no_system, short_model, the_model}

-- a system is not refused
pub not_refused : {s : List ℕ} {f g : Formula} {n p : ℕ} → AcceptedAs s f g → systems.answer s ≡ systems.refused n p → ⊥
not_refused a q = let e = system_answer a in let z : ◌≡◌ {A = ℕ} 0 1 = cc in omega arith

pub one_result : {s b c d : List ℕ} {x y : Result} → FormulasRight s b c x → FormulasRight s b d y → (x ≡ y) × (c ≡ d)
one_result (no_system {n} {p} q e) (no_system {n = m} {p = o} r k) = let u : n ≡ m = cc in let v : p ≡ o = cc in (ap₂ refused u v, e ∙ sym k)
one_result (no_system q e) (short_model a l k) = absurd (not_refused a q)
one_result (no_system q e) (the_model a l k) = absurd (not_refused a q)
one_result (short_model a l e) (no_system q k) = absurd (not_refused a q)
one_result (short_model a l e) (short_model a' l' k) = (refl, e ∙ sym k)
one_result (short_model a l e) (the_model a' l' k) = absurd (omega arith)
one_result (the_model a l e) (no_system q k) = absurd (not_refused a q)
one_result (the_model a l e) (short_model a' l' k) = absurd (omega arith)
one_result {s} {b} (the_model {f} {g} a l e) (the_model {f = f'} {g = g'} a' l' k) =
    let u = accepted_once s f g f' g' a a' in
    (refl, e ∙ ap₂ (λ (x y : Formula). model_bytes x y ++ drop model_length b) u.0 u.1 ∙ sym k)

-- ---- and the result determines the answer

-- a system's numbers are below 10
below_ten : (x : systems-refusal.Refusal) → ltb (systems-refusals.number x) 10 ≡ true
below_ten TooLong = refl
below_ten (Ended p) = refl
below_ten (UnknownKind p) = refl
below_ten (WrongSort p) = refl
below_ten (NoProposition p) = refl
below_ten (Leftover p) = refl

not_21 : (x : systems-refusal.Refusal) → systems-refusals.number x ≡ short_slice_number → ⊥
not_21 x e = let l = ltb-true (systems-refusals.number x) 10 (below_ten x) in omega arith

one_refusal : (x y : Refusal) → number x ≡ number y → place x ≡ place y → x ≡ y
one_refusal (OfSystem x) (OfSystem y) n p = ap OfSystem (system-refusal-once x y n p)
one_refusal (OfSystem x) ShortModel n p = absurd (not_21 x n)
one_refusal ShortModel (OfSystem y) n p = absurd (not_21 y (sym n))
one_refusal ShortModel ShortModel n p = refl

one_told : (x y : std.Result ⊤ Refusal) → told x ≡ told y → x ≡ y
one_told (Ok u) (Ok v) e = refl
one_told (Ok u) (Err y) e = absurd (let z : ◌≡◌ {A = ℕ} 0 1 = cc in omega arith)
one_told (Err x) (Ok u) e = absurd (let z : ◌≡◌ {A = ℕ} 0 1 = cc in omega arith)
one_told (Err x) (Err y) e = let n : number x ≡ number y = cc in let p : place x ≡ place y = cc in ap Err (one_refusal x y n p)

pub one_answer : (s b c d : List ℕ) (x y : std.Result ⊤ Refusal) → FormulasRight s b c (told x) → FormulasRight s b d (told y) → (x ≡ y) × (c ≡ d)
one_answer s b c d x y p q = let o = one_result p q in (one_told x y o.0, o.1)
