-- What request 2026-08 asks holds. Assumes nothing.
use Prim.Native.Nat.{ℕ, ◌≤◌}
use native.Mathlib.Omega.{arith}
use mathlib.Core.Path.{◌≡◌, refl, sym, ap, ap₂, subst, ◌∙◌}
use mathlib.Core.Bool.{Bool, true}
use mathlib.Core.Logic.{◌↔◌}
use mathlib.Core.List.{List, ◌++◌}
use lib.ListN.{length, take, drop, length-append, length-drop}
use lib.Seq.{drop_at}
use Rattle.definitions.specs.Definition1.{Formula}
use Rattle.definitions.specs.Definition2.{holds}
use Rattle.systems.specs.Answer.{AcceptedAs}
use Rattle.systems.proofs.Accepting.{accepted_spelling, accepted_once}
use Rattle.systems.proofs.Faulting.{refused_line, line_refused}
use Rattle.systems.proofs.Spelled.{spell_now, spell_next}
use Rattle.systems.proofs.Once as reader
use Rattle.formula_models.specs.Meaning.{Means}
use Rattle.formula_models.specs.Bytes.{model_bytes}
use Rattle.formula_models.specs.Answer.{Result, written, refused, FormulasRight, no_system, short_model, the_model}
use Rattle.formula_models.proofs.Pairing.{now_bit, next_bit}
use Rattle.formula_models.proofs.Modelling.{model_long, is_a_model, means, begins_with}
use Rattle.formula_models.proofs.Once.{not_refused, one_answer}
use Rattle.demands.specs.Terms.{IsModel, model_in_of}
use Rattle.demands.specs.FormulaModels.{TwoFormulas, SystemBytes, OneReading, VariablesOfBoth, WrittenExactly, SaidBy, ModelIsSaid, PastAsItWas, RefusedFormulasKeep, of_system, short_slice, FormulasFault, FormulasRefusedExactly, FormulaModels}

accepted_two : {s : List ℕ} {f g : Formula} → AcceptedAs s f g → TwoFormulas s f g
accepted_two {s} {f} {g} a = let x = (accepted_spelling s f g).0 a in record { spelt = x.0; short = x.1 }

two_accepted : {s : List ℕ} {f g : Formula} → TwoFormulas s f g → AcceptedAs s f g
two_accepted {s} {f} {g} t = (accepted_spelling s f g).1 (t.spelt, t.short)

one_reading : OneReading
one_reading s f g f' g' t u = accepted_once s f g f' g' (two_accepted t) (two_accepted u)

variables_of_both : VariablesOfBoth
unfolding holds
variables_of_both x y i h l = (now_bit x h y i l, next_bit x h y i)

no_written : {n p : ℕ} → refused n p ≡ written → ⊥
no_written e = let z : ◌≡◌ {A = ℕ} 0 1 = cc in omega arith

written_exactly : WrittenExactly
written_exactly s b a x r = (out r, back r)
  where
    out : {x : Result} → FormulasRight s b a x → x ≡ written → ((f : Formula) × (g : Formula) × TwoFormulas s f g) × (704 ≤ length b)
    out (no_system q e) z = absurd (no_written z)
    out (short_model t l e) z = absurd (no_written z)
    out (the_model {f} {g} t l e) z = ((f, g, accepted_two t), l)

    back : {x : Result} → FormulasRight s b a x → ((f : Formula) × (g : Formula) × TwoFormulas s f g) × (704 ≤ length b) → x ≡ written
    back (no_system q e) (t, l) = absurd (not_refused (two_accepted t.2) q)
    back (short_model t k e) (u, l) = absurd (omega arith)
    back (the_model t k e) u = refl

-- what the formulas say, as truths
truth_of : {a b : Bool} → a ≡ b → (a ≡ true) ↔ (b ≡ true)
truth_of e = (λ h. sym e ∙ h, λ h. e ∙ h)

said_by : {a : List ℕ} (f g : Formula) → take 704 a ≡ model_bytes f g → SaidBy a f g
said_by {a} f g e =
    let m : Means (model_in_of (take 704 a)) f g = subst (λ (l : List ℕ). Means (model_in_of l) f g) (sym e) (means f g) in
    record {
      accepted = subst IsModel (sym e) (is_a_model f g);
      states = m.states;
      letter = m.letter;
      initial = λ x h. truth_of (m.initial x h);
      next = λ x y h k. truth_of (m.next x y h k);
    }

written_bytes : {s b a : List ℕ} (f g : Formula) → TwoFormulas s f g → FormulasRight s b a written → (704 ≤ length b) × (a ≡ model_bytes f g ++ drop 704 b)
written_bytes {s} {b} f g t r = go r refl
  where
    go : {a : List ℕ} {x : Result} → FormulasRight s b a x → x ≡ written → (704 ≤ length b) × (a ≡ model_bytes f g ++ drop 704 b)
    go (no_system q e) z = absurd (no_written z)
    go (short_model u l e) z = absurd (no_written z)
    go (the_model {f = f'} {g = g'} u l e) z = let o = accepted_once s f' g' f g u (two_accepted t) in (l, e ∙ ap₂ (λ (x y : Formula). model_bytes x y ++ drop 704 b) o.0 o.1)

model_is_said : ModelIsSaid
model_is_said s b a f g t r = said_by f g (begins_with f g b (written_bytes f g t r).1)

past_as_it_was : PastAsItWas
past_as_it_was s b a r = go r refl
  where
    go : {x : Result} → FormulasRight s b a x → x ≡ written → (length a ≡ length b) × (drop 704 a ≡ drop 704 b)
    go (no_system q e) z = absurd (no_written z)
    go (short_model u l e) z = absurd (no_written z)
    go (the_model {f} {g} u l e) z =
        let n = model_long f g in
        (ap length e ∙ (let k = length-append (model_bytes f g) (drop 704 b) in let m = length-drop 704 b in omega arith), ap (drop 704) e ∙ drop_at (model_bytes f g) (drop 704 b) 704 n)

refused_formulas_keep : RefusedFormulasKeep
refused_formulas_keep s b a n p r = go r refl
  where
    go : {x : Result} → FormulasRight s b a x → x ≡ refused n p → a ≡ b
    go (no_system q e) z = e
    go (short_model u l e) z = e
    go (the_model u l e) z = absurd (no_written (sym z))

formulas_refused_exactly : FormulasRefusedExactly
formulas_refused_exactly s b a x n p r = (out r, back r)
  where
    out : {x : Result} → FormulasRight s b a x → x ≡ refused n p → FormulasFault s b n p
    out (no_system {n = m} {p = i} q e) z =
        let u : m ≡ n = cc in
        let v : i ≡ p = cc in
        rw (← u, ← v) (of_system (refused_line s m i q))
    out (short_model {f} {g} t l e) z =
        let u : 21 ≡ n = cc in
        let v : 0 ≡ p = cc in
        rw (← u, ← v) (short_slice f g (accepted_two t) l)
    out (the_model t l e) z = absurd (no_written (sym z))

    back : {x : Result} {n p : ℕ} → FormulasRight s b a x → FormulasFault s b n p → x ≡ refused n p
    back {n = n} {p = p} (no_system q e) (of_system f) = let z = line_refused s n p f in cc
    back (no_system q e) (short_slice f g t l) = absurd (not_refused (two_accepted t) q)
    back {n = n} {p = p} (short_model t l e) (of_system f) = absurd (not_refused t (line_refused s n p f))
    back (short_model t l e) (short_slice f g u k) = refl
    back {n = n} {p = p} (the_model t l e) (of_system f) = absurd (not_refused t (line_refused s n p f))
    back (the_model t l e) (short_slice f g u k) = absurd (omega arith)

system_bytes : SystemBytes
system_bytes = record {
  is_system = λ f g. refl;
  is_now = spell_now;
  is_next = spell_next;
  is_true = refl;
  is_false = refl;
  is_not = λ f. refl;
  is_and = λ f g. refl;
  is_or = λ f g. refl;
  of_this_state = λ i. (λ h. h, λ h. h);
  of_both_states = λ i. (λ h. h, λ h. h);
}

pub formula_answer : FormulaModels
formula_answer = record {
  system_bytes = system_bytes;
  one_reading = one_reading;
  variables_of_both = variables_of_both;
  written_exactly = written_exactly;
  model_is_said = model_is_said;
  past_as_it_was = past_as_it_was;
  refused_formulas_keep = refused_formulas_keep;
  formulas_refused_exactly = formulas_refused_exactly;
  one_formulas = one_answer;
  one_system = reader.one_answer;
}
