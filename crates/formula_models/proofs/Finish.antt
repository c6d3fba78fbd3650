-- From what the reader and the writer promise to the result of the whole. Assumes nothing.
use Prim.Native.Nat.{ℕ, ◌<◌, ◌≤◌}
use native.Mathlib.Omega.{arith}
use mathlib.Core.Path.{◌≡◌, refl, sym, subst}
use mathlib.Core.List.{List, ◌++◌}
use lib.ListN.{length, drop}
use Rattle.definitions.specs.Definition1.{Formula}
use Rattle.systems.specs.declared.Refusal as system-refusal
use Rattle.systems.specs.Answer as systems
use Rattle.systems.specs.Answer.{AcceptedAs}
use Rattle.systems.specs.inner.Walks.{Stands}
use Rattle.systems.proofs.Scan.{formula_ends}
use Rattle.systems.proofs.Standing.{formula_long, stands}
use Rattle.systems.proofs.Accepting.{as_a_system}
use Rattle.formula_models.specs.declared.Refusal.TheVariants.{OfSystem, ShortModel}
use Rattle.formula_models.specs.Refusals.{number, place}
use Rattle.formula_models.specs.Bytes.{model_length, model_bytes}
use Rattle.formula_models.specs.Answer.{written, refused, FormulasRight, no_system, short_model, the_model}
use Rattle.formula_models.specs.inner.Rows.{SystemStands}

module _ (s b : List ℕ) where
  pub told_refused : (x : system-refusal.Refusal) → systems.refused (number (OfSystem x)) (place (OfSystem x)) ≡ systems.answer s → FormulasRight s b b (refused (number (OfSystem x)) (place (OfSystem x)))
  told_refused x q = no_system (sym q) refl

  module _ (step : ℕ) (q : systems.accepted step ≡ systems.answer s) where
    -- the system that was read, which stands there
    record Read : Type 0 where
      f : Formula
      g : Formula
      accepted : AcceptedAs s f g
      standing : Stands s f g step
      third : 3 ≤ step

    as_read : Read
    as_read =
        let i = as_a_system s step q in
        let t = stands s i.0 i.1 i.2.read in
        let l = formula_long t.first in
        let k = formula_ends s t.first in
        record { f = i.0; g = i.1; accepted = i.2; standing = subst (Stands s i.0 i.1) (sym i.3) t; third = omega (arith, i.3) }

    pub told_short : length b < model_length → FormulasRight s b b (refused (number ShortModel) (place ShortModel))
    told_short l = short_model as_read.accepted l refl

    pub system_stands : SystemStands s step
    system_stands = record { initial = as_read.f; next = as_read.g; stands = as_read.standing; short = as_read.accepted.short; third = as_read.third }

    pub told_written : {c : List ℕ} → model_length ≤ length b → ((f g : Formula) → Stands s f g step → c ≡ model_bytes f g ++ drop model_length b) → FormulasRight s b c written
    told_written l w = the_model as_read.accepted l (w as_read.f as_read.g as_read.standing)
