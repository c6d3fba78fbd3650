-- The proof of the cycle of calls {formula_end}. The measure is what is left of the slice from `at` on. Assumes nothing.
use mathlib.Core.Path.{sym, ap, ◌∙◌}
use native.Mathlib.Omega.{arith}
use Rattle.definitions.specs.declared.kinds.FormulaKind.TheVariants.{Proposition, Truth, Falsity, Not, Join}
use Rattle.systems.specs.declared.kinds.SystemKind.TheVariants.{Plain, Next}
use Rattle.systems.specs.inner.Places.{Here}
use Rattle.systems.proofs.Scan.{formula_ends}
use Rattle.systems.proofs.Readers.{f_next, f_prop, f_yea, f_nay, f_neg, f_join}
use Rattle.systems.proofs.ends.+formula_end.Goals as goal

pub returns-then-next : goal.returns-then-next
returns-then-next t c = let s = c.args.system.now in
    let at = c.args.at in
    let next = c.args.next in
    let h : Here s at Next = record { inside = omega arith; says = sym c.kind_of.ensures ∙ c.in-Next.is } in
    f_next s next at h c.if-next.true c.body_end.result c.body_end.ensures

pub returns-in-Proposition : goal.returns-in-Proposition
returns-in-Proposition t c = let s = c.args.system.now in
    let at = c.args.at in
    let next = c.args.next in
    let h : Here s at (Plain Proposition) = record { inside = omega arith; says = sym c.kind_of.ensures ∙ c.in-Plain.is ∙ ap Plain c.in-Proposition.is } in
    f_prop s next at h c.body_end-in-Proposition.result c.body_end-in-Proposition.ensures

pub returns-in-Not : goal.returns-in-Not
returns-in-Not t c = let s = c.args.system.now in
    let at = c.args.at in
    let next = c.args.next in
    let h : Here s at (Plain Not) = record { inside = omega arith; says = sym c.kind_of.ensures ∙ c.in-Plain.is ∙ ap Plain c.in-Not.is } in
    f_neg s next at h c.formula_end.result c.formula_end.ensures

pub formula_end-requires-in-Join-2 : goal.formula_end-requires-in-Join-2
formula_end-requires-in-Join-2 t c = let i = formula_ends c.args.system.now c.in_ok-m-in-Join.ensures.1 in (omega arith, tt)

pub returns-in-Join : goal.returns-in-Join
returns-in-Join t c = let s = c.args.system.now in
    let at = c.args.at in
    let next = c.args.next in
    let h : Here s at (Plain (Join c.in-Join.field-0)) = record { inside = omega arith; says = sym c.kind_of.ensures ∙ c.in-Plain.is ∙ ap Plain c.in-Join.is } in
    f_join s next at _ h c.in_ok-m-in-Join.m c.in_ok-m-in-Join.ensures c.formula_end-in-Join-2.result c.formula_end-in-Join-2.ensures

pub returns-in-Truth : goal.returns-in-Truth
returns-in-Truth t c = let s = c.args.system.now in
    let at = c.args.at in
    let next = c.args.next in
    let h : Here s at (Plain Truth) = record { inside = omega arith; says = sym c.kind_of.ensures ∙ c.in-Plain.is ∙ ap Plain c.in-Truth.is } in
    f_yea s next at h

pub returns-in-Falsity : goal.returns-in-Falsity
returns-in-Falsity t c = let s = c.args.system.now in
    let at = c.args.at in
    let next = c.args.next in
    let h : Here s at (Plain Falsity) = record { inside = omega arith; says = sym c.kind_of.ensures ∙ c.in-Plain.is ∙ ap Plain c.in-Falsity.is } in
    f_nay s next at h
