-- `past_nots` goes on while a `not` stands there; a formula stands wherever it is. Assumes nothing.
use Prim.Native.Nat.{ℕ, ◌<◌}
use mathlib.Core.Path.{◌≡◌, ap}
use mathlib.Core.Bool.{Bool}
use mathlib.Core.List.{List}
use native.Mathlib.Omega.{arith}
use lib.ListN.{length, get_or}
use Rattle.definitions.specs.declared.kinds.FormulaKind.TheVariants.{Not}
use Rattle.definitions.specs.declared.kinds.Kind.TheVariants.{OfFormula}
use Rattle.definitions.specs.Kinds.{kind_of}
use Rattle.rules.specs.Places.{GoodFormula}
use Rattle.formulas.specs.Labels.{NotsTo}
use Rattle.rules.proofs.Walks.{formula_here}
use Rattle.formulas.proofs.Labelling.{nots_none, nots_more}
use Rattle.formulas.proofs.past_nots.Goals as goal

-- what stands after the `not`s is inside
here : {s : List ℕ} {at to : ℕ} {odd : Bool} → GoodFormula s at → NotsTo s at to odd → to < length s
here {s} {at} {to} g n = let m = n.under g.0 g.1 g.2 in formula_here s to (m.0, g.1, m.1)

is-not : (s : List ℕ) (to : ℕ) → get_or s to 0 ≡ 0x04 → kind_of (get_or s to 0) ≡ OfFormula Not
unfolding kind_of
is-not s to e = ap kind_of e

pub loop-end-init : goal.loop-end-init
loop-end-init c = (omega arith, nots_none _ _)

pub bounds-rule-end : goal.bounds-rule-end
bounds-rule-end c = here c.requires c.loop-end.invariant.1

pub overflow_add-end : goal.overflow_add-end
overflow_add-end c = let h = here c.requires c.loop-end.invariant.1 in
    omega arith

pub loop-end-smaller : goal.loop-end-smaller
loop-end-smaller c = let h = here c.requires c.loop-end.invariant.1 in
    omega arith

pub loop-end-preserved : goal.loop-end-preserved
loop-end-preserved c = let z = c.args in
    let i = c.loop-end.invariant in
    (omega (arith, i.0), nots_more _ _ i.1 (is-not z.rule.now _ c.loop-end-test.true))

pub returns : goal.returns
returns c = c.loop-end.invariant
