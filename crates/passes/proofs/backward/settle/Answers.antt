-- `search::backward::settle` meets its contract. One store.
-- Assumes nothing.
use Prim.Native.Nat.{ℕ, ◌/◌}
use mathlib.Core.Path.{ap}
use native.Mathlib.Omega.{arith}
use lib.ListN.{set, get_or}
use Rattle.automata.specs.Table.{table_states}
use Rattle.passes.specs.inner.Uses.{useful_at}
use Rattle.passes.proofs.backward.settle.Goals as goal

pub overflow_cast-place : goal.overflow_cast-place
overflow_cast-place c = record { fits = omega (arith, (c.type_inv.marks c.args.at).fits) }

pub returns : goal.returns
returns c = let a = c.args in
    record { answer = c.keeps-yes.result; says = c.keeps-yes.ensures; stored = ap (λ (v : ℕ). set a.useful.now (useful_at (get_or a.marks.now a.at 0) (a.at / table_states)) v) c.with_if.ensures }
