-- `rules::weight_of_pair` meets its contract. Assumes nothing.
use Prim.Native.Nat.{ℕ, ◌*◌, ◌≤◌}
use native.Mathlib.Nat.{mul-le-mul}
use native.Mathlib.Omega.{arith}
use Rattle.rules.proofs.weights.weight_of_pair.Goals as goal

product : (m n : ℕ) → m ≤ 65 → n ≤ 65 → m * n ≤ 4225
product m n p q = mul-le-mul p q

pub overflow_mul-m : goal.overflow_mul-m
overflow_mul-m c = omega (arith, product c.args.m c.args.n c.requires.0 c.requires.1)

pub overflow_mul-m-in-Within : goal.overflow_mul-m-in-Within
overflow_mul-m-in-Within c = omega (arith, product c.args.m c.args.n c.requires.0 c.requires.1)

pub overflow_add-m-in-Within : goal.overflow_add-m-in-Within
overflow_add-m-in-Within c = omega (arith, product c.args.m c.args.n c.requires.0 c.requires.1)

pub overflow_add-m-in-Within-2 : goal.overflow_add-m-in-Within-2
overflow_add-m-in-Within-2 c = omega (arith, product c.args.m c.args.n c.requires.0 c.requires.1)

pub overflow_add-m-in-Within-3 : goal.overflow_add-m-in-Within-3
overflow_add-m-in-Within-3 c = omega (arith, product c.args.m c.args.n c.requires.0 c.requires.1)

pub overflow_mul-m-in-Both : goal.overflow_mul-m-in-Both
overflow_mul-m-in-Both c = omega (arith, product c.args.m c.args.n c.requires.0 c.requires.1)

pub returns-in-Then : goal.returns-in-Then
returns-in-Then c = rw c.in-Then.is c.capped.ensures

pub returns-in-Overlap : goal.returns-in-Overlap
returns-in-Overlap c = rw c.in-Overlap.is c.capped-in-Overlap.ensures

pub returns-in-Either : goal.returns-in-Either
returns-in-Either c = rw c.in-Either.is c.capped-in-Either.ensures

pub returns-in-Within : goal.returns-in-Within
returns-in-Within c = rw c.in-Within.is c.capped-in-Within.ensures

pub returns-in-Both : goal.returns-in-Both
returns-in-Both c = rw c.in-Both.is c.capped-in-Both.ensures
