-- `tables::build` meets its contract. Assumes nothing.
use native.Mathlib.Omega.{arith}
use Rattle.std.proofs.lemmas.Result.{err_from_is_err_and}
use Rattle.tables.proofs.promise.Tabling.{the_rule, right_refused, right_short, right_table}
use Rattle.tables.proofs.build.Goals as goal

pub returns-in_err-known : goal.returns-in_err-known
returns-in_err-known c =
    let p = err_from_is_err_and c.from_residual.result c.from_residual.ensures.1 in
    rw (p.1, p.2) (right_refused c.args.rule.now _ c.read_rule.ensures _ _ c.in_err-known.was)

pub returns-then-table-lt-TABLE_ENTRIES : goal.returns-then-table-lt-TABLE_ENTRIES
returns-then-table-lt-TABLE_ENTRIES c = right_short c.args.rule.now _ c.read_rule.ensures _ c.in_ok-known.was _ (omega (arith, c.if-table-lt-TABLE_ENTRIES.true))

pub build_accepted-finals-requires : goal.build_accepted-finals-requires
build_accepted-finals-requires c = let i = the_rule c.args.rule.now _ c.read_rule.ensures _ c.in_ok-known.was in
    ((i.0, i.1), omega arith)

pub returns : goal.returns
returns c = right_table c.args.rule.now _ c.read_rule.ensures _ c.in_ok-known.was c.build_accepted-finals.ensures
