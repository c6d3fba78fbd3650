-- `put_searched` writes what was found, by its cases. Assumes nothing.
use native.Mathlib.Omega.{arith}
use Rattle.lines.proofs.Cases.{found_fits, none_fits, found_says, none_says}
use Rattle.lines.proofs.answers.put_searched.Goals as goal

pub put_found-requires : goal.put_found-requires
put_found-requires c = found_fits c.args.searched c.args.run.now c.args.out.now c.requires _ c.in-Some.is (omega (arith, (rw c.in-Some.is at c.requires).run_there, c.well_formed.1.1.0)) (omega arith)

pub put_none-requires : goal.put_none-requires
put_none-requires c = none_fits c.args.searched c.args.run.now c.args.out.now c.requires _ (omega arith)

pub returns-in-Some : goal.returns-in-Some
returns-in-Some c = found_says c.args.searched c.args.run.now c.args.out.now c.requires _ c.in-Some.is (omega (arith, (rw c.in-Some.is at c.requires).run_there, c.well_formed.1.1.0)) (omega arith) c.put_found.ensures

pub returns-in-None : goal.returns-in-None
returns-in-None c = none_says c.args.searched c.args.run.now c.args.out.now c.requires c.in-None.is (omega arith) c.put_none.ensures
