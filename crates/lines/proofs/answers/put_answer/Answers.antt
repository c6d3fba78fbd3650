-- `put_answer` writes the line of what a search came to, by its cases. Assumes nothing.
use native.Mathlib.Omega.{arith}
use Rattle.lines.proofs.Cases.{searched_fits, uses_fits, refused_fits, answered_says, refused_says}
use Rattle.lines.proofs.answers.put_answer.Goals as goal

pub put_searched-past-requires : goal.put_searched-past-requires
put_searched-past-requires c = searched_fits c.args.answer c.args.run.now c.args.out.now c.requires c.in-Ok.is

pub put_uses-requires : goal.put_uses-requires
put_uses-requires c = uses_fits c.args.answer c.args.run.now c.args.out.now c.requires c.put_searched-past.ensures

pub put_refused-requires : goal.put_refused-requires
put_refused-requires c = refused_fits c.args.answer c.args.run.now c.args.out.now c.requires _ _ (omega arith) (omega arith)

pub returns-in-Ok : goal.returns-in-Ok
returns-in-Ok c = answered_says c.args.answer c.args.run.now c.args.out.now c.requires c.in-Ok.is c.put_searched-past.ensures.0 c.put_uses.ensures

pub returns-in-Err : goal.returns-in-Err
returns-in-Err c = refused_says c.args.answer c.args.run.now c.args.out.now c.requires _ c.in-Err.is c.number.ensures c.place.ensures c.put_refused.ensures
