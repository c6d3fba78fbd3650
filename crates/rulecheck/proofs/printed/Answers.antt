-- `printed` lends the line all but the last byte, where a newline has room. Assumes nothing.
use native.Mathlib.Omega.{arith}
use lib.ListN.{length-take}
use Rattle.rulecheck.proofs.Printing.{first_byte, line_inside, there, printed_for}
use borrow.Author.Rules.{rules}
use Rattle.rulecheck.proofs.printed.Goals as goal

pub slice_bounds-line-end-2 : goal.slice_bounds-line-end-2
slice_bounds-line-end-2 c = simp length-take (omega arith)

pub bounds-out-end : goal.bounds-out-end
bounds-out-end c = there _ c.args.out.now _ _ c.requires.output c.line-end.ensures

pub overflow_add-result : goal.overflow_add-result
overflow_add-result c = let l = line_inside _ c.args.out.now _ _ c.requires.output c.line-end.ensures in search rules

pub returns : goal.returns
returns c = printed_for _ c.args.out.now _ _ c.requires.output (first_byte c.args.long c.args.space.now (search rules)) (rw c.front.ensures at c.line-end.ensures)
