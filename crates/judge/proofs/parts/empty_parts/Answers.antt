-- `parts::empty_parts` meets its contract: each row has its one bit. Assumes nothing.
use mathlib.Core.Path.{◌≡◌, refl, sym}
use borrow.Author.Rules.{rules}
use Rattle.bits.specs.Word.{insert}
use Rattle.judge.proofs.Rows.{rows_made, filled_rows, one_bit}
use Rattle.judge.proofs.parts.empty_parts.Goals as goal

pub returns : goal.returns
returns c = filled_rows (λ i l. one_bit (rows_made (λ i y. y ≡ insert 0 i) _ _ (λ i y q m k. search rules) c.from_fn.ensures.items i l) refl (λ e q. sym q))
