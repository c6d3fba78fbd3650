-- `parts::letter_parts` meets its contract: each row says which part that begins there is the letter. Assumes nothing.
use borrow.Author.Rules.{rules}
use Rattle.judge.specs.inner.Judging.{LetterRow}
use Rattle.judge.proofs.Rows.{rows_made, filled_rows}
use Rattle.judge.proofs.parts.letter_parts.Goals as goal

pub returns : goal.returns
returns c f e d = filled_rows (λ i l. rows_made (LetterRow c.args.rule.now c.args.at c.args.letters.now) _ _ (λ i y q m k. search rules) c.from_fn.ensures.items i l f e d)
