-- `line_with` searches and writes what came out. Assumes nothing.
use Rattle.lines.proofs.Whole.{line_fits, line_written}
use Rattle.lines.proofs.line_with.Goals as goal

pub put_answer-requires : goal.put_answer-requires
put_answer-requires c = line_fits c.search-answer.result c.requires.1 c.requires.0 c.search-answer.ensures c.args.input.now (λ k. (c.shared_slice_known-1.given k).fits) c.model_in.ensures c.run-1.given

pub returns : goal.returns
returns c = line_written c.search-answer.result c.requires.1 c.requires.0 c.search-answer.ensures c.rule_in.ensures c.model_in.ensures (λ k. (c.slice_known-6-1.given k).fits) c.put_answer.ensures
