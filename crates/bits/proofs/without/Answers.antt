use Rattle.bits.specs.Word.{word_bits}
use Rattle.bits.proofs.Laws.{and_pred, least_pos}
use Rattle.bits.proofs.without.Goals as goal

pub overflow_sub-result : goal.overflow_sub-result
overflow_sub-result c = least_pos c.args.w c.args.k c.requires.least

pub returns : goal.returns
returns c = and_pred word_bits c.args.w c.args.k c.ranges.w.fits c.requires.inside c.requires.least
