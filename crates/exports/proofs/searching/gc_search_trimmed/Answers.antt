-- `exports::searching::gc_search_trimmed` meets its contract: the library's answer is right, and its numbers are given. Assumes nothing.
use Rattle.exports.proofs.Given.{searches_trimmed}
use Rattle.exports.proofs.searching.gc_search_trimmed.Goals as goal

pub returns : goal.returns
returns c = searches_trimmed c.search_trimmed-answer.result c.search_trimmed-answer.ensures c.searched_numbers.ensures
