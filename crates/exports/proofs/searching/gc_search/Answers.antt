-- `exports::searching::gc_search` meets its contract: the library's answer is right, and its numbers are given. Assumes nothing.
use Rattle.exports.proofs.Given.{searches}
use Rattle.exports.proofs.searching.gc_search.Goals as goal

pub returns : goal.returns
returns c = searches c.search-answer.result c.search-answer.ensures c.searched_numbers.ensures
