-- The numbers of a right answer of a search are promised. Assumes nothing.
use Prim.Native.Nat.{ℕ}
use mathlib.Core.Path.{◌≡◌}
use mathlib.Core.List.{List}
use Rattle.search.specs.Answer.{SearchAnswer}
use Rattle.search.specs.Answer as search
use Rattle.trimmed_search.specs.Answer.{TrimmedSearchRight}
use Rattle.c_answers.specs.declared.searching.GcSearched.{GcSearched}
use Rattle.c_answers.proofs.Given.{searched_of}
use Rattle.exports.specs.Promise.{GcSearches, GcSearchesTrimmed}

-- the numbers of a right answer are promised, whatever output they were computed for
pub searches : {rule model : List ℕ} {before after : search.Slices} (x : SearchAnswer) {r : GcSearched} → search.SearchRight rule model before after (search.told x after.run)
    → ((run : List ℕ) → r ≡ searched_of run x) → GcSearches rule model before after r
searches {after = after} x right given = record { answer = x; right = right; given = given after.run }

pub searches_trimmed : {rule model : List ℕ} {before after : search.Slices} (x : SearchAnswer) {r : GcSearched} → TrimmedSearchRight rule model before after (search.told x after.run)
    → ((run : List ℕ) → r ≡ searched_of run x) → GcSearchesTrimmed rule model before after r
searches_trimmed {after = after} x right given = record { answer = x; right = right; given = given after.run }
