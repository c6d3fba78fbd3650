-- The line that says what a search came to, in ASCII. Assumes nothing: these are definitions.
use Rattle.std.specs.Prelude.{ℕ, zero, suc, cond, List, [], ◌∷◌, ◌++◌, eqb}
use Rattle.bits.specs.Word.{bit}
use Rattle.rules.specs.Named.{proposition_count}
use Rattle.levels.specs.Right.{Answer, found, nothing}
use Rattle.search.specs.Answer.{Result, answered, refused}
use Rattle.writing.specs.Decimal.{decimal, named}
use Rattle.writing.specs.Refused.{refused_text}

-- "found "
abbrev pub found_word : List ℕ
found_word = 102 ∷ 111 ∷ 117 ∷ 110 ∷ 100 ∷ 32 ∷ []

-- " pairs "
abbrev pub pairs_word : List ℕ
pairs_word = 32 ∷ 112 ∷ 97 ∷ 105 ∷ 114 ∷ 115 ∷ 32 ∷ []

-- ":"
abbrev pub colon : List ℕ
colon = 58 ∷ []

-- "none pairs "
abbrev pub none_word : List ℕ
none_word = 110 ∷ 111 ∷ 110 ∷ 101 ∷ 32 ∷ 112 ∷ 97 ∷ 105 ∷ 114 ∷ 115 ∷ 32 ∷ []

-- " uses"
abbrev pub uses_word : List ℕ
uses_word = 32 ∷ 117 ∷ 115 ∷ 101 ∷ 115 ∷ []

-- " -"
abbrev pub no_member_text : List ℕ
no_member_text = 32 ∷ 45 ∷ []

-- a number of a list, a blank before it
abbrev pub entry_text : ℕ → List ℕ
entry_text n = 32 ∷ decimal n

-- the states of a run
unfoldable pub states_text : List ℕ → List ℕ
states_text [] = []
states_text (s ∷ run) = entry_text s ++ states_text run

-- found: the run's length, the pair count and the run
unfoldable pub found_text : ℕ → List ℕ → ℕ → List ℕ
found_text length run pairs = named found_word length ++ named pairs_word pairs ++ (colon ++ states_text run)

-- none: the pair count
unfoldable pub none_text : ℕ → List ℕ
none_text pairs = named none_word pairs

abbrev pub searched_text : ℕ → Answer → List ℕ
searched_text length (found run pairs) = found_text length run pairs
searched_text length (nothing pairs) = none_text pairs

-- of the numbers below n those that are in the set, in rising order
abbrev pub member_text : ℕ → ℕ → List ℕ
member_text set i = cond (bit set i) (entry_text i) []

unfoldable pub members_text : ℕ → ℕ → List ℕ
members_text zero set = []
members_text (suc n) set = members_text n set ++ member_text set n

-- the propositions of a set; a dash for none
unfoldable pub set_text : ℕ → List ℕ
set_text set = cond (eqb set 0) no_member_text (members_text proposition_count set)

unfoldable pub uses_text : ℕ → List ℕ
uses_text set = uses_word ++ set_text set

-- what was found, and which propositions the rule names; a refusal has none of it
abbrev pub text_of : Result → List ℕ
text_of (answered known length x) = searched_text length x ++ uses_text known.uses
text_of (refused number place) = refused_text number place
