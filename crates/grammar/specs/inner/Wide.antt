-- A rule's bytes while they are found: before each operand stands a head of three bytes, a kind and its counts or fillers, since counts are read after
-- the operand that they stand before. Assumes nothing: these are definitions.
use Rattle.std.specs.Prelude.{ℕ, cond, List, [], ◌∷◌, ◌++◌, eqb}
use Rattle.definitions.specs.Definition1.{Rule, letter, empty, two, again, counted, occurs}
use Rattle.definitions.specs.Encoding.{pair_byte, repeat_byte, spell_f}
use Rattle.grammar.specs.declared.signs.Head.{Head}
use Rattle.grammar.specs.declared.signs.Head.TheVariants as head
use Rattle.grammar.specs.inner.Reading.{Counts, uncounted, from, Bracket, plus, starred}

-- no byte of a rule
abbrev pub filler : ℕ
filler = 255

abbrev pub head_length : ℕ
head_length = 3

-- of a kind that has no counts
abbrev pub plain_head : ℕ → List ℕ
plain_head kind = kind ∷ filler ∷ filler ∷ []

abbrev pub head_bytes : Head → List ℕ
head_bytes head.Letter = plain_head 0x10
head_bytes (head.Two p) = plain_head (pair_byte p)
head_bytes (head.Again p) = plain_head (repeat_byte p)
head_bytes (head.Counted i j) = 0x19 ∷ i ∷ j ∷ []
head_bytes (head.Occurs i j) = 0x1A ∷ i ∷ j ∷ []

abbrev pub bracket_head : Bracket → List ℕ
bracket_head plus = plain_head 0x18
bracket_head (starred uncounted) = plain_head 0x17
bracket_head (starred (from i j)) = 0x19 ∷ i ∷ j ∷ []

abbrev pub standing_head : Counts → List ℕ
standing_head uncounted = plain_head 0x10
standing_head (from i j) = 0x1A ∷ i ∷ j ∷ []

abbrev pub wide : Rule → List ℕ
wide (letter f) = plain_head 0x10 ++ spell_f f
wide empty = 0x11 ∷ []
wide (two p a b) = plain_head (pair_byte p) ++ (wide a ++ wide b)
wide (again p a) = plain_head (repeat_byte p) ++ wide a
wide (counted i j a) = 0x19 ∷ i ∷ j ∷ wide a
wide (occurs i j f) = 0x1A ∷ i ∷ j ∷ spell_f f

-- the bytes without the fillers
abbrev pub squeezed : List ℕ → List ℕ
squeezed [] = []
squeezed (x ∷ s) = cond (eqb x filler) (squeezed s) (x ∷ squeezed s)
