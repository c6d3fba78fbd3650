-- The house form: the bytes that spell a rule. Assumes nothing: these are definitions.
use Rattle.std.specs.Prelude.{ℕ, ◌+◌, ◌≤◌, Bool, ◌&&◌, List, [], ◌∷◌, ◌++◌, ◌≡◌, leb, get_or}
use Rattle.definitions.specs.declared.counts.Counts.{Counts}
use Rattle.definitions.specs.declared.kinds.Junction.{Junction}
use Rattle.definitions.specs.declared.kinds.Junction.TheVariants.{And, Or}
use Rattle.definitions.specs.declared.kinds.Pair.{Pair}
use Rattle.definitions.specs.declared.kinds.Pair.TheVariants.{Then, Overlap, Either, Within, Both}
use Rattle.definitions.specs.declared.kinds.Repeat.{Repeat}
use Rattle.definitions.specs.declared.kinds.Repeat.TheVariants.{Star, Plus}
use Rattle.definitions.specs.Definition2.{last_proposition}
use Rattle.definitions.specs.Definition1.{Formula, prop, yea, nay, neg, join, Rule, letter, empty, two, again, counted, occurs}

abbrev pub junction_byte : Junction → ℕ
junction_byte And = 0x05
junction_byte Or = 0x06

abbrev pub pair_byte : Pair → ℕ
pair_byte Then = 0x12
pair_byte Overlap = 0x13
pair_byte Either = 0x14
pair_byte Within = 0x15
pair_byte Both = 0x16

abbrev pub repeat_byte : Repeat → ℕ
repeat_byte Star = 0x17
repeat_byte Plus = 0x18

abbrev pub spell_f : Formula → List ℕ
spell_f (prop i) = 0x01 ∷ i ∷ []
spell_f yea = 0x02 ∷ []
spell_f nay = 0x03 ∷ []
spell_f (neg f) = 0x04 ∷ spell_f f
spell_f (join j f g) = junction_byte j ∷ (spell_f f ++ spell_f g)

abbrev pub spell : Rule → List ℕ
spell (letter f) = 0x10 ∷ spell_f f
spell empty = 0x11 ∷ []
spell (two p a b) = pair_byte p ∷ (spell a ++ spell b)
spell (again p a) = repeat_byte p ∷ spell a
spell (counted i j a) = 0x19 ∷ i ∷ j ∷ spell a
spell (occurs i j f) = 0x1A ∷ i ∷ j ∷ spell_f f

abbrev pub largest_count : ℕ
largest_count = 15

-- i and j may stand as the two counts
pub record CountsFit (i j : ℕ) : Type 0 where
  pub rising : i ≤ j
  pub small : j ≤ largest_count

-- the same as a test
abbrev pub counts_do_fit : ℕ → ℕ → Bool
counts_do_fit i j = leb i j && leb j largest_count

-- every proposition is one of those that there are, and counts fit
abbrev pub SmallF : Formula → Type 0
SmallF (prop i) = i ≤ last_proposition
SmallF yea = Unit {0}
SmallF nay = Unit {0}
SmallF (neg f) = SmallF f
SmallF (join j f g) = SmallF f × SmallF g

abbrev pub Small : Rule → Type 0
Small (letter f) = SmallF f
Small empty = Unit {0}
Small (two p a b) = Small a × Small b
Small (again p a) = Small a
Small (counted i j a) = CountsFit i j × Small a
Small (occurs i j f) = CountsFit i j × SmallF f

-- the counts after the kind byte at `at`
pub record CountsAs (s : List ℕ) (at : ℕ) (c : Counts) : Type 0 where
  pub low : c.low ≡ get_or s (at + 1) 0
  pub high : c.high ≡ get_or s (at + 2) 0
