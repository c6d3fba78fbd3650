-- Source document 001, Definition 2: which sequences of letters a rule accepts, a line for each operator. Assumes nothing: these are definitions.
use Rattle.std.specs.Prelude.{ℕ, zero, suc, ◌+◌, ◌≤◌, ◌≡◌, ◌⊎◌, ◌≢◌, Bool, true, false, not, cond, ◌&&◌, ◌||◌, List, [], ◌∷◌, ◌++◌, T}
use Rattle.bits.specs.Word.{bit}
use Rattle.definitions.specs.declared.kinds.Junction.{Junction}
use Rattle.definitions.specs.declared.kinds.Junction.TheVariants.{And, Or}
use Rattle.definitions.specs.declared.kinds.Pair.TheVariants.{Then, Overlap, Either, Within, Both}
use Rattle.definitions.specs.declared.kinds.Repeat.TheVariants.{Star, Plus}
use Rattle.definitions.specs.Definition1.{Formula, prop, yea, nay, neg, join, Rule, letter, empty, two, again, counted, occurs}

-- a letter is a number below this; proposition i holds in it where its bit i is set
abbrev pub letter_count : ℕ
letter_count = 64

-- the propositions are the numbers up to this
abbrev pub last_proposition : ℕ
last_proposition = 5

abbrev pub joined : Junction → Bool → Bool → Bool
joined And a b = a && b
joined Or a b = a || b

-- the formula holds in the letter x
unfoldable pub holds : Formula → ℕ → Bool
holds (prop i) x = bit x i
holds yea x = true
holds nay x = false
holds (neg f) x = not (holds f x)
holds (join j f g) x = joined j (holds f x) (holds g x)

-- w is one letter, of which f is true
pub record OneLetter (f : ℕ → Bool) (w : List ℕ) : Type 0 where
  pub x : ℕ
  pub whole : w ≡ x ∷ []
  pub fits : T (f x)

-- w is w1 and then w2, with w1 in P and w2 in Q
pub record Parts (P Q : List ℕ → Type 0) (w : List ℕ) : Type 0 where
  pub w1 : List ℕ
  pub w2 : List ℕ
  pub whole : w ≡ w1 ++ w2
  pub first : P w1
  pub second : Q w2

-- w is w1, a letter x and w2; with the shared x, w1 x is in P and x w2 in Q
pub record Overlaps (P Q : List ℕ → Type 0) (w : List ℕ) : Type 0 where
  pub w1 : List ℕ
  pub x : ℕ
  pub w2 : List ℕ
  pub whole : w ≡ w1 ++ (x ∷ w2)
  pub first : P (w1 ++ (x ∷ []))
  pub second : Q (x ∷ w2)

-- some beginning of w is in P
pub record Begins (P : List ℕ → Type 0) (w : List ℕ) : Type 0 where
  pub w1 : List ℕ
  pub w2 : List ℕ
  pub whole : w ≡ w1 ++ w2
  pub first : P w1

-- w is empty, or a non-empty w1 in P and then a w2 that is again such a row
pub data Repeats (P : List ℕ → Type 0) : List ℕ → Type 0 where
  none : Repeats P []
  more : {w : List ℕ} (w1 w2 : List ℕ) → w ≡ w1 ++ w2 → w1 ≢ [] → P w1 → Repeats P w2 → Repeats P w

-- w is k parts in a row, each in P; an empty part counts like any other
abbrev pub InARow : (List ℕ → Type 0) → ℕ → List ℕ → Type 0
InARow P zero w = w ≡ []
InARow P (suc k) w = Parts P (InARow P k) w

-- w is some number k of parts in a row, from i to j of them
pub record CountedParts (i j : ℕ) (P : List ℕ → Type 0) (w : List ℕ) : Type 0 where
  pub k : ℕ
  pub low : i ≤ k
  pub high : k ≤ j
  pub parts : InARow P k w

-- how many letters of w satisfy f
abbrev pub satisfying : (ℕ → Bool) → List ℕ → ℕ
satisfying f [] = 0
satisfying f (x ∷ w) = cond (f x) 1 0 + satisfying f w

-- from i to j letters of w satisfy f, wherever they stand; the others are any
pub record CountedLetters (i j : ℕ) (f : ℕ → Bool) (w : List ℕ) : Type 0 where
  pub low : i ≤ satisfying f w
  pub high : satisfying f w ≤ j

-- the rule accepts w
unfoldable pub Sat : Rule → List ℕ → Type 0
Sat empty w = w ≡ []
Sat (letter f) w = OneLetter (holds f) w
Sat (two Then a b) w = Parts (Sat a) (Sat b) w
Sat (two Overlap a b) w = Overlaps (Sat a) (Sat b) w
Sat (two Either a b) w = Sat a w ⊎ Sat b w
Sat (two Within a b) w = (Sat a w × Begins (Sat b) w) ⊎ (Sat b w × Begins (Sat a) w)
Sat (two Both a b) w = Sat a w × Sat b w
Sat (again Star a) w = Repeats (Sat a) w
Sat (again Plus a) w = Parts (Sat a) (Repeats (Sat a)) w
Sat (counted i j a) w = CountedParts i j (Sat a) w
Sat (occurs i j f) w = CountedLetters i j (holds f) w
