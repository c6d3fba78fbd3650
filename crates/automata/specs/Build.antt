-- The automaton of a rule, operator by operator: which letters lead from p to q, and which states are final. The operand A has m states, B has n.
-- Assumes nothing: these are definitions.
use Rattle.std.specs.Prelude.{ℕ, zero, suc, ◌+◌, ◌*◌, ◌-◌, ◌<◌, ◌≤◌, ◌≡◌, ◌⊎◌, Bool, not, T}
use Rattle.definitions.specs.declared.kinds.Pair.TheVariants.{Then, Overlap, Either, Within, Both}
use Rattle.definitions.specs.declared.kinds.Repeat.TheVariants.{Star, Plus}
use Rattle.definitions.specs.Definition1.{Rule, letter, empty, two, again, counted, occurs, yea}
use Rattle.definitions.specs.Definition2.{holds}
use Rattle.automata.specs.Auto.{Auto}

-- The empty sequence: one state, which is final, and no step.
abbrev pub empty_a : Auto
empty_a = record { size = 1; step = λ p x q. ⊥; final = λ q. q ≡ 0 }

-- A letter: from 0 to 1 under the letters of which f is true; 1 is final.
pub data LetterStep (f : ℕ → Bool) (p x q : ℕ) : Type 0 where
  the_label : p ≡ 0 → q ≡ 1 → T (f x) → LetterStep f p x q

abbrev pub letter_a : (ℕ → Bool) → Auto
letter_a f = record { size = 2; step = LetterStep f; final = λ q. q ≡ 1 }

-- the steps S and the finals F, with the states moved up by k
pub data Up (k : ℕ) (S : ℕ → ℕ → ℕ → Type 0) (p x q : ℕ) : Type 0 where
  up : (i j : ℕ) → p ≡ k + i → q ≡ k + j → S i x j → Up k S p x q

pub data UpF (k : ℕ) (F : ℕ → Type 0) (q : ℕ) : Type 0 where
  up : (j : ℕ) → q ≡ k + j → F j → UpF k F q

-- `;` (m+n): A's steps, B's moved up by m, and across: a final state of A goes wherever B's state 0 goes.
-- B's finals are final; A's are too, where B's state 0 is.
pub data ThenStep (A B : Auto) (p x q : ℕ) : Type 0 where
  a's : A.step p x q → ThenStep A B p x q
  b's : Up A.size B.step p x q → ThenStep A B p x q
  cross : (j : ℕ) → q ≡ A.size + j → A.final p → B.step 0 x j → ThenStep A B p x q

pub data ThenFinal (A B : Auto) (q : ℕ) : Type 0 where
  b's : UpF A.size B.final q → ThenFinal A B q
  a's : A.final q → B.final 0 → ThenFinal A B q

abbrev pub then_a : Auto → Auto → Auto
then_a A B = record { size = A.size + B.size; step = ThenStep A B; final = ThenFinal A B }

-- `:` (m+n): A's steps, B's moved up by m, and across: under one letter x, A goes from p to a final f and B from 0 to j. B's finals are final.
pub data OverlapStep (A B : Auto) (p x q : ℕ) : Type 0 where
  a's : A.step p x q → OverlapStep A B p x q
  b's : Up A.size B.step p x q → OverlapStep A B p x q
  cross : (f j : ℕ) → q ≡ A.size + j → A.step p x f → A.final f → B.step 0 x j → OverlapStep A B p x q

abbrev pub overlap_a : Auto → Auto → Auto
overlap_a A B = record { size = A.size + B.size; step = OverlapStep A B; final = UpF A.size B.final }

-- `|` (1+m+n): A moved up by 1 and B by 1+m; a new state 0 goes wherever the two old ones go, and is final if either was.
pub data EitherStep (A B : Auto) (p x q : ℕ) : Type 0 where
  a's : Up 1 A.step p x q → EitherStep A B p x q
  b's : Up (1 + A.size) B.step p x q → EitherStep A B p x q
  from_a : (j : ℕ) → p ≡ 0 → q ≡ 1 + j → A.step 0 x j → EitherStep A B p x q
  from_b : (j : ℕ) → p ≡ 0 → q ≡ 1 + A.size + j → B.step 0 x j → EitherStep A B p x q

pub data EitherFinal (A B : Auto) (q : ℕ) : Type 0 where
  a's : UpF 1 A.final q → EitherFinal A B q
  b's : UpF (1 + A.size) B.final q → EitherFinal A B q
  new : q ≡ 0 → A.final 0 ⊎ B.final 0 → EitherFinal A B q

abbrev pub either_a : Auto → Auto → Auto
either_a A B = record { size = 1 + A.size + B.size; step = EitherStep A B; final = EitherFinal A B }

-- `&&` (m·n): the state i·n+j is the pair of i and j; it steps where both step under one letter, and is final where both are.
pub data BothStep (A B : Auto) (p x q : ℕ) : Type 0 where
  pair : (i j i' j' : ℕ) → p ≡ i * B.size + j → q ≡ i' * B.size + j' → A.step i x i' → B.step j x j' → BothStep A B p x q

pub data BothFinal (A B : Auto) (q : ℕ) : Type 0 where
  pair : (i j : ℕ) → q ≡ i * B.size + j → A.final i → B.final j → BothFinal A B q

abbrev pub both_a : Auto → Auto → Auto
both_a A B = record { size = A.size * B.size; step = BothStep A B; final = BothFinal A B }

-- `[+]` (m): A's steps, and a final state goes wherever state 0 goes.
pub data PlusStep (A : Auto) (p x q : ℕ) : Type 0 where
  a's : A.step p x q → PlusStep A p x q
  anew : A.final p → A.step 0 x q → PlusStep A p x q

abbrev pub plus_a : Auto → Auto
plus_a A = record { size = A.size; step = PlusStep A; final = A.final }

-- `[*]` (m): the same, and 0 is final too.
abbrev pub opt_a : Auto → Auto
opt_a A = record { size = A.size; step = A.step; final = λ q. A.final q ⊎ (q ≡ 0) }

abbrev pub star_a : Auto → Auto
star_a A = opt_a (plus_a A)

-- `[*i..j]` (j·m, or 1 if j is 0): j copies of A, one behind the other as in `;`, with i parts needed of the first, i-1 of what is behind it, and so on.
-- Where no part is needed, the first state of what is left is final too. No copy at all is one state.
abbrev pub maybe_a : ℕ → Auto → Auto
maybe_a i C = record { size = C.size; step = C.step; final = λ q. C.final q ⊎ ((q ≡ 0) × (i ≡ 0)) }

abbrev pub none_a : ℕ → Auto
none_a i = record { size = 1; step = λ p x q. ⊥; final = λ q. (q ≡ 0) × (i ≡ 0) }

abbrev pub last_a : ℕ → Auto → Auto
last_a i A = record { size = A.size; step = A.step; final = λ q. A.final q × (i ≤ 1) }

abbrev pub row_a : ℕ → ℕ → Auto → Auto
row_a i zero A = none_a i
row_a i (suc zero) A = maybe_a i (last_a i A)
row_a i (suc (suc j)) A = maybe_a i (then_a A (row_a (i - 1) (suc j) A))

-- `[=i..j]` (j+2): 0 before the first letter, 1+c after letters of which c satisfied f; from 0 it goes where it goes from 1.
pub data Satisfied (c p : ℕ) : Type 0 where
  at_first : p ≡ 0 → c ≡ 0 → Satisfied c p
  so_far : p ≡ 1 + c → Satisfied c p

pub data OccursStep (f : ℕ → Bool) (j p x q : ℕ) : Type 0 where
  stays : (c : ℕ) → Satisfied c p → c ≤ j → T (not (f x)) → q ≡ 1 + c → OccursStep f j p x q
  rises : (c : ℕ) → Satisfied c p → c < j → T (f x) → q ≡ 2 + c → OccursStep f j p x q

pub data OccursFinal (i j q : ℕ) : Type 0 where
  enough : (c : ℕ) → Satisfied c q → i ≤ c → c ≤ j → OccursFinal i j q

abbrev pub occurs_a : ℕ → ℕ → (ℕ → Bool) → Auto
occurs_a i j f = record { size = j + 2; step = OccursStep f j; final = OccursFinal i j }

-- `&` is the automaton of {a && {b;true[*]}} | {{a;true[*]} && b}; true[*] has two states.
abbrev pub any_a : Auto
any_a = star_a (letter_a (holds yea))

abbrev pub within_a : Auto → Auto → Auto
within_a A B = either_a (both_a A (then_a B any_a)) (both_a (then_a A any_a) B)

unfoldable pub auto : Rule → Auto
auto empty = empty_a
auto (letter f) = letter_a (holds f)
auto (two Then a b) = then_a (auto a) (auto b)
auto (two Overlap a b) = overlap_a (auto a) (auto b)
auto (two Either a b) = either_a (auto a) (auto b)
auto (two Within a b) = within_a (auto a) (auto b)
auto (two Both a b) = both_a (auto a) (auto b)
auto (again Star a) = star_a (auto a)
auto (again Plus a) = plus_a (auto a)
auto (counted i j a) = row_a i j (auto a)
auto (occurs i j f) = occurs_a i j (holds f)
