-- The labels of a rule as a square of a table, moved up by a base, and its finals as a set moved up likewise. Assumes nothing: these are definitions.
use Rattle.std.specs.Prelude.{ℕ, ◌+◌, ◌<◌, ◌≡◌, ◌↔◌, List, T}
use Rattle.bits.specs.Word.{bit}
use Rattle.definitions.specs.declared.kinds.Pair.TheVariants.{Then, Either, Both}
use Rattle.definitions.specs.declared.kinds.Repeat.TheVariants.{Star}
use Rattle.definitions.specs.Definition1.{Rule, letter, two, again, yea}
use Rattle.definitions.specs.Definition2.{letter_count}
use Rattle.rules.specs.Weight.{weight_of}
use Rattle.automata.specs.Table.{table_states, cell}
use Rattle.automata.specs.Build.{UpF, auto}
use Rattle.automata.specs.inner.Cells.{In}

-- the square at base has the rule's labels
pub record Block (t : List ℕ) (base : ℕ) (r : Rule) : Type 0 where
  pub label : (p q x : ℕ) → p < weight_of r → q < weight_of r → x < letter_count → T (bit (cell t (base + p) (base + q)) x) ↔ (auto r).step p x q

-- the set has the rule's final states, moved up by base, and no others
pub record FinalsAt (f base : ℕ) (r : Rule) : Type 0 where
  pub ends : (q : ℕ) → q < table_states → T (bit f q) ↔ UpF base (auto r).final q

-- t' is t with the rule's labels in the square at base, and nowhere else changed
pub record Built (t t' : List ℕ) (base : ℕ) (r : Rule) : Type 0 where
  pub block : Block t' base r
  pub others : (p q : ℕ) → q < table_states → (In base (base + weight_of r) base (base + weight_of r) p q → ⊥) → cell t' p q ≡ cell t p q

-- t is t₀ with the labels of a in the square at c and those of b in the square behind it, and nowhere else changed
pub record Beside (t₀ t : List ℕ) (c : ℕ) (a b : Rule) : Type 0 where
  pub a_block : Block t c a
  pub b_block : Block t (c + weight_of a) b
  pub others : (p q : ℕ) → q < table_states → (In c (c + weight_of a) c (c + weight_of a) p q → ⊥)
      → (In (c + weight_of a) (c + weight_of a + weight_of b) (c + weight_of a) (c + weight_of a + weight_of b) p q → ⊥) → cell t p q ≡ cell t₀ p q

-- true[*], and what `&` is built as
abbrev pub any_rule : Rule
any_rule = again Star (letter yea)

abbrev pub within_rule : Rule → Rule → Rule
within_rule a b = two Either (two Both a (two Then b any_rule)) (two Both (two Then a any_rule) b)
