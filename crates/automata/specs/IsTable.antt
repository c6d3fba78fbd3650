-- What it is for a list of words and a set of finals to be the table of a rule. Assumes nothing: these are definitions.
use Rattle.std.specs.Prelude.{ℕ, ◌^◌, ◌<◌, ◌↔◌, List, T, get_or}
use Rattle.bits.specs.Word.{bit}
use Rattle.definitions.specs.Definition1.{Rule}
use Rattle.definitions.specs.Definition2.{letter_count}
use Rattle.automata.specs.Table.{table_states, cell}
use Rattle.automata.specs.Build.{auto}

-- each label has the letters under which the rule's automaton steps, and the set has its final states
pub record IsTable (r : Rule) (t : List ℕ) (finals : ℕ) : Type 0 where
  pub label : (p q x : ℕ) → p < table_states → q < table_states → x < letter_count → T (bit (cell t p q) x) ↔ (auto r).step p x q
  pub ends : (q : ℕ) → q < table_states → T (bit finals q) ↔ (auto r).final q

-- the entries are 64-bit words, as those of every slice of u64 are
abbrev pub Words : List ℕ → Type 0
Words t = (k : ℕ) → get_or t k 0 < 2 ^ 64
