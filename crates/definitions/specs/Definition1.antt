-- Source document 001, Definition 1: formulas over propositions, and the rules made of them. Assumes nothing: these are definitions.
use Rattle.std.specs.Prelude.{ℕ}
use Rattle.definitions.specs.declared.kinds.Junction.{Junction}
use Rattle.definitions.specs.declared.kinds.Pair.{Pair}
use Rattle.definitions.specs.declared.kinds.Repeat.{Repeat}

-- a proposition by its number, true, false, not, and the two junctions (`and`, `or`)
pub data Formula : Type 0 where
  prop : ℕ → Formula
  yea nay : Formula
  neg : Formula → Formula
  join : Junction → Formula → Formula → Formula

-- one letter of which a formula holds, the empty sequence, the pairs (`;` `:` `|` `&` `&&`), the repetitions (`[*]` `[+]`), and the two
-- that count from i to j: parts that a rule accepts (`[*i..j]`), letters of which a formula holds (`[=i..j]`)
pub data Rule : Type 0 where
  letter : Formula → Rule
  empty : Rule
  two : Pair → Rule → Rule → Rule
  again : Repeat → Rule → Rule
  counted : (i j : ℕ) → Rule → Rule
  occurs : (i j : ℕ) → Formula → Rule
