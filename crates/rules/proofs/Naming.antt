-- Which propositions a formula and a rule name, put together from what their parts name: one law for each form; and what the set's bits say. Assumes nothing.
use Prim.Native.Nat.{ℕ, ◌+◌, ◌≤◌, ◌^◌}
use mathlib.Core.Path.{◌≡◌, refl, sym, ap, ap₂, ◌∙◌}
use mathlib.Core.Bool.{Bool, ◌||◌}
use mathlib.Core.List.{List}
use native.Mathlib.Omega.{arith}
use lib.Bits.{bit_or, or_lt}
use lib.Dec.{eqb}
use lib.ListN.{get_or}
use lib.Pow.{pow_pos, pow-lt}
use Rattle.bits.specs.Word.{word, insert}
use Rattle.bits.proofs.Laws.{word_or, word_no_bit, word_unique, bit_insert, bit_zero}
use Rattle.definitions.specs.declared.kinds.Junction.{Junction}
use Rattle.definitions.specs.declared.kinds.Pair.{Pair}
use Rattle.definitions.specs.declared.kinds.Repeat.{Repeat}
use Rattle.definitions.specs.declared.kinds.FormulaKind.TheVariants.{Proposition, Truth, Falsity, Not, Join}
use Rattle.definitions.specs.declared.kinds.Kind.TheVariants.{OfFormula}
use Rattle.rules.specs.declared.names.Names.{Names}
use Rattle.definitions.specs.Definition1.{Formula, prop, Rule, letter, empty, two, again, counted, occurs}
use Rattle.definitions.specs.Definition2.{last_proposition}
use Rattle.definitions.specs.Kinds.{kind_of}
use Rattle.rules.specs.Named.{proposition_count, formula_names, rule_names, uses_of}
use Rattle.rules.specs.Walks.{NamesAs}
use Rattle.rules.proofs.PlacesOnce.{formula_of}

abbrev names_of : Formula → ℕ
names_of f = word proposition_count (formula_names f)

-- the set of one proposition
one_named : (j : ℕ) → j ≤ last_proposition → insert 0 j ≡ names_of (prop j)
unfolding insert formula_names
one_named j h =
    word_unique proposition_count (insert 0 j) (λ i. eqb i j) (or_lt proposition_count 0 (2 ^ j) (pow_pos proposition_count) (pow-lt {j = proposition_count} (omega arith)))
    (λ i l. bit_insert 0 j i ∙ ap (λ (b : Bool). b || eqb i j) (bit_zero i))

both_named : (f g : ℕ → Bool) (x y : ℕ) → x ≡ word proposition_count f → y ≡ word proposition_count g → bit_or x y ≡ word proposition_count (λ i. f i || g i)
both_named f g x y p q = ap₂ bit_or p q ∙ word_or proposition_count f g

module _ (s : List ℕ) (at : ℕ) where
  pub n_prop : kind_of (get_or s at 0) ≡ OfFormula Proposition → (u : ℕ) → u ≡ insert 0 (get_or s (at + 1) 0) → NamesAs s at (record { uses = u; end = at + 1 + 1 })
  n_prop q u p f e d =
      let i = formula_of s (OfFormula Proposition) d q in
      let n = i.3 in
      (p ∙ one_named (get_or s (at + 1) 0) i.2 ∙ ap names_of (sym i.0), omega arith)

  pub n_yea : kind_of (get_or s at 0) ≡ OfFormula Truth → NamesAs s at (record { uses = 0; end = at + 1 })
  unfolding formula_names
  n_yea q f e d = let i = formula_of s (OfFormula Truth) d q in (word_no_bit proposition_count ∙ ap names_of (sym i.0), i.1)

  pub n_nay : kind_of (get_or s at 0) ≡ OfFormula Falsity → NamesAs s at (record { uses = 0; end = at + 1 })
  unfolding formula_names
  n_nay q f e d = let i = formula_of s (OfFormula Falsity) d q in (word_no_bit proposition_count ∙ ap names_of (sym i.0), i.1)

  pub n_neg : kind_of (get_or s at 0) ≡ OfFormula Not → (a : Names) → NamesAs s (at + 1) a → NamesAs s at a
  unfolding formula_names
  n_neg q a ih f e d =
      let i = formula_of s (OfFormula Not) d q in
      let o = ih i.0 e i.2 in
      (o.0 ∙ ap names_of (sym i.1), o.1)

  pub n_join : (j : Junction) → kind_of (get_or s at 0) ≡ OfFormula (Join j) → (a b : Names) → NamesAs s (at + 1) a → NamesAs s a.end b → NamesAs s at (record { uses = bit_or a.uses b.uses; end = b.end })
  unfolding formula_names
  n_join j q a b ih ih' f e d =
      let i = formula_of s (OfFormula (Join j)) d q in
      let o = ih i.0 i.2 i.4 in
      let o' = ih' i.1 e (rw o.1 i.5) in
      (both_named (formula_names i.0) (formula_names i.1) a.uses b.uses o.0 o'.0 ∙ ap names_of (sym i.3), o'.1)

-- ---- rules

pub letter_uses : (f : Formula) → names_of f ≡ uses_of (letter f)
unfolding rule_names
letter_uses f = refl

pub empty_uses : 0 ≡ uses_of empty
unfolding rule_names
empty_uses = word_no_bit proposition_count

pub again_uses : (p : Repeat) (a : Rule) → uses_of a ≡ uses_of (again p a)
unfolding rule_names
again_uses p a = refl

pub counted_uses : (i j : ℕ) (a : Rule) → uses_of a ≡ uses_of (counted i j a)
unfolding rule_names
counted_uses i j a = refl

pub occurs_uses : (i j : ℕ) (f : Formula) → names_of f ≡ uses_of (occurs i j f)
unfolding rule_names
occurs_uses i j f = refl

pub two_uses : (p : Pair) (a b : Rule) (x y : ℕ) → x ≡ uses_of a → y ≡ uses_of b → bit_or x y ≡ uses_of (two p a b)
unfolding rule_names
two_uses p a b x y q q' = both_named (rule_names a) (rule_names b) x y q q'
