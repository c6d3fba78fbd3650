-- What the label of a formula is, put together from its operands' labels: one law for each arm; and the table of the propositions' labels. Assumes nothing.
use Prim.Native.Nat.{ℕ, zero, suc, ◌+◌, ◌-◌, ◌^◌, ◌<◌}
use mathlib.Core.Path.{◌≡◌, refl, sym, ap, ◌∙◌}
use mathlib.Core.Bool.{Bool, true, false, not}
use mathlib.Core.List.{List, [], ◌∷◌}
use native.Mathlib.Nat.{add-zero, zero-add, add-suc, suc-add, le_of_suc-le-suc, not-suc-le-zero}
use native.Mathlib.Omega.{arith}
use lib.Bits.{bit_or, bit_and}
use lib.ListN.{length, get_or}
use Rattle.bits.specs.Word.{word}
use Rattle.bits.proofs.Laws.{word_lt, word_and, word_or, word_not, word_no_bit, word_every_bit}
use Rattle.definitions.specs.declared.kinds.Junction.{Junction}
use Rattle.definitions.specs.declared.kinds.Junction.TheVariants.{And, Or}
use Rattle.definitions.specs.declared.kinds.FormulaKind.TheVariants.{Proposition, Truth, Falsity, Not, Join}
use Rattle.definitions.specs.declared.kinds.Kind.TheVariants.{OfFormula}
use Rattle.formulas.specs.declared.Labelled.{Labelled}
use Rattle.definitions.specs.Definition1.{Formula, prop}
use Rattle.definitions.specs.Definition2.{letter_count, last_proposition, holds}
use Rattle.definitions.specs.Kinds.{kind_of}
use Rattle.formulas.specs.Labels.{LabelledAs, LabelsJoin, NotsTo, PropositionLabels, flipped}
use Rattle.rules.proofs.PlacesOnce.{formula_of}

abbrev label_of : Formula → ℕ
label_of f = word letter_count (holds f)

-- all letters but those of a flipped label are the label flipped once more
flip_before : (odd : Bool) (f : ℕ → Bool) → 2 ^ letter_count - 1 - flipped odd (word letter_count f) ≡ flipped (not odd) (word letter_count f)
flip_before false f = refl
flip_before true f = let l = word_lt letter_count f in omega arith

flip_after : (odd : Bool) (f : ℕ → Bool) → flipped odd (word letter_count (λ x. not (f x))) ≡ flipped (not odd) (word letter_count f)
flip_after false f = sym (word_not letter_count f)
flip_after true f =
    let e = word_not letter_count f in
    let l = word_lt letter_count f in
    omega arith

module _ (s : List ℕ) (at : ℕ) where
  pub nots_none : NotsTo s at at false
  nots_none = record { under = λ f e d. (f, d, refl) }

  pub nots_more : {to : ℕ} {odd : Bool} → NotsTo s at to odd → kind_of (get_or s to 0) ≡ OfFormula Not → NotsTo s at (to + 1) (not odd)
  unfolding holds
  nots_more {to} {odd} n q = record {
    under = λ f e d.
        let m = n.under f e d in
        let i = formula_of s (OfFormula Not) m.1 q in
        (i.0, i.2, m.2 ∙ ap (λ (g : Formula). flipped odd (label_of g)) i.1 ∙ flip_after odd (holds i.0));
  }

  pub l_prop : kind_of (get_or s at 0) ≡ OfFormula Proposition → (ls : List ℕ) → PropositionLabels ls → (l : ℕ) → l ≡ get_or ls (get_or s (at + 1) 0) 0 → LabelledAs s at (record { label = l; end = at + 1 + 1 })
  l_prop q ls t l p f e d =
      let i = formula_of s (OfFormula Proposition) d q in
      let n = i.3 in
      (p ∙ t.entry (get_or s (at + 1) 0) i.2 ∙ ap label_of (sym i.0), omega arith)

  pub l_yea : kind_of (get_or s at 0) ≡ OfFormula Truth → LabelledAs s at (record { label = 2 ^ letter_count - 1; end = at + 1 })
  unfolding holds
  l_yea q f e d = let i = formula_of s (OfFormula Truth) d q in (word_every_bit letter_count ∙ ap label_of (sym i.0), i.1)

  pub l_nay : kind_of (get_or s at 0) ≡ OfFormula Falsity → LabelledAs s at (record { label = 0; end = at + 1 })
  unfolding holds
  l_nay q f e d = let i = formula_of s (OfFormula Falsity) d q in (word_no_bit letter_count ∙ ap label_of (sym i.0), i.1)

  -- a `not`, those after it, and the formula under them all
  pub l_neg : kind_of (get_or s at 0) ≡ OfFormula Not → {to : ℕ} {odd : Bool} → NotsTo s (at + 1) to odd → (a : Labelled) → LabelledAs s to a → (l : ℕ) → l ≡ flipped (not odd) a.label → LabelledAs s at (record { label = l; end = a.end })
  unfolding holds
  l_neg q {to} {odd} n a ih l p f e d =
      let i = formula_of s (OfFormula Not) d q in
      let m = n.under i.0 e i.2 in
      let o = ih m.0 e m.1 in
      (p ∙ ap (flipped (not odd)) o.0 ∙ sym (flip_before odd (holds m.0)) ∙ ap (λ (x : ℕ). 2 ^ letter_count - 1 - x) (sym m.2) ∙ word_not letter_count (holds i.0) ∙ ap label_of (sym i.1), o.1)

  pub l_join : (j : Junction) → kind_of (get_or s at 0) ≡ OfFormula (Join j) → (a b : Labelled) → LabelledAs s (at + 1) a → LabelledAs s a.end b → (l : ℕ) → LabelsJoin j a.label b.label l → LabelledAs s at (record { label = l; end = b.end })
  unfolding holds
  l_join j q a b ih ih' l p f e d =
      let i = formula_of s (OfFormula (Join j)) d q in
      let o = ih i.0 i.2 i.4 in
      let o' = ih' i.1 e (rw o.1 i.5) in
      (p (holds i.0) (holds i.1) o.0 o'.0 ∙ ap label_of (sym i.3), o'.1)

-- ---- the junction of two labels

pub meet_joins : (j : Junction) → j ≡ And → (a b : ℕ) → LabelsJoin j a b (bit_and a b)
meet_joins j e a b f g p q = rw (e, p, q) (word_and letter_count f g)

pub union_joins : (j : Junction) → j ≡ Or → (a b : ℕ) → LabelsJoin j a b (bit_or a b)
union_joins j e a b f g p q = rw (e, p, q) (word_or letter_count f g)

-- ---- the table of the propositions' labels

-- the labels of n propositions from i on
unfoldable pub labels_from : ℕ → ℕ → List ℕ
labels_from zero i = []
labels_from (suc n) i = label_of (prop i) ∷ labels_from n (suc i)

from_entry : (n i k : ℕ) → k < n → get_or (labels_from n i) k 0 ≡ label_of (prop (i + k))
unfolding labels_from
from_entry zero i k h = absurd (not-suc-le-zero h)
from_entry (suc n) i zero h = ap (λ (m : ℕ). label_of (prop m)) (sym (add-zero i))
from_entry (suc n) i (suc k) h = from_entry n (suc i) k (le_of_suc-le-suc h) ∙ ap (λ (m : ℕ). label_of (prop m)) (suc-add i k ∙ sym (add-suc i k))

from_length : (n i : ℕ) → length (labels_from n i) ≡ n
unfolding labels_from
from_length zero i = refl
from_length (suc n) i = ap suc (from_length n (suc i))

-- a list that comes out as the labels of all propositions is their table
pub is_table : (ls : List ℕ) → ls ≡ labels_from (suc last_proposition) 0 → PropositionLabels ls
is_table ls e = rw e (record {
  inside = let n = from_length (suc last_proposition) 0 in omega arith;
  entry = λ i h. from_entry (suc last_proposition) 0 i (omega arith) ∙ ap (λ (m : ℕ). label_of (prop m)) (zero-add i);
})
