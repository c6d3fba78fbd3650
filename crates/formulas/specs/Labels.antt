-- What the walks over a formula's bytes promise of whatever formula stands at a place: whether it holds in a letter, and its label. Assumes nothing: these are definitions.
use Rattle.std.specs.Prelude.{ℕ, ◌-◌, ◌^◌, ◌<◌, ◌≤◌, ◌≡◌, Bool, true, false, List, length, get_or}
use Rattle.bits.specs.Word.{word}
use Rattle.definitions.specs.declared.kinds.Junction.{Junction}
use Rattle.definitions.specs.Definition1.{Formula, prop}
use Rattle.definitions.specs.Definition2.{letter_count, last_proposition, joined, holds}
use Rattle.rules.specs.Places.{FormulaAt}
use Rattle.formulas.specs.declared.Held.{Held}
use Rattle.formulas.specs.declared.Labelled.{Labelled}

-- whether the formula holds in the letter x, and the end
abbrev pub HoldsAs : List ℕ → ℕ → ℕ → Held → Type 0
HoldsAs s at x h = (f : Formula) (e : ℕ) → FormulaAt s at f e → (h.holds ≡ holds f x) × (h.end ≡ e)

-- the formula's label, of the letters below k and of all letters: bit x is set exactly if the formula holds in letter x
abbrev pub LabelUpTo : List ℕ → ℕ → ℕ → ℕ → Type 0
LabelUpTo s at k l = (f : Formula) (e : ℕ) → FormulaAt s at f e → l ≡ word k (holds f)

abbrev pub LabelAs : List ℕ → ℕ → ℕ → Type 0
LabelAs s at l = LabelUpTo s at letter_count l

-- the label and the end
abbrev pub LabelledAs : List ℕ → ℕ → Labelled → Type 0
LabelledAs s at l = (f : Formula) (e : ℕ) → FormulaAt s at f e → (l.label ≡ word letter_count (holds f)) × (l.end ≡ e)

-- a label, or where the `not`s over it are odd in number the label of all other letters
abbrev pub flipped : Bool → ℕ → ℕ
flipped false l = l
flipped true l = 2 ^ letter_count - 1 - l

-- from `at` to `to` there are only `not`s: of whatever formula stands at `at` an operand stands at `to`, and they end together
pub record NotsTo (s : List ℕ) (at to : ℕ) (odd : Bool) : Type 0 where
  pub under : (f : Formula) (e : ℕ) → FormulaAt s at f e → (g : Formula) × FormulaAt s to g e × (word letter_count (holds f) ≡ flipped odd (word letter_count (holds g)))

-- entry i is the label of proposition i
pub record PropositionLabels (labels : List ℕ) : Type 0 where
  pub inside : last_proposition < length labels
  pub entry : (i : ℕ) → i ≤ last_proposition → get_or labels i 0 ≡ word letter_count (holds (prop i))

-- of two labels, r is the label of the junction
abbrev pub LabelsJoin : Junction → ℕ → ℕ → ℕ → Type 0
LabelsJoin j a b r = (f g : ℕ → Bool) → a ≡ word letter_count f → b ≡ word letter_count g → r ≡ word letter_count (λ x. joined j (f x) (g x))
