-- From the labels of the rule that the bytes are to its whole table, and to the right answer. Assumes nothing.
use Prim.Native.Nat.{ℕ, ◌+◌, ◌*◌, ◌/◌, ◌%◌, ◌^◌, ◌<◌, ◌≤◌}
use native.Mathlib.Omega.{arith}
use mathlib.Core.Path.{◌≡◌, refl, sym, ap, subst, ◌∙◌}
use mathlib.Core.List.{List}
use lib.ListN.{length, get_or}
use Rattle.rules.specs.declared.Known.{Known}
use Rattle.definitions.specs.declared.Refusal.{Refusal}
use Rattle.std.specs.Prelude.{Ok, Err}
use Rattle.definitions.specs.Definition1.{Rule}
use Rattle.definitions.specs.Refusals.{number, place}
use Rattle.definitions.specs.Numbers.{short_slice_number}
use Rattle.rules.specs.Answer as rules
use Rattle.rules.specs.Answer.{answer, AcceptedAs, known_of}
use Rattle.rules.specs.Weight.{weight_of}
use Rattle.rules.proofs.Accepting.{accepted_rule, accepted_stands}
use Rattle.automata.specs.declared.shape.Shape.{Shape}
use Rattle.automata.specs.inner.Cells.{Put}
use Rattle.automata.specs.inner.Block.{Built}
use Rattle.automata.specs.inner.Shapes.{Fits, ShapedAs}
use Rattle.blocks.specs.inner.Building.{Ready, BuiltAt}
use Rattle.tables.specs.Answer.{BuildRight, refused, tabled, rule_refused, short_table, the_table, TableFor}
use Rattle.tables.proofs.promise.Wholes.{is_table}
use Rattle.automata.specs.Table.{table_states, table_entries}

-- a cleared table is ready
pub ready_whole : (t t₁ : List ℕ) → table_entries ≤ length t → length t₁ ≡ length t → Put t t₁ 0 table_states 0 table_states (λ p q. 0) → Ready t₁ 0
ready_whole t t₁ l d clear = record { long = omega arith; clean = record { none = λ p q h₁ h₂ h₃ h₄. clear.new p q (omega arith) } }

-- an accepted rule has room for its table
pub fits_whole : (s : List ℕ) (r : Rule) → AcceptedAs s r → Fits s 0 0
fits_whole s r a = record { rule = r; past = length s; stands = accepted_stands s r a; room = omega (arith, a.light) }

module _ (s t t₁ t₂ : List ℕ) (l : table_entries ≤ length t) (clear : Put t t₁ 0 table_states 0 table_states (λ p q. 0)) where
  -- past the table both leave every entry
  past_at : (r : Rule) → weight_of r ≤ table_states → Built t₁ t₂ 0 r → (k : ℕ) → table_entries ≤ k → get_or t₂ k 0 ≡ get_or t k 0
  past_at r small b k h =
      let z : table_states * (k / table_states) + k % table_states ≡ k = omega arith in
      subst (λ (n : ℕ). get_or t₂ n 0 ≡ get_or t n 0) z
      (b.others (k / table_states) (k % table_states) (omega arith) (λ i. omega arith) ∙ clear.old (k / table_states) (k % table_states) (omega arith) (λ i. omega arith))

  -- what is cleared, filled and measured is the table of every rule that the bytes are accepted as
  pub table_for_lem : length t₁ ≡ length t → length t₂ ≡ length t → BuiltAt s 0 t₁ t₂ 0 → (h : Shape) → ShapedAs s 0 h → h.finals < 2 ^ 64 → TableFor s t t₂ h.finals
  table_for_lem d d' b h u small = record { right = right }
    where
      right : (r : Rule) → AcceptedAs s r → BuildRight s t t₂ (tabled (known_of r) h.finals)
      right r a =
          let stands = accepted_stands s r a in
          let made = b.built r (length s) stands in
          the_table a l small (is_table t₁ t₂ h.finals r (ready_whole t t₁ l d clear).clean a.light made (u.told r (length s) stands).final_set)
          (record { size = d'; rest = past_at r a.light made })

-- the cases of `build`
module _ (s : List ℕ) (a : rules.RuleAnswer) (q : rules.told a ≡ answer s) where
  pub right_refused : (t : List ℕ) (x : Refusal) → a ≡ Err x → BuildRight s t t (refused (number x) (place x))
  right_refused t x e = rule_refused (sym q ∙ ap rules.told e) refl

  module _ (k : Known) (e : a ≡ Ok k) where
    pub the_rule : (r : Rule) × AcceptedAs s r × (k ≡ known_of r)
    the_rule = accepted_rule s k (sym q ∙ ap rules.told e)

    pub right_short : (t : List ℕ) → length t < table_entries → BuildRight s t t (refused short_slice_number 0)
    right_short t l = short_table the_rule.1 l refl

    pub right_table : {t t' : List ℕ} {f : ℕ} → TableFor s t t' f → BuildRight s t t' (tabled k f)
    right_table b = let i = the_rule in rw i.2 (b.right i.0 i.1)
