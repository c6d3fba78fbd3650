-- What the writers promise of whatever stands at a place of the bytes. Assumes nothing: these are definitions.
use Rattle.std.specs.Prelude.{ℕ, ◌≡◌, List}
use Rattle.definitions.specs.Definition1.{Formula, Rule}
use Rattle.rules.specs.Places.{FormulaAt, RuleAt}
use Rattle.text_writer.specs.declared.writer.Put.{Put}
use Rattle.grammar.specs.Text.{formula_text, text}
use Rattle.writing.specs.Wrote.{Wrote}

-- its text is written from `to` on, and its end is answered
pub record FormulaPut (s : List ℕ) (at : ℕ) (before : List ℕ) (to : ℕ) (after : List ℕ) (put : Put) : Type 0 where
  pub formula_done : (f : Formula) (e : ℕ) → FormulaAt s at f e → (put.end ≡ e) × Wrote (formula_text f) before to after put.past

pub record RulePut (s : List ℕ) (at : ℕ) (before : List ℕ) (to : ℕ) (after : List ℕ) (put : Put) : Type 0 where
  pub rule_done : (r : Rule) (e : ℕ) → RuleAt s at r e → (put.end ≡ e) × Wrote (text r) before to after put.past
