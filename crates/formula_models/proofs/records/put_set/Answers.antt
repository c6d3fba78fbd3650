-- `records::put_set` writes the bytes of a set, lowest first. Assumes nothing.
use mathlib.Core.Path.{subst, ◌∙◌}
use mathlib.Core.List.{List}
use Prim.Native.Nat.{ℕ}
use Rattle.writing.specs.Wrote.{Wrote}
use Rattle.formula_models.proofs.Putting.{low_bytes}
use Rattle.formula_models.proofs.records.put_set.Goals as goal

pub returns : goal.returns
returns c = subst (λ (p : List ℕ). Wrote p c.args.out.now c.args.at c.put_word.new.out c.put_word.result) (c.to_le_bytes.ensures ∙ low_bytes _) c.put_word.ensures
