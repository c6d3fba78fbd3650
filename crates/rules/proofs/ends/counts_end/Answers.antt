-- `rules::counts_end` meets its contract. Assumes nothing.
use native.Mathlib.Omega.{arith}
use mathlib.Core.Path.{refl, sym, ◌∙◌}
use Rattle.rules.specs.Reading.{counts}
use Rattle.rules.proofs.Fitting.{true_fit}
use Rattle.rules.proofs.Scan.{ended, bad_counts, cut_counts}
use Rattle.rules.proofs.ends.counts_end.Goals as goal

pub returns-then-rule-at : goal.returns-then-rule-at
returns-then-rule-at c = ended c.args.rule.now c.args.at counts c.if-rule-at.true

pub returns-then-rule-second : goal.returns-then-rule-second
returns-then-rule-second c = cut_counts c.args.rule.now c.args.at (omega arith) c.if-rule-second.true

pub returns-then-counts_fit : goal.returns-then-counts_fit
returns-then-counts_fit c = (omega arith, true_fit _ _ (sym c.counts_fit.ensures ∙ c.if-counts_fit.true), refl)

pub returns-else-counts_fit : goal.returns-else-counts_fit
returns-else-counts_fit c = bad_counts c.args.rule.now c.args.at (omega arith) (sym c.counts_fit.ensures ∙ c.if-counts_fit.false)
