-- `stands` tries what refusal 24 names, in turn. Assumes nothing.
use native.Mathlib.Omega.{arith}
use Rattle.std.proofs.lemmas.Grind.{common_steps}
use Rattle.trims.proofs.Strays.{judged_bad, final_fault, judged}
use Rattle.trims.proofs.outside.stands.Goals as goal

pub returns-then-not-stray_final : goal.returns-then-not-stray_final
returns-then-not-stray_final c = judged _ _ _ _ (grind (arith, common_steps)) (grind (arith, common_steps)) (c.stray_final.ensures.no_fails c.if-not-stray_final.true) c.stray_rows.ensures

pub returns-else-not-stray_final : goal.returns-else-not-stray_final
returns-else-not-stray_final c = rw c.if-not-stray_final.false (judged_bad _ _ _ (final_fault _ _ _ (c.stray_final.ensures.yes_holds c.if-not-stray_final.false)))
