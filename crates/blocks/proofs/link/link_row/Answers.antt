-- `blocks::link::link_row` meets its contract. Assumes nothing.
use mathlib.Core.Path.{◌≡◌, refl, sym, ap, ◌∙◌}
use native.Mathlib.Omega.{arith}
use Rattle.bits.specs.Word.{bit}
use Rattle.automata.proofs.Puts.{put_as, put_keep}
use Rattle.blocks.proofs.Linking.{linked_final, linked_plain}
use Rattle.blocks.proofs.link.link_row.Goals as goal

pub returns-then-has : goal.returns-then-has
returns-then-has c = put_as c.unite_row.ensures refl refl refl refl
    (λ p q i. let e : p ≡ c.args.p = omega arith in
    sym (linked_final _ _ _ p q (ap (bit _) e ∙ sym c.has.ensures ∙ c.if-has.true)))

pub returns-else-has : goal.returns-else-has
returns-else-has c = put_keep _ _ _ _ _ _
    (λ p q i. let e : p ≡ c.args.p = omega arith in
    sym (linked_plain _ _ _ p q (ap (bit _) e ∙ sym c.has.ensures ∙ c.if-has.false)))
