-- `automata::shape::again_shape` meets its contract. Assumes nothing.
use mathlib.Core.Path.{◌∙◌}
use Rattle.automata.proofs.Ends.{plus_finals, star_finals}
use Rattle.automata.proofs.shape.again_shape.Goals as goal

pub returns-in-Plus : goal.returns-in-Plus
returns-in-Plus c = λ x e u. rw c.in-Plus.is (record { ends = u.ends; weighs = u.weighs; final_set = plus_finals 0 _ x u.final_set })

pub returns-in-Star : goal.returns-in-Star
returns-in-Star c = λ x e u.
    let first = c.with_first_final.ensures in
    rw c.in-Star.is (record { ends = first.0 ∙ u.ends; weighs = first.1 ∙ u.weighs; final_set = rw first.2 (star_finals 0 _ x u.final_set) })
