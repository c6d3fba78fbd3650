-- Definition 2 says of each listed sequence what it should: proved together, over the list. Assumes nothing.
use Prim.Native.Nat.{ℕ}
use mathlib.Core.Bool.{Bool, true, false, not, ◌&&◌}
use mathlib.Core.List.{List, [], ◌∷◌}
use lib.Dec.{T, T_not}
use Rattle.bits.specs.Word.{bit, any}
use Rattle.bits.proofs.Truths.{and_T}
use Rattle.definitions.specs.Definition1.{Rule}
use Rattle.definitions.specs.Definition2.{holds, Sat}
use Rattle.definitions.specs.Sequences.{Case, AllRight, sequences}
use Rattle.definitions.proofs.Deciding.{verdict, verdict_sat, sat_verdict}

agrees : Bool → Bool → Bool
agrees true b = b
agrees false b = not b

all_agree : List Case → Bool
all_agree [] = true
all_agree (c ∷ cs) = agrees c.says (verdict c.rule c.sequence) && all_agree cs

right : (r : Rule) (w : List ℕ) (b : Bool) → T (agrees b (verdict r w)) → (T b → Sat r w) × (T (not b) → Sat r w → ⊥)
unfolding agrees
right r w true t = (λ u. verdict_sat r w t, λ u. absurd u)
right r w false t = (λ u. absurd u, λ u s. T_not (verdict r w) t (sat_verdict r w s))

by_verdict : (cs : List Case) → T (all_agree cs) → AllRight cs
unfolding all_agree
by_verdict [] t = tt
by_verdict (c ∷ cs) t =
    let h = (and_T (agrees c.says (verdict c.rule c.sequence)) (all_agree cs)).0 t in
    (right c.rule c.sequence c.says h.0, by_verdict cs h.1)

pub sequences_right : AllRight sequences
unfolding all_agree agrees holds bit any
sequences_right = by_verdict sequences tt
