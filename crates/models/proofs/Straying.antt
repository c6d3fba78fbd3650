-- `set & !below(n) != 0`: the set has a member at or above n. Assumes nothing.
use Prim.Native.Nat.{ℕ, ◌-◌, ◌^◌, ◌<◌}
use mathlib.Core.Path.{◌≡◌, sym, ap, ◌∙◌}
use mathlib.Core.Bool.{Bool, not, ◌&&◌}
use lib.Dec.{eqb, ltb}
use lib.Bits.{bit_and}
use Rattle.bits.specs.Word.{bit, all}
use Rattle.bits.proofs.Laws.{bit_not, bit_all, any_ext, any_meet}
use Rattle.models.specs.Reading.{straying}

pub stray_test : (n w b : ℕ) → w < 2 ^ 64 → b < 2 ^ 64 → b ≡ all n → not (eqb (bit_and w (2 ^ 64 - 1 - b)) 0) ≡ straying n w
unfolding straying
stray_test n w b h l e =
    sym (any_meet 64 w (2 ^ 64 - 1 - b) h)
    ∙ any_ext 64 (λ t. bit w t && bit (2 ^ 64 - 1 - b) t) (λ t. bit w t && not (ltb t n))
    (λ t m. ap (λ (x : Bool). bit w t && x) (bit_not 64 b t l m ∙ ap not (ap (λ (x : ℕ). bit x t) e ∙ bit_all n t)))
