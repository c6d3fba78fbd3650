-- `squares::mix` meets its contract, by the digit of i that the round is about. Assumes nothing.
use mathlib.Core.Path.{sym, ◌∙◌}
use native.Mathlib.Omega.{arith}
use Rattle.squares.proofs.Digits.{up_inside, down_inside, power_lt}
use Rattle.squares.proofs.Mixing.{mix_high, mix_flat}
use Rattle.squares.proofs.mix.Goals as goal

pub overflow_sub-result : goal.overflow_sub-result
overflow_sub-result c = let h = c.requires.2 in omega (arith, h.power, down_inside c.args.r c.args.i h.digit c.requires.1 (sym c.has.ensures ∙ c.if-has.true))

pub overflow_shr-result : goal.overflow_shr-result
overflow_shr-result c = let h = c.requires.2 in omega (arith, h.power, power_lt c.args.r h.digit)

pub returns-then-has : goal.returns-then-has
returns-then-has c = mix_high c.args.from.now c.args.r c.args.half c.args.low c.args.i c.requires.2 c.ranges.low.fits c.requires.1 (sym c.has.ensures ∙ c.if-has.true)

pub overflow_add-result : goal.overflow_add-result
overflow_add-result c = record { fits = let h = c.requires.2 in omega (arith, h.power, up_inside c.args.r c.args.i h.digit c.requires.1 (sym c.has.ensures ∙ c.if-has.false)) }

pub offset_bounds-from-i-3 : goal.offset_bounds-from-i-3
offset_bounds-from-i-3 c = record { fits = let h = c.requires.2 in omega (arith, h.power, up_inside c.args.r c.args.i h.digit c.requires.1 (sym c.has.ensures ∙ c.if-has.false)) }

pub bounds-from-i-3 : goal.bounds-from-i-3
bounds-from-i-3 c = let h = c.requires.2 in omega (arith, h.power, up_inside c.args.r c.args.i h.digit c.requires.1 (sym c.has.ensures ∙ c.if-has.false))

pub overflow_shl-result : goal.overflow_shl-result
overflow_shl-result c = let h = c.requires.2 in omega (arith, h.power, power_lt c.args.r h.digit)

pub returns : goal.returns
returns c = mix_flat c.args.from.now c.args.r c.args.half c.args.low c.args.i c.requires.2 c.ranges.low.fits c.requires.1 (sym c.has.ensures ∙ c.if-has.false)
