-- `blocks::product::both` meets its contract. Assumes nothing.
use native.Mathlib.Omega.{arith}
use Rattle.blocks.proofs.Products.{both_small, both_joins}
use Rattle.blocks.proofs.product.both.Goals as goal

pub copy_block-requires : goal.copy_block-requires
copy_block-requires c = let z = both_small _ _ _ _ c.requires in omega arith

pub product-requires : goal.product-requires
product-requires c = let z = both_small _ _ _ _ c.requires in omega arith

pub returns : goal.returns
returns c = both_joins _ _ _ _ _ _ _ c.requires c.copy_block.ensures c.product.ensures
