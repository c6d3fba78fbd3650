-- `tables::build_accepted` meets its contract. Assumes nothing.
use native.Mathlib.Omega.{arith}
use Rattle.tables.proofs.promise.Tabling.{fits_whole, ready_whole, table_for_lem}
use Rattle.tables.proofs.build_accepted.Goals as goal

pub build_at-shape-requires : goal.build_at-shape-requires
build_at-shape-requires c = record { fits = fits_whole _ _ c.requires.0.1; ready = ready_whole _ _ (omega arith) c.clear.auto.t c.clear.ensures }

pub returns : goal.returns
returns c = table_for_lem _ _ _ _ (omega arith) c.clear.ensures c.clear.auto.t (omega (arith, c.clear.auto.t, c.build_at-shape.auto.t))
    c.build_at-shape.ensures.built_at c.build_at-shape.result c.build_at-shape.ensures.shaped_as (omega (arith, c.build_at-shape.type_inv))
