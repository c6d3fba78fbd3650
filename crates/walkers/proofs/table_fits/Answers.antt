-- `table_fits` meets its contract: so many entries are a table's. Assumes nothing.
use native.Mathlib.Omega.{arith}
use mathlib.Core.Path.{refl}
use Rattle.walkers.proofs.table_fits.Goals as goal

pub returns-clause-exactly : goal.returns-clause-exactly
returns-clause-exactly g c = (omega arith, refl)
