-- What the answer of a test says. Assumes nothing: these are definitions.
use Rattle.std.specs.Prelude.{◌≡◌, Bool, true, false}

-- the answer b is yes exactly where P holds: a yes comes with P, a no with that P fails
pub record Says (b : Bool) (P : Type 0) : Type 0 where
  pub yes_holds : b ≡ true → P
  pub no_fails : b ≡ false → P → ⊥
