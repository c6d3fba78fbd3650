-- How many bytes a read keeps: at most as many as there is room for. What they are no contract can say. Assumes nothing: these are definitions.
use Rattle.std.specs.Prelude.{ℕ, ◌≤◌, ◌≡◌, Option, Some, Result, Ok}
use Rattle.std.specs.declared.io.Error.{Error}

-- one read
pub record Came (room : ℕ) (got : Result (Option ℕ) Error) : Type 0 where
  pub fits : (more : ℕ) → got ≡ Ok (Some more) → more ≤ room

-- the whole input
pub record Kept (room : ℕ) (input : Result ℕ Error) : Type 0 where
  pub fits : (long : ℕ) → input ≡ Ok long → long ≤ room
