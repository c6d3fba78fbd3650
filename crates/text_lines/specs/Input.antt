-- The text of an input. Assumes nothing: these are definitions.
use Rattle.std.specs.Prelude.{ℕ, ◌-◌, cond, List, eqb, length, get_or, take}

-- a newline, which is 10, may close it and is no part of it
unfoldable pub text_in_of : List ℕ → List ℕ
text_in_of s = cond (eqb (get_or s (length s - 1) 0) 10) (take (length s - 1) s) s
