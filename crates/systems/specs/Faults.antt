-- When a system is refused, 9 and 2 to 6, and at which place: said of the spellings of systems alone, and of no reader.
-- Assumes nothing: these are definitions.
use Rattle.std.specs.Prelude.{ℕ, ◌+◌, ◌≤◌, ◌<◌, ◌≡◌, List, [], ◌∷◌, ◌++◌, length, get_or, take}
use Rattle.definitions.specs.Definition1.{Formula}
use Rattle.systems.specs.declared.kinds.SystemKind.TheVariants.{Nothing}
use Rattle.systems.specs.Kinds.{kind_of}
use Rattle.systems.specs.Spelling.{Spells}

-- b is some system's bytes, however long
pub record Whole (b : List ℕ) : Type 0 where
  pub first : Formula
  pub step : Formula
  pub spelt : Spells b first step

-- some system's bytes begin with b
pub record Begins (b : List ℕ) : Type 0 where
  pub first : Formula
  pub step : Formula
  pub rest : List ℕ
  pub spelt : Spells (b ++ rest) first step

-- the bytes before p begin a system and are none yet; with the byte at p they begin none
pub record StopsAt (s : List ℕ) (p : ℕ) : Type 0 where
  pub inside : p < length s
  pub before : Begins (take p s)
  pub unfinished : Whole (take p s) → ⊥
  pub no_further : Begins (take (p + 1) s) → ⊥

-- a variable's body is needed at p: 0 may stand there, and 0 is no kind
abbrev pub BodyAt : List ℕ → ℕ → Type 0
BodyAt s p = Begins (take p s ++ (0 ∷ []))

-- what is wrong with the byte at p
pub data Wrong (s : List ℕ) (p : ℕ) : ℕ → Type 0 where
  unknown_kind : (BodyAt s p → ⊥) → kind_of (get_or s p 0) ≡ Nothing → Wrong s p 3
  wrong_sort : (BodyAt s p → ⊥) → (kind_of (get_or s p 0) ≡ Nothing → ⊥) → Wrong s p 4
  no_proposition : BodyAt s p → 5 < get_or s p 0 → Wrong s p 5

-- the refusals: length first, then the first fault in reading order
pub data SystemFault (s : List ℕ) : ℕ → ℕ → Type 0 where
  too_long : 255 < length s → SystemFault s 9 0
  ended : {p : ℕ} → length s ≤ 255 → p ≡ length s → Begins s → (Whole s → ⊥) → SystemFault s 2 p
  stopped : {n p : ℕ} → length s ≤ 255 → StopsAt s p → Wrong s p n → SystemFault s n p
  left_over : {p : ℕ} → length s ≤ 255 → p < length s → Whole (take p s) → SystemFault s 6 p
