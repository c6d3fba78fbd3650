-- The bytes of that model, in the form of document 01: 64 records of 11 bytes. Assumes nothing: these are definitions.
use Rattle.std.specs.Prelude.{ℕ, zero, suc, ◌/◌, ◌%◌, Bool, List, [], ◌∷◌, ◌++◌}
use Rattle.bits.specs.Word.{num}
use Rattle.definitions.specs.Definition1.{Formula}
use Rattle.definitions.specs.Definition2.{holds}
use Rattle.models.specs.Model.{model_states}
use Rattle.formula_models.specs.Meaning.{successors}

abbrev pub record_bytes : ℕ
record_bytes = 11

abbrev pub model_length : ℕ
model_length = 704

-- a number as n bytes, lowest first
unfoldable pub bytes_of : ℕ → ℕ → List ℕ
bytes_of zero w = []
bytes_of (suc n) w = w % 256 ∷ bytes_of n (w / 256)

-- a state's record: the kind, its letter, whether it is initial, and the set of its successors
abbrev pub record_of : ℕ → Bool → ℕ → List ℕ
record_of letter initial set = 0x20 ∷ letter ∷ num initial ∷ bytes_of 8 set

-- the records of the states below n, where state x has the letter x
unfoldable pub records : (ℕ → Bool) → (ℕ → ℕ) → ℕ → List ℕ
records initial next zero = []
records initial next (suc n) = records initial next n ++ record_of n (initial n) (next n)

-- of the states that f and g say
abbrev pub model_bytes : Formula → Formula → List ℕ
model_bytes f g = records (holds f) (successors g) model_states
