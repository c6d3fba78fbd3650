-- Bytes that the definition of reading is held to. Assumes nothing: each is computed.
use Prim.Native.Nat.{ℕ, zero, suc}
use mathlib.Core.Path.{◌≡◌, refl, ap}
use mathlib.Core.List.{List, [], ◌∷◌, ◌++◌}
use lib.ListN.{replicate, take}
use Rattle.bits.specs.Word.{bit, word, any}
use Rattle.bits.specs.Bytes.{little}
use Rattle.models.specs.declared.ModelData.{ModelData}
use Rattle.models.specs.Reading.{good, fault, one_record, records, straying, linked, reading}
use Rattle.models.specs.Stored.{entries, column}
use Rattle.models.specs.Answer.{answer}

-- a record: letter, flag and the lowest byte of the successors
unfoldable pub state : ℕ → ℕ → ℕ → List ℕ
state x f w = 32 ∷ x ∷ f ∷ w ∷ replicate 7 0

unfoldable pub times : ℕ → List ℕ → List ℕ
times zero r = []
times (suc n) r = r ++ times n r

-- no bytes; the first of two faults in a record; a body that is cut short
pub short : (reading [] ≡ good 0) × (reading (32 ∷ []) ≡ fault 13 1) × (reading (32 ∷ 64 ∷ []) ≡ fault 14 1) × (reading (32 ∷ 0 ∷ 2 ∷ []) ≡ fault 15 2) × (reading (33 ∷ []) ≡ fault 12 0)
unfolding one_record records linked
short = (refl, refl, refl, refl, refl)

-- the model of three states that the paper searches; its second state with a successor that does not exist; a later record's fault
pub three : (reading (state 1 1 2 ++ state 2 0 6 ++ state 4 0 0) ≡ good 3) × (reading (state 1 1 2 ++ state 2 0 14 ++ state 4 0 8) ≡ fault 16 14)
    × (reading (state 1 1 2 ++ state 2 0 14 ++ (33 ∷ [])) ≡ fault 12 22)
unfolding state one_record records straying linked any bit little
three = (refl, refl, refl)

-- 64 states, and one byte more
pub most : (reading (times 64 (state 63 1 255)) ≡ good 64) × (reading (times 64 (state 63 1 255) ++ (0 ∷ [])) ≡ fault 11 704)
unfolding state times one_record records straying linked any bit little
most = (refl, refl)

-- what is stored of those three states
pub kept : (m : ModelData) → m ≡ (answer (state 1 1 2 ++ state 2 0 6 ++ state 4 0 0)).model
    → (take 4 m.letters ≡ 1 ∷ 2 ∷ 4 ∷ 0 ∷ []) × (m.initial ≡ 1) × (take 4 m.successors ≡ 2 ∷ 6 ∷ 0 ∷ 0 ∷ [])
unfolding state one_record records straying linked any bit little entries column word
kept m e = (ap (λ (m : ModelData). take 4 m.letters) e, ap (λ (m : ModelData). m.initial) e, ap (λ (m : ModelData). take 4 m.successors) e)
