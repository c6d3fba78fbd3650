-- How the bytes of a model are read: record after record, byte after byte, and the first fault in reading order is the answer.
-- Assumes nothing: these are definitions.
use Rattle.std.specs.Prelude.{ℕ, zero, suc, ◌+◌, ◌*◌, ◌≤◌, Bool, true, false, not, ◌&&◌, List, eqb, leb, ltb, length, get_or}
use Rattle.bits.specs.Word.{bit, any}
use Rattle.bits.specs.Bytes.{little}
use Rattle.models.specs.Model.{model_states}

-- what reading comes to: the number of states, or a refusal's number and place
pub data Outcome : Type 0 where
  good : ℕ → Outcome
  fault : ℕ → ℕ → Outcome

-- where the test fails, the fault with this number at this place; where it holds, reading goes on
abbrev pub demand : Bool → ℕ → ℕ → Outcome → Outcome
demand true number place on = on
demand false number place on = fault number place

-- the 11 bytes of state k begin at 11 * k: the kind, the letter, the flag, and the successors, lowest byte first
abbrev pub letter : List ℕ → ℕ → ℕ
letter s k = get_or s (11 * k + 1) 0

abbrev pub flag : List ℕ → ℕ → ℕ
flag s k = get_or s (11 * k + 2) 0

abbrev pub successors : List ℕ → ℕ → ℕ
successors s k = little 8 s (11 * k + 3)

-- the record that begins at the byte `at`: the kind is 0x20 (32), the letter below 64, the flag 0 or 1, and 8 bytes of successors are there
unfoldable pub one_record : List ℕ → ℕ → Outcome → Outcome
one_record s at on =
    demand (eqb (get_or s at 0) 32) 12 at
    (demand (ltb (at + 1) (length s)) 13 (length s)
    (demand (leb (get_or s (at + 1) 0) 63) 14 (at + 1)
    (demand (ltb (at + 2) (length s)) 13 (length s)
    (demand (leb (get_or s (at + 2) 0) 1) 15 (at + 2)
    (demand (leb (at + 11) (length s)) 13 (length s) on)))))

-- where the bytes end before state k there are k states
abbrev pub ended : Bool → ℕ → Outcome → Outcome
ended true k on = good k
ended false k on = on

-- the records from state k on, where the model may have `room` more of them
unfoldable pub records : ℕ → List ℕ → ℕ → Outcome
records zero s k = ended (leb (length s) (11 * k)) k (fault 11 (11 * k))
records (suc room) s k = ended (leb (length s) (11 * k)) k (one_record s (11 * k) (records room s (k + 1)))

-- the set w has a member that is none of the n states
unfoldable pub straying : ℕ → ℕ → Bool
straying n w = any model_states (λ t. bit w t && not (ltb t n))

-- the successors of `left` states, of n, from state k on: the lowest state that has one which does not exist is at fault
unfoldable pub linked : ℕ → List ℕ → ℕ → ℕ → Outcome
linked zero s n k = good n
linked (suc left) s n k = demand (not (straying n (successors s k))) 16 (11 * k + 3) (linked left s n (k + 1))

-- successors are looked at once all records are read
abbrev pub then_linked : List ℕ → Outcome → Outcome
then_linked s (good n) = linked n s n 0
then_linked s (fault number place) = fault number place

-- a model has at most 64 states
abbrev pub reading : List ℕ → Outcome
reading s = then_linked s (records model_states s 0)

-- the bytes have the whole records of n states, and no model has more than 64
pub record Whole (s : List ℕ) (n : ℕ) : Type 0 where
  pub few : n ≤ model_states
  pub long : 11 * n ≤ length s
