-- Of a model that is too long only the first 704 bytes matter: two such that begin alike are answered alike. Assumes nothing.
use Prim.Native.Nat.{ℕ, zero, suc, ◌+◌, ◌*◌, ◌≤◌, ◌<◌}
use native.Mathlib.Omega.{arith}
use mathlib.Core.Path.{◌≡◌, refl, sym, ap, ap₂, ◌∙◌}
use mathlib.Core.Bool.{Bool, true, false}
use mathlib.Core.List.{List}
use lib.Dec.{eqb, leb}
use lib.ListN.{length, get_or}
use borrow.Author.Tests.{lt-ltb, le-leb}
use Rattle.models.specs.Reading.{Outcome, fault, demand, one_record, records, then_linked}
use Rattle.models.specs.Answer.{answer, given, refused_as}
use Rattle.models.proofs.Passes.{records_full, one_more}
use Rattle.models.specs.Model.{model_states}

-- the tests of a record that is not cut short
abbrev whole : ℕ → ℕ → ℕ → ℕ → Outcome → Outcome
whole kind letter flag at on = demand (eqb kind 32) 12 at (demand (leb letter 63) 14 (at + 1) (demand (leb flag 1) 15 (at + 2) on))

module _ (s : List ℕ) (long : 704 < length s) where
  whole_record : (at : ℕ) (on : Outcome) → at + 11 ≤ 704 → one_record s at on ≡ whole (get_or s at 0) (get_or s (at + 1) 0) (get_or s (at + 2) 0) at on
  unfolding one_record
  whole_record at on h =
      let a : at + 1 < length s = omega arith in
      let b : at + 2 < length s = omega arith in
      let c : at + 11 ≤ length s = omega arith in
      simp (lt-ltb _ _ a, lt-ltb _ _ b, le-leb _ _ c)

  next_record : (room k : ℕ) → suc room + k ≡ model_states
      → records (suc room) s k ≡ whole (get_or s (11 * k) 0) (get_or s (11 * k + 1) 0) (get_or s (11 * k + 2) 0) (11 * k) (records room s (k + 1))
  next_record room k e = one_more s room k (omega arith) ∙ whole_record (11 * k) (records room s (k + 1)) (omega arith)

-- reading stops at a fault
record Stops (o : Outcome) : Type 0 where
  number : ℕ
  place : ℕ
  is : o ≡ fault number place

stops_demand : (b : Bool) (number place : ℕ) {on : Outcome} → Stops on → Stops (demand b number place on)
stops_demand true number place x = x
stops_demand false number place x = record { number = number; place = place; is = refl }

stops : (s : List ℕ) → 704 < length s → (room k : ℕ) → room + k ≡ model_states → Stops (records room s k)
stops s long zero k e = let z : k ≡ model_states = omega arith in record { number = 11; place = 704; is = ap (records 0 s) z ∙ records_full s long }
stops s long (suc room) k e =
    let x = stops s long room (k + 1) (omega arith) in
    let y = stops_demand (eqb (get_or s (11 * k) 0) 32) 12 (11 * k) (stops_demand (leb (get_or s (11 * k + 1) 0) 63) 14 (11 * k + 1) (stops_demand (leb (get_or s (11 * k + 2) 0) 1) 15 (11 * k + 2) x)) in
    record { number = y.number; place = y.place; is = next_record s long room k (omega arith) ∙ y.is }

stopped : (s : List ℕ) (x : Stops (records model_states s 0)) → answer s ≡ refused_as x.number x.place
stopped s x = ap (λ (o : Outcome). given s (then_linked s o)) x.is

module _ (s t : List ℕ) (s-long : 704 < length s) (t-long : 704 < length t) (same : (i : ℕ) → i < 704 → get_or s i 0 ≡ get_or t i 0) where
  alike : (room k : ℕ) → room + k ≡ model_states → records room s k ≡ records room t k
  alike zero k e = let z : k ≡ model_states = omega arith in ap (records 0 s) z ∙ records_full s s-long ∙ sym (records_full t t-long) ∙ ap (records 0 t) (sym z)
  alike (suc room) k e =
      let r = alike room (k + 1) (omega arith) in
      let a = same (11 * k) (omega arith) in
      let b = same (11 * k + 1) (omega arith) in
      let c = same (11 * k + 2) (omega arith) in
      next_record s s-long room k (omega arith)
      ∙ ap₂ (λ (x y : ℕ). whole x y (get_or s (11 * k + 2) 0) (11 * k) (records room s (k + 1))) a b
      ∙ ap₂ (λ (x : ℕ) (o : Outcome). whole (get_or t (11 * k) 0) (get_or t (11 * k + 1) 0) x (11 * k) o) c r
      ∙ sym (next_record t t-long room k (omega arith))

  pub long_alike : answer s ≡ answer t
  long_alike =
      let x = stops s s-long 64 0 (omega arith) in
      stopped s x ∙ sym (stopped t (record { number = x.number; place = x.place; is = sym (alike 64 0 (omega arith)) ∙ x.is }))
