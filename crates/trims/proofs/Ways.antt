-- A path between kept states is one of the trimmed table, at their new numbers. Assumes nothing.
use Prim.Native.Nat.{ℕ, ◌<◌}
use native.Mathlib.Omega.{arith}
use mathlib.Core.Path.{sym, ap, ◌∙◌}
use mathlib.Core.List.{List}
use lib.Dec.{T}
use Rattle.bits.specs.Word.{bit}
use Rattle.trims.specs.Paths.{Link, Reach, first, next, Ends, here, on}
use Rattle.trims.specs.Kept.{Kept, start, passes, new_number}
use Rattle.trims.specs.Stands.{Stands}
use Rattle.trims.specs.Trimmed.{Trimmed}
use Rattle.trims.proofs.Numbers.{number_zero, number_less}

module _ {t : List ℕ} {n f : ℕ} (s : Stands t n f) where
  pub reach_inside : {q : ℕ} → Reach t n q → q < n
  reach_inside (first e) = omega (arith, s.some)
  reach_inside (next r l) = l.to

  pub kept_inside : {q : ℕ} → Kept t n f q → q < n
  kept_inside (start e) = omega (arith, s.some)
  kept_inside (passes r e) = reach_inside r

module _ {t t' : List ℕ} {n f n' f' : ℕ} (s : Stands t n f) (z : Trimmed t t' n f n' f') where
  abbrev pub new : ℕ → ℕ
  new q = new_number z.kept q

  -- a state of the set is one of the table, and has a number below the new weight
  pub member_inside : (q : ℕ) → T (bit z.kept q) → q < n
  member_inside q h = kept_inside s (z.states.states.holds q h)

  pub new_inside : (q : ℕ) → T (bit z.kept q) → new q < n'
  new_inside q h = omega (arith, number_less z.kept q (omega (arith, member_inside q h, s.small)) h, z.weight)

  pub stays : {q : ℕ} → Reach t n q → Ends t n f q → T (bit z.kept q)
  stays {q} r e = z.states.states.has q (passes r e)

  link_new : {p q : ℕ} → Link t n p q → T (bit z.kept p) → T (bit z.kept q) → Link t' n' (new p) (new q)
  link_new {p} {q} l hp hq = record { from = new_inside p hp; to = new_inside q hq; label = λ e. l.label (sym (z.labels p q hp hq) ∙ e) }

  pub reach_new : {q : ℕ} → Reach t n q → Ends t n f q → Reach t' n' (new q)
  reach_new (first e) d = first (ap new e ∙ number_zero z.kept)
  reach_new (next r l) d = next (reach_new r (on l d)) (link_new l (stays r (on l d)) (stays (next r l) d))

  pub ends_new : {p : ℕ} → Ends t n f p → Reach t n p → Ends t' n' f' (new p)
  ends_new {p} (here h b) r = let k = stays r (here h b) in here (new_inside p k) (rw (z.finals p k) b)
  ends_new (on l e) r = on (link_new l (stays r (on l e)) (stays (next r l) e)) (ends_new e (next r l))
