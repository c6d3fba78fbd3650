-- A table that accepts nothing is trimmed to state 0 alone. Assumes nothing.
use Prim.Native.Nat.{ℕ, ◌+◌, ◌*◌, ◌<◌}
use native.Mathlib.Omega.{arith}
use mathlib.Core.Path.{◌≡◌, refl, ap, subst, ◌∙◌}
use mathlib.Core.Logic.{⊎_elim}
use mathlib.Core.List.{List, [], ◌∷◌}
use lib.Dec.{T}
use Rattle.bits.proofs.Laws.{lt_or_ge}
use Rattle.bits.proofs.Members.{some_member, members_bits}
use Rattle.automata.specs.Table.{table_states, Table, cell, table_of, Goes, Accepts}
use Rattle.automata.specs.IsTable.{Words}
use Rattle.automata.proofs.TableOf.{edge_in, final_in}
use Rattle.trims.specs.Paths.{Link, Reach, first, next, Ends, here, on}
use Rattle.trims.specs.Kept.{Kept, start, passes, new_number}
use Rattle.trims.specs.Stands.{Stands}
use Rattle.trims.specs.Trimmed.{Trimmed}
use Rattle.trims.proofs.Numbers.{number_zero, number_onto}
use Rattle.trims.proofs.Same.{weight_some}

-- no path from 0 ends in a final
module _ {t t' : List ℕ} {n f n' f' : ℕ} (s : Stands t n f) (z : Trimmed t t' n f n' f') (dead : (q : ℕ) → Reach t n q → Ends t n f q → ⊥) where
  no_other : (q : ℕ) → new_number z.kept q ≡ 1 → Kept t n f q → ⊥
  no_other q e (start d) = let o : new_number z.kept q ≡ 0 = ap (new_number z.kept) d ∙ number_zero z.kept in omega arith
  no_other q e (passes r d) = dead q r d

  no_second : 1 < n' → ⊥
  no_second l =
      let c = number_onto z.kept 1 (omega (arith, z.weight)) in
      no_other c.0 c.2 (z.states.states.holds c.0 c.1)

  alone : n' ≡ 1
  alone = ⊎_elim (λ l. absurd (no_second l)) (λ l. omega (arith, weight_some s z)) (lt_or_ge 1 n')

-- so is one that accepts nothing: a path is spelled by letters of its labels
module _ (t : List ℕ) (n f : ℕ) (words : Words t) where
  abbrev A : Table
  A = table_of t n f

  abbrev From : ℕ → Type 0
  From p = (w : List ℕ) × (q : ℕ) × Goes A p w q × T (A.final q)

  from_link : {p q : ℕ} → Link t n p q → From q → From p
  from_link {p} {q} l (w, r, g, h) =
      let x = some_member (words (table_states * p + q)) l.label (members_bits (cell t p q)) in
      (x.0 ∷ w, r, (q, edge_in t n f p x.0 q l.from l.to x.1, g), h)

  from_ends : {p : ℕ} → Ends t n f p → From p
  from_ends {p} (here l b) = ([], p, refl, final_in n f p l b)
  from_ends (on l e) = from_link l (from_ends e)

  from_start : {q : ℕ} → Reach t n q → From q → From 0
  from_start (first e) x = subst (λ (p : ℕ). From p) e x
  from_start (next r l) x = from_start r (from_link l x)

  pub alone_if_none : {t' : List ℕ} {n' f' : ℕ} → Stands t n f → Trimmed t t' n f n' f' → ((w : List ℕ) → Accepts A w → ⊥) → n' ≡ 1
  alone_if_none s z none = alone s z (λ q r e. let x = from_start r (from_ends e) in none x.0 (x.1, x.2, x.3))
