-- Endless runs, and the runs that they leave from. Assumes nothing.
use Prim.Native.Nat.{ℕ, zero, suc, ◌<◌}
use mathlib.Core.Path.{refl, sym, subst}
use mathlib.Core.Logic.{◌↔◌}
use mathlib.Core.Bool.{Bool, ◌&&◌}
use mathlib.Core.List.{List, [], ◌∷◌}
use lib.Dec.{T}
use Rattle.bits.specs.Word.{bit}
use Rattle.bits.proofs.Truths.{and_T}
use Rattle.models.specs.Model.{Model, Walk, Run, last_from}
use Rattle.lasting.specs.Endless.{EndlessWay, Endless, LastingRun, LastingSet}
use Rattle.lasting.specs.Alive.{alive}

-- an endless run leaves only a state
pub endless_inside : {n : ℕ} {next : ℕ → ℕ → Bool} {s : ℕ} → EndlessWay n next s → s < n
endless_inside {n} e = subst (λ (x : ℕ). x < n) e.begins (e.inside 0)

-- its first step: another leaves the next state
pub endless_on : {n : ℕ} {next : ℕ → ℕ → Bool} {s : ℕ} (e : EndlessWay n next s) → EndlessWay n next (e.way 1)
endless_on e = record { way = λ k. e.way (suc k); begins = refl; inside = λ k. e.inside (suc k); goes = λ k. e.goes (suc k) }

pub endless_goes : {n : ℕ} {next : ℕ → ℕ → Bool} {s : ℕ} (e : EndlessWay n next s) → T (next s (e.way 1))
endless_goes {n} {next} e = subst (λ (x : ℕ). T (next x (e.way 1))) e.begins (e.goes 0)

-- one leaves each of its states
pub endless_at : {n : ℕ} {next : ℕ → ℕ → Bool} {s : ℕ} (e : EndlessWay n next s) (k : ℕ) → EndlessWay n next (e.way k)
unfolding endless_on
endless_at e zero = record { way = e.way; begins = refl; inside = e.inside; goes = e.goes }
endless_at e (suc k) = endless_at (endless_on e) k

-- a step before it
pub endless_from : {n : ℕ} {next : ℕ → ℕ → Bool} {s t : ℕ} → s < n → T (next s t) → EndlessWay n next t → EndlessWay n next s
endless_from {n} {next} {s} {t} l h e = record { way = before s e.way; begins = refl; inside = in'; goes = goes' }
  where
    before : ℕ → (ℕ → ℕ) → ℕ → ℕ
    before s f zero = s
    before s f (suc k) = f k

    in' : (k : ℕ) → before s e.way k < n
    in' zero = l
    in' (suc k) = e.inside k

    goes' : (k : ℕ) → T (next (before s e.way k) (before s e.way (suc k)))
    goes' zero = subst (λ (x : ℕ). T (next s x)) (sym e.begins) h
    goes' (suc k) = e.goes k

module _ (M : Model) (w : ℕ) (lasts : LastingSet M w) where
  -- where an endless run leaves the last state, one leaves every state of the row
  all_on : (ok : ℕ → Bool) (s : ℕ) (r : List ℕ) → Walk M ok (s ∷ r) → Endless M (last_from s r) → Endless M s
  all_on ok s [] h e = e
  all_on ok s (t ∷ r) h e = endless_from h.0 h.2.1 (all_on (M.next s) t r h.2 e)

  member : (ok : ℕ → Bool) (s : ℕ) (r : List ℕ) → Walk M ok (s ∷ r) → Endless M (last_from s r) → T (bit w s)
  member ok s r h e = lasts.members.has s (all_on ok s r h e)

  -- such a row is one of the model without the other states
  row_alive : (ok ok' : ℕ → Bool) → ((t : ℕ) → T (ok t) → T (bit w t) → T (ok' t)) → (s : ℕ) (r : List ℕ)
      → Walk M ok (s ∷ r) → Endless M (last_from s r) → Walk (alive M w) ok' (s ∷ r)
  row_alive ok ok' up s [] h e = (h.0, up s h.1 (member ok s [] h e), tt)
  row_alive ok ok' up s (t ∷ r) h e =
      let here = member ok s (t ∷ r) h e in (
        h.0,
        up s h.1 here,
        row_alive (M.next s) ((alive M w).next s) (λ u n b. (and_T (M.next s u) (bit w s && bit w u)).1 (n, (and_T (bit w s) (bit w u)).1 (here, b))) t r h.2 e,
      )

  -- and a row of that model is one of this, and ends in the set
  alive_row : (ok ok' : ℕ → Bool) → ((t : ℕ) → T (ok' t) → T (ok t) × T (bit w t)) → (s : ℕ) (r : List ℕ)
      → Walk (alive M w) ok' (s ∷ r) → Walk M ok (s ∷ r) × T (bit w (last_from s r))
  alive_row ok ok' down s [] h = let d = down s h.1 in ((h.0, d.0, tt), d.1)
  alive_row ok ok' down s (t ∷ r) h =
      let d = down s h.1 in
      let on = alive_row (M.next s) ((alive M w).next s) (λ u n. let p = (and_T (M.next s u) (bit w s && bit w u)).0 n in (p.0, ((and_T (bit w s) (bit w u)).0 p.1).1)) t r h.2 in
      ((h.0, d.0, on.0), on.1)

  -- the runs that can be continued for ever are the runs of the model without the other states
  pub lasting_alive : (r : List ℕ) → LastingRun M r → Run (alive M w) r
  lasting_alive [] h = absurd h.0.0
  lasting_alive (s ∷ r) h = (tt, row_alive M.initial (alive M w).initial (λ t i b. (and_T (M.initial t) (bit w t)).1 (i, b)) s r h.0.1 h.1)

  pub alive_lasting : (r : List ℕ) → Run (alive M w) r → LastingRun M r
  alive_lasting [] h = absurd h.0
  alive_lasting (s ∷ r) h =
      let p = alive_row M.initial (alive M w).initial (λ t i. (and_T (M.initial t) (bit w t)).0 i) s r h.1 in
      ((tt, p.0), lasts.members.holds (last_from s r) p.1)

  pub lasting_runs : (r : List ℕ) → LastingRun M r ↔ Run (alive M w) r
  lasting_runs r = (lasting_alive r, alive_lasting r)
