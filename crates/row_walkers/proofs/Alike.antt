-- What a walker answers over a table it answers over the table's rows. Assumes nothing.
use Prim.Native.Nat.{ℕ, ◌+◌, ◌<◌, ◌≤◌}
use native.Mathlib.Omega.{arith}
use mathlib.Core.Path.{◌≡◌, refl, sym, ◌∙◌}
use mathlib.Core.Logic.{◌⊎◌, inl, inr}
use mathlib.Core.List.{List, [], ◌∷◌}
use lib.ListN.{length}
use borrow.Author.Tests.{lt-ltb, le-ltb}
use Rattle.bits.proofs.Laws.{lt_or_ge}
use Rattle.definitions.specs.Definition2.{letter_count}
use Rattle.automata.specs.Table.{table_entries}
use Rattle.steps.specs.Moves.{advanced}
use Rattle.walkers.specs.declared.Walker.{Walker}
use Rattle.walkers.specs.Steps.{step_of}
use Rattle.walkers.specs.Walks.{follow_from, follow_of}
use Rattle.walkers.specs.Remembers.{Took, fresh, stepped, refused}
use Rattle.letter_rows.specs.Layouts.{RowsOf, table_by}
use Rattle.letter_rows.proofs.Laying.{table_length, advanced_same}

-- the table of rows is as long as they are
pub as_long : (rows : List ℕ) → table_entries ≤ length rows → table_entries ≤ length (table_by rows)
as_long rows l = omega (arith, table_length rows)

pub as_short : (rows : List ℕ) → length rows < table_entries → length (table_by rows) < table_entries
as_short rows l = omega (arith, table_length rows)

-- over short slices every step is refused alike
pub short_alike : (t u : List ℕ) → length t < table_entries → length u < table_entries → (w : Walker) (x : ℕ) → step_of t w x ≡ step_of u w x
unfolding step_of
short_alike t u h k w x = rw (lt-ltb (length t) table_entries h, lt-ltb (length u) table_entries k)

pub short_follow : (t u : List ℕ) → length t < table_entries → length u < table_entries → (finals : ℕ) (l : List ℕ) → follow_of t finals l ≡ follow_of u finals l
unfolding follow_of
short_follow t u h k finals l = rw (lt-ltb (length t) table_entries h, lt-ltb (length u) table_entries k)

-- tables that lead each set to the same states answer the same
module _ (t u : List ℕ) (long-t : table_entries ≤ length t) (long-u : table_entries ≤ length u) (same : (set x : ℕ) → x < letter_count → advanced t set x ≡ advanced u set x) where
  step_alike : (w : Walker) (x : ℕ) → step_of t w x ≡ step_of u w x
  unfolding step_of
  step_alike w x = go (lt_or_ge x letter_count)
    where
      go : (x < letter_count) ⊎ (letter_count ≤ x) → step_of t w x ≡ step_of u w x
      go (inl h) = rw (le-ltb (length t) table_entries long-t, le-ltb (length u) table_entries long-u, same w.set x h)
      go (inr h) = rw (le-ltb (length t) table_entries long-t, le-ltb (length u) table_entries long-u, le-ltb x letter_count h)

  from_alike : (finals set i : ℕ) (l : List ℕ) → follow_from t finals set i l ≡ follow_from u finals set i l
  unfolding follow_from
  from_alike finals set i [] = refl
  from_alike finals set i (x ∷ l) = go (lt_or_ge x letter_count) (λ s. from_alike finals s (i + 1) l)
    where
      go : (x < letter_count) ⊎ (letter_count ≤ x) → ((s : ℕ) → follow_from t finals s (i + 1) l ≡ follow_from u finals s (i + 1) l) → follow_from t finals set i (x ∷ l) ≡ follow_from u finals set i (x ∷ l)
      go (inl h) ih = rw (lt-ltb x letter_count h, same set x h) (ih (advanced u set x))
      go (inr h) ih = rw (le-ltb x letter_count h)

  follow_alike : (finals : ℕ) (l : List ℕ) → follow_of t finals l ≡ follow_of u finals l
  unfolding follow_of
  follow_alike finals l = rw (le-ltb (length t) table_entries long-t, le-ltb (length u) table_entries long-u) (from_alike finals 1 0 l)

-- a table and its rows
module _ {table rows : List ℕ} (r : RowsOf table rows) where
  pub rows_step : (w : Walker) (x : ℕ) → step_of (table_by rows) w x ≡ step_of table w x
  rows_step = step_alike (table_by rows) table (as_long rows r.rows_long) r.table_long (advanced_same r)

  pub rows_follow : (finals : ℕ) (l : List ℕ) → follow_of (table_by rows) finals l ≡ follow_of table finals l
  rows_follow = follow_alike (table_by rows) table (as_long rows r.rows_long) r.table_long (advanced_same r)

  -- a walker that took letters over the rows took them over the table
  pub rows_took : {finals : ℕ} {l : List ℕ} {v : Walker} → Took (table_by rows) finals l v → Took table finals l v
  rows_took (fresh e d) = fresh e d
  rows_took (stepped u w x b h e d) = stepped u w x b (rows_took h) (sym (rows_step w x) ∙ e) d
  rows_took (refused t' w x n p h e) = refused t' w x n p (rows_took h) e
