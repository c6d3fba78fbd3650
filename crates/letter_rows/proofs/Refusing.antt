-- The one refusal of a conversion, and what the test says that it comes from. Assumes nothing.
use Prim.Native.Nat.{ℕ, ◌≤◌, ◌<◌}
use mathlib.Core.Logic.{◌⊎◌, inl, inr}
use mathlib.Core.List.{List}
use lib.ListN.{length}
use Rattle.bits.proofs.Laws.{lt_or_ge}
use Rattle.automata.specs.Table.{table_entries}
use Rattle.letter_rows.specs.inner.Blocks.{BothLong}
use mathlib.Core.Path.{◌≡◌, refl}
use Rattle.definitions.specs.Numbers.{short_slice_number}
use Rattle.letter_rows.specs.declared.Refusal.{Refusal}
use Rattle.letter_rows.specs.declared.Refusal.TheVariants.{ShortSlice}
use Rattle.letter_rows.specs.Refusals.{number, place}

pub one_number : (x : Refusal) → short_slice_number ≡ number x
one_number ShortSlice = refl

pub one_place : (x : Refusal) → 0 ≡ place x
one_place ShortSlice = refl

-- where not both slices are long, one is short
pub one_short : (given to : List ℕ) → (BothLong given to → ⊥) → (length given < table_entries) ⊎ (length to < table_entries)
one_short given to n = go (lt_or_ge (length given) table_entries) (lt_or_ge (length to) table_entries)
  where
    go : (length given < table_entries) ⊎ (table_entries ≤ length given) → (length to < table_entries) ⊎ (table_entries ≤ length to) → (length given < table_entries) ⊎ (length to < table_entries)
    go (inl h) _ = inl h
    go (inr h) (inl k) = inr k
    go (inr h) (inr k) = absurd (n (record { given_long = h; to_long = k }))
