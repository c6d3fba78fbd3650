-- No second answer and no second content of the slice fits the promise of a conversion. Assumes nothing.
use Prim.Native.Nat.{ℕ, ◌+◌, ◌*◌, ◌/◌, ◌%◌, ◌<◌, ◌≤◌}
use native.Mathlib.Omega.{arith}
use mathlib.Core.Path.{◌≡◌, refl, sym, subst, ◌∙◌}
use mathlib.Core.Logic.{◌⊎◌, inl, inr}
use mathlib.Core.List.{List}
use lib.ListN.{length, get_or}
use Rattle.rules.proofs.Once.{told_once}
use Rattle.automata.specs.Table.{table_entries}
use Rattle.tables.proofs.promise.Beyonds.{beyond_once}
use Rattle.std.specs.Prelude as std
use Rattle.std.specs.Prelude.{Ok, Err}
use Rattle.letter_rows.specs.declared.Refusal.{Refusal}
use Rattle.letter_rows.specs.declared.Refusal.TheVariants.{ShortSlice}
use Rattle.letter_rows.specs.Answer.{Result, converted, refused, told, ConvertRight, short_slice, whole}

-- a place among the first 4,096 is that of a pair
pub by_place : (P : ℕ → Type 0) → ((i j : ℕ) → i < 64 → j < 64 → P (64 * i + j)) → (k : ℕ) → k < table_entries → P k
by_place P f k l =
    let e : 64 * (k / 64) + k % 64 ≡ k = omega arith in
    subst P e (f (k / 64) (k % 64) (omega arith) (omega arith))

long_not_short : (given before : List ℕ) → table_entries ≤ length given → table_entries ≤ length before → (length given < table_entries) ⊎ (length before < table_entries) → ⊥
long_not_short given before l m (inl h) = omega arith
long_not_short given before l m (inr h) = omega arith

pub one_result : {given before u v : List ℕ} {entry : ℕ → ℕ → ℕ} {a b : Result} → ConvertRight given before u entry a → ConvertRight given before v entry b → (a ≡ b) × (u ≡ v)
one_result (short_slice h e) (short_slice k d) = (refl, e ∙ sym d)
one_result {given} {before} (short_slice h e) (whole l m f r) = absurd (long_not_short given before l m h)
one_result {given} {before} (whole l m f r) (short_slice h e) = absurd (long_not_short given before l m h)
one_result {before = before} {u} {v} (whole l m f r) (whole l' m' g s) =
    (refl, beyond_once table_entries before u v r s (by_place (λ k. get_or u k 0 ≡ get_or v k 0) (λ i j h k. f i j h k ∙ sym (g i j h k))))

-- the answer that a result tells of: `told` loses nothing
abbrev meant : Result → std.Result (Unit {0}) Refusal
meant converted = Ok tt
meant (refused n p) = Err ShortSlice

meant_told : (a : std.Result (Unit {0}) Refusal) → meant (told a) ≡ a
meant_told (Ok x) = refl
meant_told (Err ShortSlice) = refl

pub one_answer : {given before u v : List ℕ} {entry : ℕ → ℕ → ℕ} (a b : std.Result (Unit {0}) Refusal) → ConvertRight given before u entry (told a) → ConvertRight given before v entry (told b) → (a ≡ b) × (u ≡ v)
one_answer a b x y = let o = one_result x y in (told_once told meant meant_told a b o.0, o.1)
