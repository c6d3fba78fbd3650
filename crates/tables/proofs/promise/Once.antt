-- No second answer and no second slice fit the promise of `build`; and what it leaves in the slice serves the rule. Assumes nothing.
use Prim.Native.Nat.{ℕ, ◌+◌, ◌*◌, ◌/◌, ◌%◌, ◌^◌, ◌<◌, ◌≤◌}
use native.Mathlib.Omega.{arith}
use mathlib.Core.Path.{◌≡◌, refl, sym, ap, ap₂, subst, ◌∙◌}
use mathlib.Core.List.{List}
use lib.ListN.{get_or}
use Rattle.rules.specs.declared.Known.{Known}
use Rattle.definitions.specs.Definition1.{Rule}
use Rattle.rules.specs.Answer.{AcceptedAs, known_of}
use Rattle.rules.proofs.Accepting.{not_refused, accepted_once}
use Rattle.rules.proofs.Once.{told_once, handed_on, handed_on_lem}
use Rattle.tables.specs.declared.Refusal.{Refusal}
use Rattle.tables.specs.declared.Refusal.TheVariants.{OfRule, ShortTable}
use Rattle.std.specs.Prelude.{Ok, Err}
use Rattle.tables.specs.Refusals.{number, place}
use Rattle.automata.specs.Table.{table_states, table_entries, table_of}
use Rattle.automata.specs.Promise.{Serves}
use Rattle.automata.specs.IsTable.{IsTable, Words}
use Rattle.tables.specs.Beyond.{Beyond}
use Rattle.tables.specs.Answer.{Result, TableAnswer, tabled, refused, told, BuildRight, rule_refused, short_table, the_table}
use Rattle.tables.proofs.promise.Beyonds.{beyond_once}
use Rattle.automata.proofs.Serving.{one_table, one_finals, serves}

module _ (s t : List ℕ) where
  -- two slices with the rule's table in front and t's entries past it
  module _ (r : Rule) (f g : ℕ) (u v : List ℕ) (i : IsTable r u f) (j : IsTable r v g) (hu : Words u) (hv : Words v) (p : Beyond table_entries t u) (q : Beyond table_entries t v) where
    entry : (k : ℕ) → k < table_entries → get_or u k 0 ≡ get_or v k 0
    entry k l =
        let z : table_states * (k / table_states) + k % table_states ≡ k = omega arith in
        subst (λ (n : ℕ). get_or u n 0 ≡ get_or v n 0) z (one_table r u v f g i j hu hv (k / table_states) (k % table_states) (omega arith) (omega arith))

    same_slice : u ≡ v
    same_slice = beyond_once table_entries t u v p q entry

  module _ (u v : List ℕ) (hu : Words u) (hv : Words v) where
    same_table : (r r' : Rule) (f g : ℕ) → r ≡ r' → f < 2 ^ 64 → g < 2 ^ 64 → IsTable r u f → IsTable r' v g → Beyond table_entries t u → Beyond table_entries t v
        → (tabled (known_of r) f ≡ tabled (known_of r') g) × (u ≡ v)
    same_table r r' f g e lf lg i j p q =
        let j' : IsTable r v g = rw e j in
        (ap₂ tabled (ap known_of e) (one_finals r u v f g i j' lf lg), same_slice r f g u v i j' hu hv p q)

    one_result : {x y : Result} → BuildRight s t u x → BuildRight s t v y → (x ≡ y) × (u ≡ v)
    one_result (rule_refused q e) (rule_refused q' e') = (cc, e ∙ sym e')
    one_result (rule_refused q e) (short_table a l e') = absurd (not_refused s _ _ _ q a)
    one_result (rule_refused q e) (the_table a l lf i p) = absurd (not_refused s _ _ _ q a)
    one_result (short_table a l e) (rule_refused q e') = absurd (not_refused s _ _ _ q a)
    one_result (short_table a l e) (short_table a' l' e') = (refl, e ∙ sym e')
    one_result (short_table a l e) (the_table a' l' lf i p) = absurd (omega arith)
    one_result (the_table a l lf i p) (rule_refused q e) = absurd (not_refused s _ _ _ q a)
    one_result (the_table a l lf i p) (short_table a' l' e) = absurd (omega arith)
    one_result (the_table a l lf i p) (the_table a' l' lg j q) = same_table _ _ _ _ (accepted_once s _ _ a a') lf lg i j p q

-- the refusal of a number and a place, and the answer that a result tells of: `told` loses nothing
abbrev named : ℕ → ℕ → Refusal
named n p = handed_on OfRule ShortTable n p

named_told : (x : Refusal) → named (number x) (place x) ≡ x
named_told (OfRule x) = handed_on_lem OfRule _ x
named_told ShortTable = refl

abbrev meant : Result → TableAnswer
meant (tabled k f) = Ok (record { rule = k; finals = f })
meant (refused n p) = Err (named n p)

meant_told : (a : TableAnswer) → meant (told a) ≡ a
meant_told (Ok t) = refl
meant_told (Err x) = ap Err (named_told x)

-- no second answer and no second slice fit the promise of `build`
pub one_answer : (s t u v : List ℕ) (a b : TableAnswer) → Words u → Words v → BuildRight s t u (told a) → BuildRight s t v (told b) → (a ≡ b) × (u ≡ v)
one_answer s t u v a b hu hv ra rb =
    let o = one_result s t u v hu hv ra rb in
    (told_once told meant meant_told a b o.0, o.1)

-- what an accepted rule leaves in the slice is a table that serves it, whether the states beyond its weight are counted or not
pub right_serves : (s t u : List ℕ) (k : Known) (f : ℕ) → Words u → BuildRight s t u (tabled k f)
    → (r : Rule) × AcceptedAs s r × (k ≡ known_of r) × ((n : ℕ) → k.weight ≤ n → n ≤ table_states → Serves (table_of u n f) r)
right_serves s t u k f hu (the_table {r} a l lf i p) = (r, a, refl, λ n light small. serves r u f i n light small hu)
