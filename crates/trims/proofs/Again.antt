-- A trimmed table stands, and trimming it changes nothing. Assumes nothing.
use Prim.Native.Nat.{ℕ, ◌<◌}
use native.Mathlib.Nat.{le_of_lt}
use native.Mathlib.Omega.{arith}
use mathlib.Core.Path.{◌≡◌, sym, ap, ap₂, subst, ◌∙◌}
use mathlib.Core.Logic.{inl, inr, ⊎_elim}
use mathlib.Core.List.{List}
use lib.Dec.{T}
use Rattle.bits.specs.Word.{bit, all}
use Rattle.bits.proofs.Laws.{lt_or_ge}
use Rattle.bits.proofs.Truths.{false_no}
use Rattle.bits.proofs.Firsts.{all_lt, all_in, all_out, count_all}
use Rattle.automata.specs.Table.{table_states, table_entries, cell}
use Rattle.tables.proofs.promise.Beyonds.{beyond_none}
use Rattle.trims.specs.Kept.{Kept, KeptSet, start, passes, new_number}
use Rattle.trims.specs.Stands.{Stands}
use Rattle.trims.specs.Trimmed.{Trimmed}
use Rattle.trims.proofs.Numbers.{number_zero, number_onto, number_all}
use Rattle.trims.proofs.Ways.{new, kept_inside, reach_new, ends_new}
use Rattle.trims.proofs.Same.{weight_some, weight_small}

module _ {t t' : List ℕ} {n f n' f' : ℕ} (s : Stands t n f) (z : Trimmed t t' n f n' f') where
  pub trimmed_stands : Stands t' n' f'
  trimmed_stands = record {
    some = weight_some s z;
    small = weight_small s z;
    finals = λ q l b. ⊎_elim (λ h. h) (λ h. absurd (false_no (z.no_final q l h) b)) (lt_or_ge q n');
    labels = λ p q lp lq b. (
      ⊎_elim (λ h. h) (λ h. absurd (b (z.no_label p q lp lq (inl h)))) (lt_or_ge p n'),
      ⊎_elim (λ h. h) (λ h. absurd (b (z.no_label p q lp lq (inr h)))) (lt_or_ge q n'),
    );
  }

  -- every state of it is kept
  kept_new : (i q : ℕ) → new s z q ≡ i → Kept t n f q → Kept t' n' f' i
  kept_new i q e (start d) = start (sym e ∙ ap (new s z) d ∙ number_zero z.kept)
  kept_new i q e (passes r d) = subst (λ (x : ℕ). Kept t' n' f' x) e (passes (reach_new s z r d) (ends_new s z d r))

  pub all_kept : (i : ℕ) → i < n' → Kept t' n' f' i
  all_kept i l =
      let c = number_onto z.kept i (omega (arith, z.weight)) in
      kept_new i c.0 c.2 (z.states.states.holds c.0 c.1)

  all_set : KeptSet t' n' f' (all n')
  all_set = record {
    small = all_lt n' 64 (weight_small s z);
    states = record { holds = λ q h. all_kept q (all_out n' q h); has = λ q k. all_in n' q (kept_inside trimmed_stands k) };
  }

  same_number : (q : ℕ) → T (bit (all n') q) → new_number (all n') q ≡ q
  same_number q h = number_all n' q (le_of_lt (all_out n' q h))

  pub trimmed_again : Trimmed t' t' n' f' n' f'
  trimmed_again = record {
    kept = all n';
    states = all_set;
    weight = sym (count_all n' table_states (weight_small s z));
    labels = λ p q hp hq. ap₂ (cell t') (same_number p hp) (same_number q hq);
    no_label = z.no_label;
    rest = beyond_none table_entries t';
    word = z.word;
    finals = λ q h. ap (bit f') (same_number q h);
    no_final = z.no_final;
  }
