-- No second table, weight, set of finals or answer fits the promise of `trim`. Assumes nothing.
use Prim.Native.Nat.{ℕ, ◌+◌, ◌*◌, ◌/◌, ◌%◌, ◌<◌, ◌≤◌}
use native.Mathlib.Omega.{arith}
use mathlib.Core.Path.{◌≡◌, refl, sym, ap, ap₂, subst, ◌∙◌}
use mathlib.Core.Logic.{◌⊎◌, inl, inr, ⊎_elim}
use mathlib.Core.Bool.{cond}
use mathlib.Core.List.{List}
use lib.Dec.{T, eqb}
use lib.ListN.{get_or}
use Rattle.std.specs.Prelude as std
use Rattle.std.specs.Prelude.{Ok, Err}
use Rattle.bits.specs.Word.{bit, many}
use Rattle.bits.proofs.Laws.{ext, lt_or_ge}
use Rattle.bits.proofs.Truths.{same_truth}
use Rattle.rules.proofs.Once.{told_once}
use Rattle.automata.specs.Table.{table_states, table_entries, cell}
use Rattle.tables.proofs.promise.Beyonds.{beyond_once}
use Rattle.trims.specs.declared.Refusal.TheVariants.{ShortTable, NoTable}
use Rattle.trims.specs.declared.Refusal.{Refusal}
use Rattle.trims.specs.declared.TrimmedTable.{TrimmedTable}
use Rattle.trims.specs.Kept.{KeptSet, new_number}
use Rattle.trims.specs.Stands.{Stands, Faulty, no_state, too_many, final_outside, label_outside}
use Rattle.trims.specs.Trimmed.{Trimmed}
use Rattle.trims.specs.Answer.{Result, trimmed, refused, told, TrimRight, short_table, no_table, the_trimmed}
use Rattle.trims.proofs.Numbers.{number_onto}
use Rattle.trims.proofs.Again.{trimmed_stands, trimmed_again}

-- a set of kept states is the only one
kept_once : {t : List ℕ} {n f k m : ℕ} → KeptSet t n f k → KeptSet t n f m → k ≡ m
kept_once {k} {m} a b =
    ext 64 k m a.small b.small
    (λ q l. same_truth (bit k q) (bit m q) (λ h. b.states.has q (a.states.holds q h)) (λ h. a.states.has q (b.states.holds q h)))

module _ {t u v : List ℕ} {n f nu nv fu fv : ℕ} (x : Trimmed t u n f nu fu) (y : Trimmed t v n f nv fv) where
  same_kept : y.kept ≡ x.kept
  same_kept = kept_once y.states x.states

  pub one_weight : nu ≡ nv
  one_weight = x.weight ∙ ap (λ (k : ℕ). many table_states (bit k)) (sym same_kept) ∙ sym y.weight

  label_other : (p q : ℕ) → T (bit x.kept p) → T (bit x.kept q) → cell v (new_number x.kept p) (new_number x.kept q) ≡ cell t p q
  label_other = subst (λ (k : ℕ). (p q : ℕ) → T (bit k p) → T (bit k q) → cell v (new_number k p) (new_number k q) ≡ cell t p q) same_kept y.labels

  final_other : (q : ℕ) → T (bit x.kept q) → bit fv (new_number x.kept q) ≡ bit f q
  final_other = subst (λ (k : ℕ). (q : ℕ) → T (bit k q) → bit fv (new_number k q) ≡ bit f q) same_kept y.finals

  one_final : (i : ℕ) → i < table_states → (i < nu) ⊎ (nu ≤ i) → bit fu i ≡ bit fv i
  one_final i l (inl h) =
      let c = number_onto x.kept i (omega (arith, x.weight)) in
      subst (λ (j : ℕ). bit fu j ≡ bit fv j) c.2 (x.finals c.0 c.1 ∙ sym (final_other c.0 c.1))
  one_final i l (inr h) = x.no_final i l h ∙ sym (y.no_final i l (omega (arith, one_weight)))

  pub one_finals : fu ≡ fv
  one_finals = ext 64 fu fv x.word y.word (λ i l. one_final i l (lt_or_ge i nu))

  empty : (i j : ℕ) → i < table_states → j < table_states → (nu ≤ i) ⊎ (nu ≤ j) → cell u i j ≡ cell v i j
  empty i j li lj o = x.no_label i j li lj o ∙ sym (y.no_label i j li lj (subst (λ (m : ℕ). (m ≤ i) ⊎ (m ≤ j)) one_weight o))

  one_label : (i j : ℕ) → i < table_states → j < table_states → (i < nu) ⊎ (nu ≤ i) → (j < nu) ⊎ (nu ≤ j) → cell u i j ≡ cell v i j
  one_label i j li lj (inl hi) (inl hj) =
      let c = number_onto x.kept i (omega (arith, x.weight)) in
      let d = number_onto x.kept j (omega (arith, x.weight)) in
      let e : cell u (new_number x.kept c.0) (new_number x.kept d.0) ≡ cell v (new_number x.kept c.0) (new_number x.kept d.0) =
      x.labels c.0 d.0 c.1 d.1 ∙ sym (label_other c.0 d.0 c.1 d.1) in
      rw (c.2, d.2) at e
  one_label i j li lj (inr hi) _ = empty i j li lj (inl hi)
  one_label i j li lj (inl hi) (inr hj) = empty i j li lj (inr hj)

  entry : (k : ℕ) → k < table_entries → get_or u k 0 ≡ get_or v k 0
  entry k l =
      let e : 64 * (k / 64) + k % 64 ≡ k = omega arith in
      subst (λ (m : ℕ). get_or u m 0 ≡ get_or v m 0) e (one_label (k / 64) (k % 64) (omega arith) (omega arith) (lt_or_ge (k / 64) nu) (lt_or_ge (k % 64) nu))

  pub one_slice : u ≡ v
  one_slice = beyond_once table_entries t u v x.rest y.rest entry

-- what is faulty does not stand
pub no_fault : {t : List ℕ} {n f : ℕ} → Stands t n f → Faulty t n f → ⊥
no_fault s (no_state e) = omega (arith, s.some)
no_fault s (too_many l) = omega (arith, s.small)
no_fault s (final_outside q l h b) = omega (arith, s.finals q l b)
no_fault s (label_outside p q lp lq o b) = ⊎_elim (λ h. omega (arith, (s.labels p q lp lq b).0)) (λ h. omega (arith, (s.labels p q lp lq b).1)) o

pub one_result : {t u v : List ℕ} {n f : ℕ} {a b : Result} → TrimRight t u n f a → TrimRight t v n f b → (a ≡ b) × (u ≡ v)
one_result (short_table l e) (short_table m d) = (refl, e ∙ sym d)
one_result (short_table l e) (no_table m x d) = absurd (omega arith)
one_result (short_table l e) (the_trimmed m s z) = absurd (omega arith)
one_result (no_table l x e) (short_table m d) = absurd (omega arith)
one_result (no_table l x e) (no_table m y d) = (refl, e ∙ sym d)
one_result (no_table l x e) (the_trimmed m s z) = absurd (no_fault s x)
one_result (the_trimmed l s x) (short_table m d) = absurd (omega arith)
one_result (the_trimmed l s x) (no_table m y d) = absurd (no_fault s y)
one_result (the_trimmed l s x) (the_trimmed m r y) = (ap₂ trimmed (one_weight x y) (one_finals x y), one_slice x y)

-- the answer that a result tells of: `told` loses nothing
abbrev meant : Result → std.Result TrimmedTable Refusal
meant (trimmed n f) = Ok (record { weight = n; finals = f })
meant (refused n p) = Err (cond (eqb n 21) ShortTable NoTable)

meant_told : (a : std.Result TrimmedTable Refusal) → meant (told a) ≡ a
meant_told (Ok x) = refl
meant_told (Err ShortTable) = refl
meant_told (Err NoTable) = refl

-- no second answer and no second slice
pub one_answer : (t u v : List ℕ) (n f : ℕ) (a b : std.Result TrimmedTable Refusal) → TrimRight t u n f (told a) → TrimRight t v n f (told b) → (a ≡ b) × (u ≡ v)
one_answer t u v n f a b ra rb = let o = one_result ra rb in (told_once told meant meant_told a b o.0, o.1)

-- trimming what was trimmed changes nothing and answers the same
pub same_again : {t u v : List ℕ} {n f m g : ℕ} {a : Result} → TrimRight t u n f (trimmed m g) → TrimRight u v m g a → (a ≡ trimmed m g) × (v ≡ u)
same_again {u = u} (the_trimmed l s z) r = one_result r (the_trimmed (omega (arith, z.rest.size)) (trimmed_stands s z) (trimmed_again s z))
