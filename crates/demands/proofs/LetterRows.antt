-- What is asked of rows by letter holds. Assumes nothing.
use Prim.Native.Nat.{ℕ, ◌≤◌, ◌<◌}
use native.Mathlib.Omega.{arith}
use native.Mathlib.Decide.{dec_lt}
use mathlib.Core.Path.{◌≡◌, refl, sym, ap₂, subst, ◌∙◌}
use mathlib.Core.Logic.Iff
use mathlib.Core.Logic.{◌↔◌, ◌⊎◌, inl, inr}
use mathlib.Core.List.{List}
use lib.Dec.{T}
use lib.ListN.{length}
use Rattle.bits.specs.Word.{bit}
use Rattle.bits.proofs.Laws.{bit_zero}
use Rattle.bits.proofs.Truths.{false_no}
use Rattle.bits.proofs.Resting.{in_word}
use Rattle.automata.specs.Table.{table_of, cell}
use Rattle.automata.proofs.TableOf.{edge_out, edge_in}
use Rattle.tables.specs.Beyond.{Beyond}
use Rattle.walkers.proofs.Once as walkers-once
use Rattle.letter_rows.specs.Layouts.{table_by}
use Rattle.letter_rows.specs.Answer as rows
use Rattle.letter_rows.proofs.Laying as laying
use Rattle.letter_rows.proofs.Inverse as inverse
use Rattle.letter_rows.proofs.Once as rows-once
use Rattle.row_walkers.proofs.Alike as alike
use Rattle.demands.specs.CallFaults.{StepFault, FollowFault, ConvertFault}
use Rattle.demands.specs.CallFaults as faults
use Rattle.demands.specs.LetterRows.{RowsStored, TableStored, RowsRefusedExactly, TableRefusedExactly, StepSame, LentStepSame, FollowSame, ShortSame, StepRowsRefusedExactly, FollowRowsRefusedExactly, RuleRowsFollowed, RuleRowsRemembered, SearchRowsSame, LetterRows}
use Rattle.demands.proofs.CallFaults.{step_fault, follow_fault}
use Rattle.demands.proofs.Demand2 as demand_2
use Rattle.demands.proofs.Walkers as walkers

-- ---- the conversions

kept : {given before after : List ℕ} {entry : ℕ → ℕ → ℕ} → rows.ConvertRight given before after entry rows.converted → Beyond 4096 before after
kept (rows.whole l m f r) = r

pub rows_stored : RowsStored
rows_stored t before r x = ((inverse.rows_are x).same_bit, kept x)

pub table_stored : TableStored
table_stored r before t x = ((inverse.table_has x).same_bit, kept x)

convert_fault : (given before after : List ℕ) {entry : ℕ → ℕ → ℕ} {a : rows.Result} (n p : ℕ) → rows.ConvertRight given before after entry a → (a ≡ rows.refused n p) ↔ ConvertFault given before n p
convert_fault given before after n p (rows.short_slice h e) = (
  λ z. let u : 21 ≡ n = cc in let v : 0 ≡ p = cc in rw (← u, ← v) (short h),
  λ y. let z = numbers y in ap₂ rows.refused (sym z.0) (sym z.1),
)
  where
    short : (length given < 4096) ⊎ (length before < 4096) → ConvertFault given before 21 0
    short (inl l) = faults.short_given l
    short (inr l) = faults.short_output l

    numbers : {n p : ℕ} → ConvertFault given before n p → (n ≡ 21) × (p ≡ 0)
    numbers (faults.short_given l) = (refl, refl)
    numbers (faults.short_output l) = (refl, refl)
convert_fault given before after n p (rows.whole l m f r) = (λ z. absurd (let w : ◌≡◌ {A = ℕ} 0 1 = cc in omega arith), λ y. absurd (none y))
  where
    none : {n p : ℕ} → ConvertFault given before n p → ⊥
    none (faults.short_given h) = omega arith
    none (faults.short_output h) = omega arith

pub rows_refused_exactly : RowsRefusedExactly
rows_refused_exactly t before r a n p x = convert_fault t before r n p x

pub table_refused_exactly : TableRefusedExactly
table_refused_exactly r before t a n p x = convert_fault r before t n p x

keeps : {given before after : List ℕ} {entry : ℕ → ℕ → ℕ} {n p : ℕ} → rows.ConvertRight given before after entry (rows.refused n p) → after ≡ before
keeps (rows.short_slice h e) = e

-- ---- walking

pub step_same : StepSame
step_same t r h w x a b d e = walkers-once.one_step t w x a b (d ∙ alike.rows_step h w x) e

pub lent_step_same : LentStepSame
lent_step_same t r h w x left a b d e = walkers-once.one_lent t w x left b.walker a b.answer (d ∙ alike.rows_step h w x) e

pub follow_same : FollowSame
follow_same t r h f w a b d e = walkers-once.one_follow t f w a b (d ∙ alike.rows_follow h f w) e

pub short_same : ShortSame
short_same t r h k = (alike.short_alike (table_by r) t (alike.as_short r k) h, alike.short_follow (table_by r) t (alike.as_short r k) h)

-- a fault speaks of a slice's length alone
pub step_rows_refused_exactly : StepRowsRefusedExactly
step_rows_refused_exactly r w x n p = Iff.trans (step_fault (table_by r) w x n p) (out, back)
  where
    e : length (table_by r) ≡ length r
    e = laying.table_length r

    out : {n p : ℕ} → StepFault (table_by r) w x n p → StepFault r w x n p
    out (faults.short_slice l) = faults.short_slice (omega (arith, e))
    out (faults.no_letter l h) = faults.no_letter (omega (arith, e)) h
    out (faults.full_count l h k) = faults.full_count (omega (arith, e)) h k

    back : {n p : ℕ} → StepFault r w x n p → StepFault (table_by r) w x n p
    back (faults.short_slice l) = faults.short_slice (omega (arith, e))
    back (faults.no_letter l h) = faults.no_letter (omega (arith, e)) h
    back (faults.full_count l h k) = faults.full_count (omega (arith, e)) h k

pub follow_rows_refused_exactly : FollowRowsRefusedExactly
follow_rows_refused_exactly r f w n p = Iff.trans (follow_fault (table_by r) f w n p) (out, back)
  where
    e : length (table_by r) ≡ length r
    e = laying.table_length r

    out : {n p : ℕ} → FollowFault (table_by r) w n p → FollowFault r w n p
    out (faults.short_slice l) = faults.short_slice (omega (arith, e))
    out (faults.no_letter l h) = faults.no_letter (omega (arith, e)) h

    back : {n p : ℕ} → FollowFault r w n p → FollowFault (table_by r) w n p
    back (faults.short_slice l) = faults.short_slice (omega (arith, e))
    back (faults.no_letter l h) = faults.no_letter (omega (arith, e)) h

pub rule_rows_followed : RuleRowsFollowed
rule_rows_followed f t r finals b h w l a e = let d = e ∙ alike.rows_follow h finals w in Iff.trans (walkers-once.yes_told t finals w a d) (demand_2.follow_accepts f t finals b w l)

pub rule_rows_remembered : RuleRowsRemembered
rule_rows_remembered f t r finals b h w v k = walkers.walker_remembers f t finals b w v (alike.rows_took h k)

search_rows_same : SearchRowsSame
search_rows_same t r n used h w few within fits =
    let x = laying.rows_rowed h w in
    record {
      long = x.long;
      sound = λ k p q u hp e. inside k p q (edge_out t 64 0 p k q (x.sound k p q (in_word k fits u) hp e)).2 (dec_lt p n) (dec_lt q n);
      complete = λ k p q u e. let y = edge_out t n 0 p k q e in x.complete k p q (in_word k fits u) (edge_in t 64 0 p k q (omega (arith, y.0)) (omega (arith, y.1)) y.2);
    }
  where
    nothing : (k p q : ℕ) → T (bit (cell t p q) k) → (n ≤ p) ⊎ (n ≤ q) → ⊥
    nothing k p q s o = false_no (bit_zero k) (subst (λ (y : ℕ). T (bit y k)) (within p q o) s)

    inside : (k p q : ℕ) → T (bit (cell t p q) k) → Dec (p < n) → Dec (q < n) → T ((table_of t n 0).edge p k q)
    inside k p q s (yes a) (yes b) = edge_in t n 0 p k q a b s
    inside k p q s (yes a) (no b) = absurd (nothing k p q s (inr (omega arith)))
    inside k p q s (no a) d = absurd (nothing k p q s (inl (omega arith)))

pub letter_rows_hold : LetterRows
letter_rows_hold = record {
  rows_stored = rows_stored;
  table_stored = table_stored;
  table_comes_back = laying.there_back;
  rows_come_back = laying.back_there;
  table_calls_back = λ t a r b t' w x y i l. inverse.table_back w x y i (omega arith);
  rows_call_back = λ r a t b r' w x y i l. inverse.rows_back w x y i (omega arith);
  rows_refused_exactly = rows_refused_exactly;
  table_refused_exactly = table_refused_exactly;
  refused_rows_keep = λ t before r n p x. keeps x;
  refused_table_keeps = λ r before t n p x. keeps x;
  one_rows = λ t before u v a b x y. rows-once.one_answer a b x y;
  one_table_back = λ r before u v a b x y. rows-once.one_answer a b x y;
  step_same = step_same;
  lent_step_same = lent_step_same;
  follow_same = follow_same;
  short_same = short_same;
  step_rows_refused_exactly = step_rows_refused_exactly;
  follow_rows_refused_exactly = follow_rows_refused_exactly;
  rule_rows_followed = rule_rows_followed;
  rule_rows_remembered = rule_rows_remembered;
  search_rows_same = search_rows_same;
}
