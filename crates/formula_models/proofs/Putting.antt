-- Writing the model: a set byte by byte, a record, the records one after the other. Assumes nothing.
use Prim.Native.Nat.{ℕ, zero, suc, ◌+◌, ◌*◌, ◌/◌, ◌<◌, ◌≤◌}
use native.Mathlib.Omega.{arith}
use native.Mathlib.Numerals.{add-one}
use native.Mathlib.Nat.{zero-add}
use mathlib.Core.Path.{◌≡◌, refl, sym, ap, ap₂, subst, ◌∙◌}
use mathlib.Core.Bool.{Bool, true, false}
use mathlib.Core.List.{List, [], ◌∷◌, ◌++◌}
use lib.ListN.{length, get_or, drop, length-append}
use Rattle.std.specs.Int.{w64, to_le_bytes, from_bool}
use Rattle.std.proofs.Math.Nat.{div-div-eq-div-mul}
use Rattle.bits.specs.Word.{bit, num, word}
use Rattle.bits.proofs.Laws.{bit_word}
use Rattle.definitions.specs.Definition1.{Formula}
use Rattle.definitions.specs.Definition2.{holds}
use Rattle.systems.specs.inner.Places.{FormulaAt}
use Rattle.writing.specs.Wrote.{Wrote}
use Rattle.writing.proofs.Wrotes.{wrote_none, wrote_more}
use Rattle.formula_models.specs.Meaning.{successors}
use Rattle.formula_models.specs.Bytes.{record_bytes, model_length, bytes_of, record_of, records, model_bytes}
use Rattle.formula_models.specs.inner.Rows.{model_states, RowsAt}

-- ---- a set

pub bytes_length : (n w : ℕ) → length (bytes_of n w) ≡ n
unfolding bytes_of
bytes_length zero w = refl
bytes_length (suc n) w = ap suc (bytes_length n (w / 256))

-- as the library writes a word
pub low_bytes : (w : ℕ) → to_le_bytes w64 w ≡ bytes_of 8 w
unfolding bytes_of
low_bytes w = simp div-div-eq-div-mul

-- a flag as the library converts it
pub byte_num : (b : Bool) → from_bool b ≡ num b
byte_num true = refl
byte_num false = refl

-- ---- a record

pub record_length : (x : ℕ) (i : Bool) (w : ℕ) → length (record_of x i w) ≡ record_bytes
record_length x i w = let l = bytes_length 8 w in omega arith

pub record_put : (w : ℕ) (i : Bool) {x : ℕ} {b m n o a : List ℕ} {at e e' e'' end : ℕ} → at ≤ length b → Wrote (0x20 ∷ []) b at m e → Wrote (x ∷ []) m e n e' → {f : ℕ} → f ≡ num i → Wrote (f ∷ []) n e' o e''
    → Wrote (bytes_of 8 w) o e'' a end → Wrote (record_of x i w) b at a end
record_put w i {x} h p q {f} z r s = wrote_more h (wrote_more h (wrote_more h p q) (rw z at r)) s

-- ---- the records

module _ (i : ℕ → Bool) (w : ℕ → ℕ) where
  pub records_length : (n : ℕ) → length (records i w n) ≡ record_bytes * n
  unfolding records
  records_length zero = refl
  records_length (suc n) = let l = length-append (records i w n) (record_of n (i n) (w n)) in let k = records_length n in let r = record_length n (i n) (w n) in omega arith

  pub records_none : (b : List ℕ) → Wrote (records i w 0) b 0 b 0
  unfolding records
  records_none b = wrote_none b 0

  module _ {b o : List ℕ} {n e : ℕ} (x : Wrote (records i w n) b 0 o e) where
    pub records_room : model_length ≤ length b → n < model_states → e + record_bytes ≤ length o
    records_room h l = let k = records_length n in let u = x.ends in let v = x.size in omega arith

    pub records_turn : {o' : List ℕ} {e' : ℕ} {j : Bool} → j ≡ i n → Wrote (record_of n j (w n)) o e o' e' → Wrote (records i w (n + 1)) b 0 o' e'
    unfolding records
    records_turn {o'} {e'} {j} q y =
        let z : Wrote (record_of n (i n) (w n)) o e o' e' = subst (λ (k : Bool). Wrote (record_of n k (w n)) o e o' e') q y in
        subst (λ (k : ℕ). Wrote (records i w k) b 0 o' e') (sym (add-one n)) (wrote_more (omega arith) x z)

    pub records_all : n ≡ model_states → Wrote (records i w model_states) b 0 o e
    records_all q = subst (λ (k : ℕ). Wrote (records i w k) b 0 o e) q x

records_same : (i j : ℕ → Bool) (w v : ℕ → ℕ) (n : ℕ) → ((x : ℕ) → x < n → i x ≡ j x) → ((x : ℕ) → x < n → w x ≡ v x) → records i w n ≡ records j v n
unfolding records
records_same i j w v zero p q = refl
records_same i j w v (suc n) p q =
    let a = p n (omega arith) in
    let b = q n (omega arith) in
    let r = records_same i j w v n (λ x h. p x (omega arith)) (λ x h. q x (omega arith)) in
    ap₂ (λ (s t : List ℕ). s ++ t) r (ap₂ (λ (t : Bool) (m : ℕ). record_of n t m) a b)

-- ---- the model

-- the records of the first formula's label and of the second's rows are the model's
pub model_put : (f g : Formula) (initial : ℕ) {s before next b a : List ℕ} {step end e : ℕ} → initial ≡ word model_states (holds f) → RowsAt s step before next 0 end → FormulaAt s true step g (length s)
    → Wrote (records (bit initial) (λ x. get_or next x 0) model_states) b 0 a e → a ≡ model_bytes f g ++ drop model_length b
model_put f g initial {s} {before} {next} {b} {a} {step} {end} {e} p r d w =
    let q = records_same (bit initial) (holds f) (λ x. get_or next x 0) (successors g) model_states (λ x h. ap (λ (m : ℕ). bit m x) p ∙ bit_word model_states (holds f) x h) (λ x h. ap (λ (k : ℕ). get_or next k 0) (sym (zero-add x)) ∙ r.row g (length s) d x h) in
    let l = records_length (bit initial) (λ x. get_or next x 0) model_states in
    let n : e ≡ model_length = omega (arith, w.ends) in
    w.content ∙ ap₂ (λ (p : List ℕ) (k : ℕ). p ++ drop k b) q n
