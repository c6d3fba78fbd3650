-- The bytes that are written are a model's: the reader of models accepts them, and the model is the one that the two formulas say. Assumes nothing.
use Prim.Native.Nat.{ℕ, zero, suc, ◌+◌, ◌*◌, ◌/◌, ◌%◌, ◌^◌, ◌<◌, ◌≤◌}
use native.Mathlib.Omega.{arith}
use native.Mathlib.Decide.{dec_lt}
use native.Mathlib.Nat.{pow-suc, zero-add, add-zero}
use mathlib.Core.Path.{◌≡◌, refl, sym, ap, ap₂, subst, ◌∙◌}
use mathlib.Core.Bool.{Bool, true, false}
use mathlib.Core.Logic.{◌↔◌}
use mathlib.Core.List.{List, [], ◌∷◌, ◌++◌}
use lib.ListN.{length, get_or, take, drop, get_or-append}
use lib.Seq.{get_or-append-add, take_at}
use Rattle.bits.specs.Word.{bit, num}
use Rattle.bits.specs.Bytes.{little}
use Rattle.bits.proofs.Laws.{bit_word, word_lt}
use Rattle.definitions.specs.Definition1.{Formula}
use Rattle.definitions.specs.Definition2.{holds}
use Rattle.models.specs.Model.{model_states}
use Rattle.models.specs.Stored.{model_of}
use Rattle.models.specs.Answer as models
use Rattle.models.specs.Faults.{next_set, GoodRecord, ModelBytes}
use Rattle.models.proofs.Faulting.{bytes_model, model_says}
use Rattle.formula_models.specs.Meaning.{both, Means, successors}
use Rattle.formula_models.specs.Bytes.{record_bytes, model_length, bytes_of, record_of, records, model_bytes}
use Rattle.formula_models.proofs.Putting.{records_length}

-- ---- a number out of its bytes

little_same : (n : ℕ) (s t : List ℕ) (p q : ℕ) → ((j : ℕ) → j < n → get_or s (p + j) 0 ≡ get_or t (q + j) 0) → little n s p ≡ little n t q
unfolding little
little_same zero s t p q e = refl
little_same (suc n) s t p q e =
    let a : get_or s p 0 ≡ get_or t q 0 = ap (λ (k : ℕ). get_or s k 0) (sym (add-zero p)) ∙ e 0 (omega arith) ∙ ap (λ (k : ℕ). get_or t k 0) (add-zero q) in
    let r = little_same n s t (p + 1) (q + 1) (λ j h. later j h) in
    ap₂ (λ (x y : ℕ). x + 256 * y) a r
  where
    later : (j : ℕ) → j < n → get_or s (p + 1 + j) 0 ≡ get_or t (q + 1 + j) 0
    later j h =
        let u : p + 1 + j ≡ p + (j + 1) = omega arith in
        let v : q + (j + 1) ≡ q + 1 + j = omega arith in
        ap (λ (k : ℕ). get_or s k 0) u ∙ e (j + 1) (omega arith) ∙ ap (λ (k : ℕ). get_or t k 0) v

-- past the first entries of a list
little_past : (n : ℕ) (a s : List ℕ) → little n (a ++ s) (length a) ≡ little n s 0
little_past n a s = little_same n (a ++ s) s (length a) 0 (λ j h. get_or-append-add a s j 0 ∙ ap (λ (k : ℕ). get_or s k 0) (sym (zero-add j)))

little_bytes : (n w : ℕ) → w < 256 ^ n → little n (bytes_of n w) 0 ≡ w
unfolding little bytes_of
little_bytes zero w h = omega (arith, h)
little_bytes (suc n) w h =
    let p = pow-suc 256 n in
    let r = little_bytes n (w / 256) (omega arith) in
    let q = little_past n (w % 256 ∷ []) (bytes_of n (w / 256)) in
    omega arith

-- ---- what stands where

module _ (i : ℕ → Bool) (w : ℕ → ℕ) where
  record_at : (n k j : ℕ) → k < n → j < record_bytes → get_or (records i w n) (record_bytes * k + j) 0 ≡ get_or (record_of k (i k) (w k)) j 0
  unfolding records
  record_at zero k j h l = absurd (omega arith)
  record_at (suc n) k j h l = go (dec_lt k n) (λ o. record_at n k j o l)
    where
      long : length (records i w n) ≡ record_bytes * n
      long = records_length i w n

      go : Dec (k < n) → (k < n → get_or (records i w n) (record_bytes * k + j) 0 ≡ get_or (record_of k (i k) (w k)) j 0) → get_or (records i w n ++ record_of n (i n) (w n)) (record_bytes * k + j) 0 ≡ get_or (record_of k (i k) (w k)) j 0
      go (yes o) ih = let e = long in let m : record_bytes * k + j < length (records i w n) = omega arith in get_or-append (records i w n) (record_of n (i n) (w n)) 0 (record_bytes * k + j) m ∙ ih o
      go (no o) ih =
          let q : n ≡ k = omega arith in
          subst (λ (m : ℕ). get_or (records i w n ++ record_of n (i n) (w n)) (record_bytes * m + j) 0 ≡ get_or (record_of m (i m) (w m)) j 0) q (ap (λ (m : ℕ). get_or (records i w n ++ record_of n (i n) (w n)) (m + j) 0) (sym long) ∙ get_or-append-add (records i w n) (record_of n (i n) (w n)) j 0)

  set_at : (n k : ℕ) → k < n → w k < 256 ^ 8 → next_set (records i w n) k ≡ w k
  set_at n k h l =
      little_same 8 (records i w n) (record_of k (i k) (w k)) (record_bytes * k + 3) 3 (λ j m. here j m)
      ∙ little_past 8 (0x20 ∷ k ∷ num (i k) ∷ []) (bytes_of 8 (w k))
      ∙ little_bytes 8 (w k) l
    where
      here : (j : ℕ) → j < 8 → get_or (records i w n) (record_bytes * k + 3 + j) 0 ≡ get_or (record_of k (i k) (w k)) (3 + j) 0
      here j m =
          let e : record_bytes * k + 3 + j ≡ record_bytes * k + (3 + j) = omega arith in
          ap (λ (p : ℕ). get_or (records i w n) p 0) e ∙ record_at n k (3 + j) h (omega arith)

-- ---- the model of two formulas

flag_small : (b : Bool) → num b ≤ 1
flag_small true = omega arith
flag_small false = omega arith

same_flag : (a b : Bool) (n : ℕ) → n ≡ num b → (a ≡ true) ↔ (n ≡ 1) → a ≡ b
same_flag true true n e h = refl
same_flag false false n e h = refl
same_flag true false n e h = absurd (let z = h.0 refl in omega arith)
same_flag false true n e h = absurd (let z : false ≡ true = h.1 e in let y : ◌≡◌ {A = ℕ} 0 1 = cc in omega arith)

module _ (f g : Formula) where
  pub model_long : length (model_bytes f g) ≡ model_length
  model_long = records_length (holds f) (successors g) model_states

  byte_at : (k j : ℕ) → k < model_states → j < record_bytes → get_or (model_bytes f g) (record_bytes * k + j) 0 ≡ get_or (record_of k (holds f k) (successors g k)) j 0
  byte_at k j h l = record_at (holds f) (successors g) model_states k j h l

  next_at : (k : ℕ) → k < model_states → next_set (model_bytes f g) k ≡ successors g k
  next_at k h = set_at (holds f) (successors g) model_states k h (word_lt model_states (λ y. holds g (both k y)))

  good_record : (k : ℕ) → k < model_states → GoodRecord (model_bytes f g) k
  good_record k h =
      let n = model_long in
      let e = ap (λ (p : ℕ). get_or (model_bytes f g) p 0) (sym (add-zero (record_bytes * k))) ∙ byte_at k 0 h (omega arith) in
      let l = byte_at k 1 h (omega arith) in
      let m = byte_at k 2 h (omega arith) in
      let o = flag_small (holds f k) in
      record { whole = omega arith; kind = e; letter = omega arith; flag = omega arith }

  pub are_model_bytes : ModelBytes (model_bytes f g) model_states
  are_model_bytes = record { records = record { few = omega arith; long = model_long; good = good_record }; linked = λ k h t l b. l }

  -- accepted, as the model that the formulas say
  pub is_a_model : (models.answer (model_bytes f g)).verdict ≡ models.accepted
  is_a_model = bytes_model (model_bytes f g) model_states are_model_bytes

  pub means : Means (model_of (models.answer (model_bytes f g)).model) f g
  means =
      let x = model_says (model_bytes f g) model_states are_model_bytes in
      record {
        states = x.states;
        letter = λ k h. x.letter k h ∙ byte_at k 1 h (omega arith);
        initial = λ k h. same_flag _ (holds f k) _ (byte_at k 2 h (omega arith)) (x.initial k h);
        next = λ k t h l. x.next k t h ∙ ap (λ (s : ℕ). bit s t) (next_at k h) ∙ bit_word model_states (λ y. holds g (both k y)) t l;
      }

-- what a call has written is that model
pub begins_with : (f g : Formula) (before : List ℕ) {after : List ℕ} → after ≡ model_bytes f g ++ drop model_length before → take model_length after ≡ model_bytes f g
begins_with f g before e = ap (take model_length) e ∙ take_at (model_bytes f g) (drop model_length before) model_length (model_long f g)
