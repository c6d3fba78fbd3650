-- Laws of `Put`.
use mathlib.Core.Path.{◌≡◌, refl, ap, ap₂, ◌∙◌}
use mathlib.Core.List.{List}
use mathlib.Core.Logic.{◌⊎◌, inl, inr}
use borrow.Rule.Slice.PartMut.{put_mid}
use Rattle.std.proofs.lemmas.List.{length-take-le, get_or-take, get_or-drop, get_or_append_left, get_or-append_right}
use Rattle.bits.proofs.Laws.{lt_or_ge}
use Prim.Native.Nat.{ℕ, ◌+◌, ◌-◌, ◌*◌, ◌<◌, ◌≤◌}
use native.Mathlib.Omega.{arith}
use native.Mathlib.Nat.{lt_of_not-le}
use native.Mathlib.Decide.{dec_le, dec_lt}
use lib.ListN.{get_or, length, set, take, drop}
use lib.Seq.{get_or-set_same, get_or-set_other}
use Rattle.automata.specs.Table.{table_states, cell}
use Rattle.automata.specs.inner.Cells.{Put, In}

dec_in' : (a b c d p q : ℕ) → Dec (a ≤ p) → Dec (p < b) → Dec (c ≤ q) → Dec (q < d) → Dec (In a b c d p q)
dec_in' a b c d p q (yes x) (yes y) (yes z) (yes w) = yes (record { top = x; bottom = y; left = z; right = w })
dec_in' a b c d p q (yes x) (yes y) (yes z) (no n) = no (λ i. n i.right)
dec_in' a b c d p q (yes x) (yes y) (no n) _ = no (λ i. n i.left)
dec_in' a b c d p q (yes x) (no n) _ _ = no (λ i. n i.bottom)
dec_in' a b c d p q (no n) _ _ _ = no (λ i. n i.top)

pub dec_in : (a b c d p q : ℕ) → Dec (In a b c d p q)
dec_in a b c d p q = dec_in' a b c d p q (dec_le a p) (dec_lt p b) (dec_le c q) (dec_lt q d)

-- a store
pub put_set : (t : List ℕ) (r s v : ℕ) → s < table_states → table_states * r + s < length t → Put t (set t (table_states * r + s) v) r (r + 1) s (s + 1) (λ p q. v)
put_set t r s v l fits = record {
  new = λ p q i. let e : table_states * p + q ≡ table_states * r + s = omega arith in ap (λ (k : ℕ). get_or (set t (table_states * r + s) v) k 0) e ∙ get_or-set_same t (table_states * r + s) v 0 fits;
  old = λ p q m n. get_or-set_other t (table_states * r + s) (table_states * p + q) v 0 (λ e. n (omega arith));
}

-- a part of a row, written at once
module _ (t ys : List ℕ) (r s n k : ℕ) (room : s + n ≤ table_states) (len : length ys ≡ n) (all : k ≡ n) (fits : table_states * r + s + n ≤ length t) where
  abbrev cut : ℕ
  cut = table_states * r + s

  before : length (take cut t) ≡ cut
  before = length-take-le cut t (omega arith)

  slice_old : (j : ℕ) → (j < cut) ⊎ (cut ≤ j) → (cut ≤ j → cut + n ≤ j) → get_or (put_mid cut k t ys) j 0 ≡ get_or t j 0
  slice_old j (inl l) past = get_or_append_left (take cut t) _ 0 j (omega (arith, before)) ∙ get_or-take cut t j 0 l
  slice_old j (inr g) past =
      let h = past g in
      let e : cut + (k + (j - cut - n)) ≡ j = omega arith in
      get_or-append_right _ _ cut j 0 before g ∙ get_or-append_right ys _ n (j - cut) 0 len (omega arith) ∙ get_or-drop k (drop cut t) (j - cut - n) 0 ∙ get_or-drop cut t (k + (j - cut - n)) 0 ∙ ap (λ (x : ℕ). get_or t x 0) e

  slice_new : (p q : ℕ) → In r (r + 1) s (s + n) p q → cell (put_mid cut k t ys) p q ≡ get_or ys (q - s) 0
  slice_new p q i =
      let e : table_states * p + q - cut ≡ q - s = omega arith in
      get_or-append_right _ _ cut (table_states * p + q) 0 before (omega arith) ∙ get_or_append_left ys _ 0 (table_states * p + q - cut) (omega (arith, len)) ∙ ap (λ (x : ℕ). get_or ys x 0) e

  past : (p q : ℕ) → q < table_states → (In r (r + 1) s (s + n) p q → ⊥) → cut ≤ table_states * p + q → (table_states * p + q < cut + n) ⊎ (cut + n ≤ table_states * p + q) → cut + n ≤ table_states * p + q
  past p q l o g (inl h) = absurd (o (omega arith))
  past p q l o g (inr h) = h

  pub put_slice : Put t (put_mid cut k t ys) r (r + 1) s (s + n) (λ p q. get_or ys (q - s) 0)
  put_slice = record {
    new = slice_new;
    old = λ p q l o. slice_old (table_states * p + q) (lt_or_ge (table_states * p + q) cut)
        (λ g. past p q l o g (lt_or_ge (table_states * p + q) (cut + n)));
  }

-- nothing yet
pub put_none : (t : List ℕ) (a b c d : ℕ) (g : ℕ → ℕ → ℕ) → ((p q : ℕ) → In a b c d p q → ⊥) → Put t t a b c d g
put_none t a b c d g none = record { new = λ p q h. absurd (none p q h); old = λ p q l h. refl }

-- one after the other
module _ {t₀ t₁ t₂ : List ℕ} {a₁ b₁ c₁ d₁ a₂ b₂ c₂ d₂ : ℕ} {g₁ g₂ : ℕ → ℕ → ℕ} (a b c d : ℕ) (g : ℕ → ℕ → ℕ) where
  seq_new : ((p q : ℕ) → In a b c d p q → (In a₂ b₂ c₂ d₂ p q → ⊥) → In a₁ b₁ c₁ d₁ p q)
      → ((p q : ℕ) → In a₁ b₁ c₁ d₁ p q → g₁ p q ≡ g p q)
      → ((p q : ℕ) → In a₂ b₂ c₂ d₂ p q → g₂ p q ≡ g p q)
      → d ≤ table_states
      → Put t₀ t₁ a₁ b₁ c₁ d₁ g₁ → Put t₁ t₂ a₂ b₂ c₂ d₂ g₂
      → (p q : ℕ) → In a b c d p q → Dec (In a₂ b₂ c₂ d₂ p q) → cell t₂ p q ≡ g p q
  seq_new split same₁ same₂ l x y p q h (yes i) = y.new p q i ∙ same₂ p q i
  seq_new split same₁ same₂ l x y p q h (no n) =
      y.old p q (omega arith) n ∙ x.new p q (split p q h n) ∙ same₁ p q (split p q h n)

  pub put_seq : Put t₀ t₁ a₁ b₁ c₁ d₁ g₁ → Put t₁ t₂ a₂ b₂ c₂ d₂ g₂ → d ≤ table_states
      → ((p q : ℕ) → In a₁ b₁ c₁ d₁ p q → In a b c d p q)
      → ((p q : ℕ) → In a₂ b₂ c₂ d₂ p q → In a b c d p q)
      → ((p q : ℕ) → In a b c d p q → (In a₂ b₂ c₂ d₂ p q → ⊥) → In a₁ b₁ c₁ d₁ p q)
      → ((p q : ℕ) → In a₁ b₁ c₁ d₁ p q → g₁ p q ≡ g p q)
      → ((p q : ℕ) → In a₂ b₂ c₂ d₂ p q → g₂ p q ≡ g p q)
      → Put t₀ t₂ a b c d g
  put_seq x y l sub₁ sub₂ split same₁ same₂ = record {
    new = λ p q h. seq_new split same₁ same₂ l x y p q h (dec_in a₂ b₂ c₂ d₂ p q);
    old = λ p q m h. y.old p q m (λ i. h (sub₂ p q i)) ∙ x.old p q m (λ i. h (sub₁ p q i));
  }

-- a rectangle grows to the right, and downwards
module _ {t₀ t₁ t₂ : List ℕ} {a b c d : ℕ} {g g' : ℕ → ℕ → ℕ} where
  pub put_right : (e : ℕ) → c ≤ d → d ≤ e → e ≤ table_states → Put t₀ t₁ a b c d g → Put t₁ t₂ a b d e g'
      → ((p q : ℕ) → In a b d e p q → g' p q ≡ g p q) → Put t₀ t₂ a b c e g
  put_right e l m n x y same =
      put_seq a b c e g x y n (λ p q i. omega arith) (λ p q i. omega arith)
      (λ p q i out. let k : q < d = lt_of_not-le (λ z. out (omega arith)) in omega arith)
      (λ p q i. refl) same

  pub put_down : (e : ℕ) → a ≤ b → b ≤ e → d ≤ table_states → Put t₀ t₁ a b c d g → Put t₁ t₂ b e c d g'
      → ((p q : ℕ) → In b e c d p q → g' p q ≡ g p q) → Put t₀ t₂ a e c d g
  put_down e l m n x y same =
      put_seq a e c d g x y n (λ p q i. omega arith) (λ p q i. omega arith)
      (λ p q i out. let k : p < b = lt_of_not-le (λ z. out (omega arith)) in omega arith)
      (λ p q i. refl) same

-- one column more of a row
pub put_step : {t₀ t₁ t₂ : List ℕ} {r lo q v : ℕ} {g : ℕ → ℕ → ℕ} → lo ≤ q → q < table_states → Put t₀ t₁ r (r + 1) lo q g
    → Put t₁ t₂ r (r + 1) q (q + 1) (λ x y. v) → v ≡ g r q → Put t₀ t₂ r (r + 1) lo (q + 1) g
put_step {r} {q} {g} l m x y e =
    put_right (q + 1) l (omega arith) (omega arith) x y
    (λ p s i. let ep : r ≡ p = omega arith in let es : q ≡ s = omega arith in e ∙ ap₂ g ep es)

-- the same rectangle, said otherwise
pub put_as : {t t' : List ℕ} {a b c d a' b' c' d' : ℕ} {g g' : ℕ → ℕ → ℕ} → Put t t' a b c d g
    → a ≡ a' → b ≡ b' → c ≡ c' → d ≡ d' → ((p q : ℕ) → In a b c d p q → g p q ≡ g' p q) → Put t t' a' b' c' d' g'
put_as {a} {b} {c} {d} x ea eb ec ed e = record {
  new = λ p q i. let j : In a b c d p q = omega arith in x.new p q j ∙ e p q j;
  old = λ p q l o. x.old p q l (λ j. o (omega arith));
}

-- nothing is stored, since what stands there is right
pub put_keep : (t : List ℕ) (a b c d : ℕ) (g : ℕ → ℕ → ℕ) → ((p q : ℕ) → In a b c d p q → cell t p q ≡ g p q) → Put t t a b c d g
put_keep t a b c d g is = record { new = is; old = λ p q l h. refl }

-- the same rectangle, twice
pub put_over : {t₀ t₁ t₂ : List ℕ} {a b c d : ℕ} {g₁ g₂ : ℕ → ℕ → ℕ} (g : ℕ → ℕ → ℕ) → Put t₀ t₁ a b c d g₁ → Put t₁ t₂ a b c d g₂
    → ((p q : ℕ) → In a b c d p q → g₂ p q ≡ g p q) → Put t₀ t₂ a b c d g
put_over g x y same = record { new = λ p q i. y.new p q i ∙ same p q i; old = λ p q l o. y.old p q l o ∙ x.old p q l o }
