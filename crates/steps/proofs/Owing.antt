-- Rows that are filled label by label, where one label may still be owed. Assumes nothing.
use Prim.Native.Nat.{ℕ, ◌+◌, ◌*◌}
use mathlib.Core.Path.{◌≡◌, refl, sym, subst, ◌∙◌}
use mathlib.Core.Logic.{◌⊎◌, inl, inr, ⊎_elim}
use mathlib.Core.List.{List}
use borrow.Author.Tests.{eq-eqb, eqb-true}
use native.Mathlib.Omega.{arith}
use lib.Bits.{bit_and}
use lib.Dec.{T, eqb}
use Rattle.bits.specs.Word.{bit, insert}
use Rattle.bits.specs.Sets.{In, Over}
use Rattle.bits.proofs.Laws.{bit_zero, bit_insert}
use Rattle.bits.proofs.Truths.{or_T, true_T, T_true, false_no}
use Rattle.bits.proofs.Ranges.{below_older, below_newest, below_split}
use Rattle.automata.specs.Table.{table_states, cell}
use Rattle.steps.specs.inner.Puts.{Adds, Owes, Extended, nothing, longer, other, Puts, RowPuts, Scatters}

-- a letter's place and a state, together or apart
pub scattered : (label p to i k : ℕ) → Over (In label) (λ x. (i ≡ table_states * x + p) × In to k) → Scatters p to label i k
scattered label p to i k o = (record { at = o.at; inside = o.inside; holds = o.holds.0 }, o.holds.1)

pub unscattered : (label p to i k : ℕ) → Scatters p to label i k → Over (In label) (λ x. (i ≡ table_states * x + p) × In to k)
unscattered label p to i k o = record { at = o.0.at; inside = o.0.inside; holds = (o.0.holds, o.1) }

-- what is owed is paid
pub owes_paid : {a b c : List ℕ} {P U : ℕ → ℕ → Type 0} → Owes a b P U → Adds b c P → Adds a c U
owes_paid x y = record {
  size = y.size ∙ x.size;
  only = λ i k t. ⊎_elim (x.only i k) (λ u. inr (x.owed i k u)) (y.only i k t);
  kept = λ i k t. y.kept i k (x.kept i k t);
  all = λ i k u. ⊎_elim (y.kept i k) (y.all i k) (x.all i k u);
}

-- something is paid, and something else is owed
owes_turn : {a b c : List ℕ} {P U D P' U' : ℕ → ℕ → Type 0} → Owes a b P U → Adds b c D → ((i k : ℕ) → D i k → U' i k) → ((i k : ℕ) → U i k → U' i k) → ((i k : ℕ) → P' i k → U' i k)
    → ((i k : ℕ) → U' i k → U i k ⊎ P' i k) → ((i k : ℕ) → P i k → D i k ⊎ P' i k) → Owes a c P' U'
owes_turn x y d u p s t = record {
  size = y.size ∙ x.size;
  only = λ i k b. ⊎_elim (λ z. ⊎_elim inl (λ v. inr (u i k v)) (x.only i k z)) (λ z. inr (d i k z)) (y.only i k b);
  kept = λ i k b. y.kept i k (x.kept i k b);
  all = λ i k v. ⊎_elim (λ z. ⊎_elim (λ b. inl (y.kept i k b)) (λ o. ⊎_elim (λ e. inl (y.all i k e)) inr (t i k o)) (x.all i k z)) inr (s i k v);
  owed = p;
}

-- before the first label
pub owes_none : (a table : List ℕ) (used p : ℕ) → Owes a a (Scatters p 0 0) (RowPuts table 0 used p)
owes_none a table used p = record {
  size = refl;
  only = λ i k t. inl t;
  kept = λ i k t. t;
  all = λ i k u. absurd (omega (arith, u.below));
  owed = λ i k o. absurd (false_no (bit_zero o.0.at) o.0.inside);
}

insert_old : (w q k : ℕ) → T (bit w k) → T (bit (insert w q) k)
insert_old w q k t = subst T (sym (bit_insert w q k)) ((or_T (bit w k) (eqb k q)).1 (inl t))

insert_new : (w q k : ℕ) → k ≡ q → T (bit (insert w q) k)
insert_new w q k e = subst T (sym (bit_insert w q k)) ((or_T (bit w k) (eqb k q)).1 (inr (true_T (eq-eqb k q e))))

insert_split : (w q k : ℕ) → T (bit (insert w q) k) → T (bit w k) ⊎ (k ≡ q)
insert_split w q k t = ⊎_elim inl (λ u. inr (eqb-true k q (T_true (eqb k q) u))) ((or_T (bit w k) (eqb k q)).0 (subst T (bit_insert w q k) t))

-- one label more
module _ (table : List ℕ) (used p q : ℕ) (a b c : List ℕ) (label to : ℕ) (x : Owes a b (Scatters p to label) (RowPuts table q used p)) where
  abbrev w : ℕ
  w = bit_and (cell table p q) used

  abbrev U : ℕ → ℕ → Type 0
  U i k = RowPuts table q used p i k

  abbrev U' : ℕ → ℕ → Type 0
  U' i k = RowPuts table (q + 1) used p i k

  older : (i k : ℕ) → U i k → U' i k
  older i k u = below_older (λ q i. Puts table used p q i k) q i u

  newest : (i k : ℕ) → Puts table used p q i k → U' i k
  newest i k u = below_newest (λ q i. Puts table used p q i k) q i u

  split : (i k : ℕ) → U' i k → U i k ⊎ Puts table used p q i k
  split i k u = below_split (λ q i. Puts table used p q i k) q i u

  stays : Adds b b (λ i k. ⊥)
  stays = record { size = refl; only = λ i k t. inl t; kept = λ i k t. t; all = λ i k e. absurd e }

  none : w ≡ 0 → Owes a b (Scatters p to label) U'
  none e = owes_turn x stays (λ i k d. absurd d) older (λ i k o. older i k (x.owed i k o)) (λ i k u. ⊎_elim inl (λ o. absurd (false_no (bit_zero o.at) (subst (λ (v : ℕ). T (bit v o.at)) e o.inside))) (split i k u)) (λ i k o. inr o)

  same : w ≡ label → Owes a b (Scatters p (insert to q) label) U'
  same e = owes_turn x stays (λ i k d. absurd d) older owed split' (λ i k o. inr (o.0, insert_old to q k o.1))
    where
      owed : (i k : ℕ) → Scatters p (insert to q) label i k → U' i k
      owed i k o = ⊎_elim (λ t. older i k (x.owed i k (o.0, t)))
          (λ h. newest i k (record { at = o.0.at; inside = subst (λ (v : ℕ). T (bit v o.0.at)) (sym e) o.0.inside; holds = (o.0.holds, h) })) (insert_split to q k o.1)

      split' : (i k : ℕ) → U' i k → U i k ⊎ Scatters p (insert to q) label i k
      split' i k u = ⊎_elim inl (λ o. inr (record { at = o.at; inside = subst (λ (v : ℕ). T (bit v o.at)) e o.inside; holds = o.holds.0 }, insert_new to q k o.holds.1)) (split i k u)

  next : Adds b c (Scatters p to label) → Owes a c (Scatters p (insert 0 q) w) U'
  next y = owes_turn x y (λ i k o. older i k (x.owed i k o)) older owed split' (λ i k o. inl o)
    where
      owed : (i k : ℕ) → Scatters p (insert 0 q) w i k → U' i k
      owed i k o = ⊎_elim (λ t. absurd (false_no (bit_zero k) t)) (λ h. newest i k (record { at = o.0.at; inside = o.0.inside; holds = (o.0.holds, h) })) (insert_split 0 q k o.1)

      split' : (i k : ℕ) → U' i k → U i k ⊎ Scatters p (insert 0 q) w i k
      split' i k u = ⊎_elim inl (λ o. inr (record { at = o.at; inside = o.inside; holds = o.holds.0 }, insert_new 0 q k o.holds.1)) (split i k u)

  pub extended_turn : {v label' to' : ℕ} → v ≡ w → Extended p q v label to label' to' b c → Owes a c (Scatters p to' label') U'
  extended_turn {v} {label'} {to'} e z = go z
    where
      told : {d : List ℕ} (l t : ℕ) → label' ≡ l → to' ≡ t → c ≡ d → Owes a d (Scatters p t l) U' → Owes a c (Scatters p to' label') U'
      told {d} l t f g h o =
          subst (λ (z : List ℕ). Owes a z (Scatters p to' label') U') (sym h)
          (subst (λ (z : ℕ). Owes a d (Scatters p z label') U') (sym g) (subst (λ (z : ℕ). Owes a d (Scatters p t z) U') (sym f) o))

      go : Extended p q v label to label' to' b c → Owes a c (Scatters p to' label') U'
      go (nothing z f g h) = told label to f g h (none (sym e ∙ z))
      go (longer z f g h) = told label (insert to q) f g h (same (sym e ∙ z))
      go (other y f g) = told w (insert 0 q) (f ∙ e) g refl (next y)
