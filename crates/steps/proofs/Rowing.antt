-- A table's rows by letter, put together, and a step of a set over them. Assumes nothing.
use Prim.Native.Nat.{ℕ, ◌+◌, ◌*◌, ◌<◌, ◌≤◌}
use mathlib.Core.Path.{◌≡◌, refl, sym, subst}
use mathlib.Core.Logic.{⊎_elim}
use mathlib.Core.List.{List}
use native.Mathlib.Omega.{arith}
use lib.Dec.{T}
use lib.ListN.{length, get_or}
use Rattle.bits.specs.Word.{bit}
use Rattle.bits.specs.Sets.{In, Below}
use Rattle.bits.proofs.Laws.{bit_zero, bit_of_and}
use Rattle.bits.proofs.Truths.{and_T, false_no}
use Rattle.bits.proofs.Ranges.{below_older, below_newest, below_split}
use Rattle.automata.specs.Table.{Table, table_states, table_entries, cell, table_of}
use Rattle.automata.proofs.TableOf.{edge_out, edge_in}
use Rattle.steps.specs.Rows.{rows_table, Rowed}
use Rattle.steps.specs.inner.Puts.{Adds, AllPuts}
use Rattle.steps.proofs.Adding.{adds_none, adds_then}

-- a place is that of one pair
pub same_place : (x p x' p' : ℕ) → p < table_states → p' < table_states → table_states * x + p ≡ table_states * x' + p' → (x' ≡ x) × (p' ≡ p)
same_place x p x' p' h k e = (omega arith, omega arith)

-- a loop that goes up by one
pub adds_below_none : (a : List ℕ) (S : ℕ → ℕ → ℕ → Type 0) → Adds a a (λ i k. Below (λ q i. S q i k) 0 i)
adds_below_none a S = adds_none a (λ i k. Below (λ q i. S q i k) 0 i) (λ i k b. omega (arith, b.below))

pub adds_below_next : {a b d : List ℕ} (S : ℕ → ℕ → ℕ → Type 0) (n : ℕ) → Adds a b (λ i k. Below (λ q i. S q i k) n i) → Adds b d (S n) → Adds a d (λ i k. Below (λ q i. S q i k) (n + 1) i)
adds_below_next S n x y =
    adds_then (λ i k. Below (λ q i. S q i k) (n + 1) i) x y (λ i k. below_older (λ q i. S q i k) n i) (λ i k. below_newest (λ q i. S q i k) n i) (λ i k. below_split (λ q i. S q i k) n i)

pub adds_below_end : {a b : List ℕ} {m : ℕ} (S : ℕ → ℕ → ℕ → Type 0) → Adds a b (λ i k. Below (λ q i. S q i k) m i) → (n : ℕ) → m ≤ n → n ≤ m → Adds a b (λ i k. Below (λ q i. S q i k) n i)
adds_below_end {a} {b} {m} S x n h l = let e : m ≡ n = omega arith in subst (λ (y : ℕ). Adds a b (λ i k. Below (λ q i. S q i k) y i)) e x

-- rows that began at 0 are the table's, for the letters that are used
module _ (table : List ℕ) (n used : ℕ) (a b : List ℕ) (long : table_entries ≤ length b) (small : n ≤ table_states) (zeros : (i : ℕ) → get_or a i 0 ≡ 0) (y : Adds a b (AllPuts table n used)) where
  sound : (x p q : ℕ) → T (bit used x) → p < table_states → T ((rows_table b).edge p x q) → T ((table_of table n 0).edge p x q)
  sound x p q u hp h = ⊎_elim (λ z. absurd (false_no (bit_zero q) (subst (λ (v : ℕ). T (bit v q)) (zeros (table_states * x + p)) z))) there (y.only (table_states * x + p) q h)
    where
      there : AllPuts table n used (table_states * x + p) q → T ((table_of table n 0).edge p x q)
      there z =
          let r = z.holds in
          let o = r.holds in
          let e = same_place x p o.at z.at hp (omega (arith, z.below)) o.holds.0 in
          let c = ((and_T (bit (cell table z.at r.at) o.at) (bit used o.at)).0 (subst T (bit_of_and (cell table z.at r.at) used o.at) o.inside)).0 in
          subst (λ (v : ℕ). T ((table_of table n 0).edge v x q)) e.1
          (subst (λ (v : ℕ). T ((table_of table n 0).edge z.at v q)) e.0
          (subst (λ (v : ℕ). T ((table_of table n 0).edge z.at o.at v)) (sym o.holds.1)
          (edge_in table n 0 z.at o.at r.at z.below r.below c)))

  complete : (x p q : ℕ) → T (bit used x) → T ((table_of table n 0).edge p x q) → T ((rows_table b).edge p x q)
  complete x p q u h =
      let z = edge_out table n 0 p x q h in
      y.all (table_states * x + p) q
      (record {
        at = p;
        below = z.0;
        holds = record {
          at = q;
          below = z.1;
          holds = record { at = x; inside = subst T (sym (bit_of_and (cell table p q) used x)) ((and_T (bit (cell table p q) x) (bit used x)).1 (z.2, u)); holds = (refl, refl) };
        };
      })

  pub rowed_of : Rowed (table_of table n 0) (In used) b
  rowed_of = record { long = long; sound = sound; complete = complete }

-- other words for the letters that are used
pub rowed_for : {A : Table} {U W : ℕ → Type 0} {rows : List ℕ} → Rowed A U rows → ((x : ℕ) → W x → U x) → Rowed A W rows
rowed_for R f = record { long = R.long; sound = λ x p q v. R.sound x p q (f x v); complete = λ x p q v. R.complete x p q (f x v) }
