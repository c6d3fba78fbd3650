-- Laws of counts, and the bound s·(n-1). Assumes nothing.
use Prim.Native.Nat.{ℕ, zero, suc, ◌+◌, ◌*◌, ◌-◌, ◌/◌, ◌%◌, min, ◌≤◌, ◌<◌}
use mathlib.Core.Path.{◌≡◌, refl, ap, subst, ◌∙◌}
use native.Mathlib.Omega.{arith}
use native.Mathlib.Decide.{dec_lt}
use native.Mathlib.Nat.{suc-mul}
use Rattle.automata.specs.Table.{table_states}
use Rattle.models.specs.Model.{model_states}
use Rattle.levels.specs.Right.{Count, none, counted, passed}
use Rattle.levels.specs.Lent.{pair_count}

pub count_map : {P Q : ℕ → Type 0} {n c : ℕ} → Count P n c → ((i : ℕ) → i < n → P i → Q i) → ((i : ℕ) → i < n → Q i → P i) → Count Q n c
count_map none f g = none
count_map (counted {n = n} p a) f g = counted (f n (omega arith) p) (count_map a (λ i h. f i (omega arith)) (λ i h. g i (omega arith)))
count_map (passed {n = n} p a) f g = passed (λ q. p (g n (omega arith) q)) (count_map a (λ i h. f i (omega arith)) (λ i h. g i (omega arith)))

pub count_le : {P : ℕ → Type 0} {n c : ℕ} → Count P n c → c ≤ n
count_le none = omega arith
count_le (counted p a) = omega (arith, count_le a)
count_le (passed p a) = omega (arith, count_le a)

-- what stands at k and after
pub record Split (P : ℕ → Type 0) (k b c : ℕ) : Type 0 where
  pub fore : ℕ
  pub aft : ℕ
  pub front : Count P k fore
  pub back : Count (λ i. P (k + i)) b aft
  pub sum : c ≡ fore + aft

pub split : {P : ℕ → Type 0} (k b n c : ℕ) → n ≡ k + b → Count P n c → Split P k b c
split {P} k zero n c e a = record { fore = c; aft = 0; front = subst (λ (x : ℕ). Count P x c) (omega arith) a; back = none; sum = omega arith }
split k (suc b) zero c e a = absurd (omega arith)
split {P} k (suc b) (suc n) (suc c) e (counted p a) =
    let d : Split P k b c = split k b n c (omega arith) a in
    record { fore = d.fore; aft = suc d.aft; front = d.front; back = counted {n = b} (let h : n ≡ k + b = omega arith in subst P h p) d.back; sum = omega (arith, d.sum) }
split {P} k (suc b) (suc n) c e (passed p a) =
    let d : Split P k b c = split k b n c (omega arith) a in
    record { fore = d.fore; aft = d.aft; front = d.front; back = passed {n = b} (λ x. p (let h : k + b ≡ n = omega arith in subst P h x)) d.back; sum = d.sum }

-- in a row only the numbers above 0 and below n
row : {R : ℕ → Type 0} (n : ℕ) {b c : ℕ} → ((i : ℕ) → i < b → R i → (0 < i) × (i < n)) → Count R b c → c ≤ min (b - 1) (n - 1)
row n f none = omega arith
row n f (counted {n = i} p a) = omega (arith, row n (λ j h. f j (omega arith)) a, f i (omega arith) p)
row n f (passed p a) = omega (arith, row n (λ j h. f j (omega arith)) a)

empty : {R : ℕ → Type 0} {b c : ℕ} → ((i : ℕ) → i < b → R i → ⊥) → Count R b c → c ≡ 0
empty f none = refl
empty f (counted {n = i} p a) = absurd (f i (omega arith) p)
empty f (passed p a) = empty (λ j h. f j (omega arith)) a

-- s rows, and in each those above 0 and below n
pub rows : {P : ℕ → Type 0} (s n : ℕ) → ((i : ℕ) → P i → (i / table_states < s) × (0 < i % table_states) × (i % table_states < n)) → (a : ℕ) {c : ℕ} → Count P (table_states * a) c → c ≤ min a s * (n - 1)
rows {P} s n f zero {c} k = omega (arith, count_le k)
rows {P} s n f (suc a) {c} k =
    let d : Split P (table_states * a) table_states c = split (table_states * a) table_states (table_states * suc a) c (omega arith) k in
    go d (rows s n f a d.front) (dec_lt a s)
  where
    go : (d : Split P (table_states * a) table_states c) → d.fore ≤ min a s * (n - 1) → Dec (a < s) → c ≤ min (suc a) s * (n - 1)
    go d z (yes h) =
        let u : min (suc a) s ≡ suc (min a s) = omega arith in
        let v : min (suc a) s * (n - 1) ≡ min a s * (n - 1) + (n - 1) = ap (λ (x : ℕ). x * (n - 1)) u ∙ suc-mul (min a s) (n - 1) in
        let r : d.aft ≤ min (table_states - 1) (n - 1) = row n (λ i l p. omega (arith, f (table_states * a + i) p)) d.back in
        omega (arith, d.sum)
    go d z (no h) =
        let u : min (suc a) s ≡ min a s = omega arith in
        let v : min (suc a) s * (n - 1) ≡ min a s * (n - 1) = ap (λ (x : ℕ). x * (n - 1)) u in
        let y : d.aft ≡ 0 = empty (λ i l p. omega (arith, f (table_states * a + i) p)) d.back in
        omega (arith, d.sum)

-- of at most 64 rows
pub box : {P : ℕ → Type 0} (s n : ℕ) → s ≤ model_states → ((i : ℕ) → P i → (i / table_states < s) × (0 < i % table_states) × (i % table_states < n)) → {c : ℕ} → Count P pair_count c → c ≤ s * (n - 1)
box s n h f {c} k =
    let u : min model_states s ≡ s = omega arith in
    subst (λ (x : ℕ). c ≤ x * (n - 1)) u (rows s n f model_states k)
