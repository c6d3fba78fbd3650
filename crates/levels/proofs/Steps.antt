-- Laws of `Step`: nothing, one place, one after the other. Assumes nothing.
use Prim.Native.Nat.{ℕ, suc, ◌+◌, ◌*◌, ◌≤◌, ◌<◌}
use mathlib.Core.Path.{◌≡◌, refl, ap, sym, subst, ◌∙◌}
use mathlib.Core.Logic.{◌≢◌, ◌↔◌, ◌⊎◌, inl, inr, ⊎_elim}
use mathlib.Core.List.{List}
use native.Mathlib.Omega.{arith}
use native.Mathlib.Decide.{ℕ_discrete}
use lib.ListN.{length, get_or, set, length-set}
use lib.Seq.{get_or-set_same, get_or-set_other}
use Rattle.bits.specs.Sets.{Below}
use Rattle.tables.specs.Beyond.{Beyond}
use Rattle.automata.specs.Table.{table_states}
use Rattle.levels.specs.Right.{Count, none, counted, passed}
use Rattle.levels.specs.Lent.{pair_count}
use Rattle.levels.specs.inner.Passes.{Nz, Step, At}
use Rattle.levels.proofs.Tally.{count_map}

-- one more place
pub count_add : {P Q : ℕ → Type 0} (at : ℕ) {n k : ℕ} → Count P n k → at < n → (P at → ⊥) → Q at → ((i : ℕ) → i ≢ at → (P i ↔ Q i)) → Count Q n (suc k)
count_add at none l no-at q f = absurd (omega arith)
count_add {P} {Q} at (counted {n = n} {c = c} p a) l no-at q f = go (ℕ_discrete n at) (λ h. count_add at a h no-at q f)
  where
    go : Dec (n ≡ at) → (at < n → Count Q n (suc c)) → Count Q (suc n) (suc (suc c))
    go (yes e) r = absurd (no-at (subst P e p))
    go (no e) r = counted ((f n e).0 p) (r (omega arith))
count_add {P} {Q} at (passed {n = n} {c = c} p a) l no-at q f = go (ℕ_discrete n at) (λ h. count_add at a h no-at q f)
  where
    go : Dec (n ≡ at) → (at < n → Count Q n (suc c)) → Count Q (suc n) (suc c)
    go (yes e) r = counted (subst Q (sym e) q) (count_map a (λ i h. (f i (omega arith)).0) (λ i h. (f i (omega arith)).1))
    go (no e) r = passed (λ x. p ((f n e).1 x)) (r (omega arith))

pub step_none : (j : ℕ) (a : List ℕ) (S : ℕ → Type 0) → ((i : ℕ) → S i → get_or a i 0 ≢ 0) → Step j a a S 0
step_none j a S f = record {
  size = refl;
  only = λ i. inl refl;
  all = f;
  tally = λ k x. subst (λ (n : ℕ). Count (Nz a) pair_count n) (omega arith) x;
  quiet = λ e. refl;
}

pub step_one : (j : ℕ) (a : List ℕ) (at : ℕ) → at < pair_count → pair_count ≤ length a → get_or a at 0 ≡ 0 → Step j a (set a at (suc j)) (λ i. i ≡ at) 1
step_one j a at l h z = record {
  size = length-set a at (suc j);
  only = λ i. kept i (ℕ_discrete i at);
  all = λ i e. new i e;
  tally = λ k x. subst (λ (n : ℕ). Count (Nz (set a at (suc j))) pair_count n) (omega arith)
      (count_add at x l (λ f. f z) (new at refl) same);
  quiet = λ e. absurd (omega arith);
}
  where
    new : (i : ℕ) → i ≡ at → get_or (set a at (suc j)) i 0 ≢ 0
    new i e =
        let y : get_or (set a at (suc j)) at 0 ≡ suc j = get_or-set_same a at (suc j) 0 (omega arith) in
        subst (λ (x : ℕ). get_or (set a at (suc j)) x 0 ≢ 0) (sym e) (omega arith)

    same : (i : ℕ) → i ≢ at → (Nz a i ↔ Nz (set a at (suc j)) i)
    same i e = let y : get_or (set a at (suc j)) i 0 ≡ get_or a i 0 = get_or-set_other a at i (suc j) 0 e in (λ x. omega arith, λ x. omega arith)

    kept : (i : ℕ) → Dec (i ≡ at) → (get_or (set a at (suc j)) i 0 ≡ get_or a i 0) ⊎ ((i ≡ at) × (get_or a i 0 ≡ 0) × (get_or (set a at (suc j)) i 0 ≡ suc j))
    kept i (yes e) = inr (e, ap (λ (x : ℕ). get_or a x 0) e ∙ z, ap (λ (x : ℕ). get_or (set a at (suc j)) x 0) e ∙ get_or-set_same a at (suc j) 0 (omega arith))
    kept i (no e) = inl (get_or-set_other a at i (suc j) 0 e)

pub step_then : {j : ℕ} {a b d : List ℕ} {S S' : ℕ → Type 0} {c c' : ℕ} → Step j a b S c → Step j b d S' c' → (U : ℕ → Type 0)
    → ((i : ℕ) → S i → U i) → ((i : ℕ) → S' i → U i) → ((i : ℕ) → U i → S i ⊎ S' i) → Step j a d U (c + c')
step_then {j} {a} {b} {d} {S} {S'} {c} {c'} x y U f g h = record {
  size = y.size ∙ x.size;
  only = λ i. either i (x.only i) (y.only i);
  all = λ i u. ⊎_elim (λ s. stays i (x.all i s) (y.only i)) (λ s. y.all i s) (h i u);
  tally = λ k n. subst (λ (z : ℕ). Count (Nz d) pair_count z) (omega arith) (y.tally (k + c) (x.tally k n));
  quiet = λ e. y.quiet (omega arith) ∙ x.quiet (omega arith);
}
  where
    stays : (i : ℕ) → get_or b i 0 ≢ 0 → (get_or d i 0 ≡ get_or b i 0) ⊎ (S' i × (get_or b i 0 ≡ 0) × (get_or d i 0 ≡ suc j)) → get_or d i 0 ≢ 0
    stays i n (inl e) = omega arith
    stays i n (inr e) = omega arith

    either : (i : ℕ) → (get_or b i 0 ≡ get_or a i 0) ⊎ (S i × (get_or a i 0 ≡ 0) × (get_or b i 0 ≡ suc j)) → (get_or d i 0 ≡ get_or b i 0) ⊎ (S' i × (get_or b i 0 ≡ 0) × (get_or d i 0 ≡ suc j))
        → (get_or d i 0 ≡ get_or a i 0) ⊎ (U i × (get_or a i 0 ≡ 0) × (get_or d i 0 ≡ suc j))
    either i (inl e) (inl k) = inl (k ∙ e)
    either i (inl e) (inr k) = inr (g i k.0, omega arith, k.2)
    either i (inr e) (inl k) = inr (f i e.0, e.1, k ∙ e.2)
    either i (inr e) (inr k) = absurd (omega arith)

-- a step that marks rows below n alone leaves what stands past them
pub step_rows : {j : ℕ} {a b : List ℕ} {S : ℕ → Type 0} {c : ℕ} (n : ℕ) → Step j a b S c → ((i : ℕ) → S i → i < table_states * n) → Beyond (table_states * n) a b
step_rows n x f = record { size = x.size; rest = λ i h. ⊎_elim (λ e. e) (λ e. absurd (let l = f i e.0 in omega arith)) (x.only i) }

pub in_rows : {P : ℕ → Type 0} {t n k i : ℕ} → k ≤ table_states → t < n → Below (At P t) k i → i < table_states * n
in_rows l h x = let p = x.holds.place in let b = x.below in omega arith
