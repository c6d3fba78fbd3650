-- What the walk over the step's formula promises, put together from what its calls promise: one law for each arm. Assumes nothing.
use Prim.Native.Nat.{ℕ, ◌+◌, ◌-◌, ◌^◌}
use native.Mathlib.Omega.{arith}
use mathlib.Core.Path.{◌≡◌, sym, ap, ◌∙◌}
use mathlib.Core.Bool.{true}
use mathlib.Core.List.{List}
use lib.ListN.{get_or}
use Rattle.bits.specs.Word.{bit, word}
use Rattle.definitions.specs.declared.kinds.Junction.{Junction}
use Rattle.definitions.specs.declared.kinds.FormulaKind.TheVariants.{Proposition, Truth, Falsity, Not, Join}
use Rattle.definitions.specs.Definition1.{Formula}
use Rattle.systems.specs.declared.kinds.SystemKind.TheVariants.{Plain, Next}
use Rattle.systems.specs.Kinds.{kind_of}
use Rattle.systems.specs.inner.Places.{FormulaAt}
use Rattle.systems.proofs.Inversion.{formula_of}
use Rattle.formula_models.specs.Meaning.{successors}
use Rattle.formula_models.specs.inner.Rows.{model_states, all_if_of, join_words_of, RowPut, RowsAt}
use Rattle.formula_models.proofs.Pairing.{successors_now, successors_next, successors_yea, successors_nay, successors_neg, successors_join}

module _ (s : List ℕ) (at base : ℕ) {b a : List ℕ} where
  pub r_next : kind_of (get_or s at 0) ≡ Next → (w : ℕ) → w ≡ word model_states (λ y. bit y (get_or s (at + 1) 0)) → RowPut b a base (λ x. w) → RowsAt s at b a base (at + 1 + 1)
  r_next q w e p = record {
    size = p.size;
    below = p.below;
    ends = λ f e d. (formula_of s true Next d q).1.ends;
    row = λ f e' d x h. p.here x h ∙ e ∙ successors_next x h (get_or s (at + 1) 0) ∙ ap (λ (g : Formula). successors g x) (sym (formula_of s true Next d q).0);
  }

  pub r_prop : kind_of (get_or s at 0) ≡ Plain Proposition → RowPut b a base (λ x. all_if_of (bit x (get_or s (at + 1) 0))) → RowsAt s at b a base (at + 1 + 1)
  r_prop q p = record {
    size = p.size;
    below = p.below;
    ends = λ f e d. (formula_of s true (Plain Proposition) d q).1.ends;
    row = λ f e d x h.
        let i = formula_of s true (Plain Proposition) d q in
        p.here x h ∙ successors_now x h (get_or s (at + 1) 0) i.1.small ∙ ap (λ (g : Formula). successors g x) (sym i.0);
  }

  pub r_yea : kind_of (get_or s at 0) ≡ Plain Truth → RowPut b a base (λ x. 2 ^ model_states - 1) → RowsAt s at b a base (at + 1)
  r_yea q p = record {
    size = p.size;
    below = p.below;
    ends = λ f e d. (formula_of s true (Plain Truth) d q).1;
    row = λ f e d x h. p.here x h ∙ successors_yea x h ∙ ap (λ (g : Formula). successors g x) (sym (formula_of s true (Plain Truth) d q).0);
  }

  pub r_nay : kind_of (get_or s at 0) ≡ Plain Falsity → RowPut b a base (λ x. 0) → RowsAt s at b a base (at + 1)
  r_nay q p = record {
    size = p.size;
    below = p.below;
    ends = λ f e d. (formula_of s true (Plain Falsity) d q).1;
    row = λ f e d x h. p.here x h ∙ successors_nay x h ∙ ap (λ (g : Formula). successors g x) (sym (formula_of s true (Plain Falsity) d q).0);
  }

  pub r_neg : kind_of (get_or s at 0) ≡ Plain Not → {m : List ℕ} {end : ℕ} → RowsAt s (at + 1) b m base end → RowPut m a base (λ x. 2 ^ model_states - 1 - get_or m (base + x) 0) → RowsAt s at b a base end
  r_neg q {m} {end} o p = record {
    size = p.size ∙ o.size;
    below = λ i h. p.below i h ∙ o.below i h;
    ends = λ f e d. let i = formula_of s true (Plain Not) d q in o.ends i.0 e i.2;
    row = λ f e d x h.
        let i = formula_of s true (Plain Not) d q in
        p.here x h ∙ successors_neg x h i.0 (get_or m (base + x) 0) (o.row i.0 e i.2 x h) ∙ ap (λ (g : Formula). successors g x) (sym i.1);
  }

  pub r_join : (j : Junction) → kind_of (get_or s at 0) ≡ Plain (Join j) → {m n : List ℕ} {mid end : ℕ} → RowsAt s (at + 1) b m base mid → RowsAt s mid m n (base + model_states) end
      → RowPut n a base (λ x. join_words_of j (get_or n (base + x) 0) (get_or n (base + model_states + x) 0)) → RowsAt s at b a base end
  r_join j q {m} {n} {mid} {end} o u p = record {
    size = p.size ∙ u.size ∙ o.size;
    below = λ i h. p.below i h ∙ u.below i (omega arith) ∙ o.below i h;
    ends = λ f e d. let i = second f e d in u.ends i.0 e i.1;
    row = λ f e d x h.
        let i = formula_of s true (Plain (Join j)) d q in
        let k = o.ends i.0 i.2 i.4 in
        p.here x h
        ∙ successors_join x h j i.0 i.1 (get_or n (base + x) 0) (get_or n (base + model_states + x) 0) (u.below (base + x) (omega arith) ∙ o.row i.0 i.2 i.4 x h) (u.row i.1 e (rw k i.5) x h)
        ∙ ap (λ (g : Formula). successors g x) (sym i.3);
  }
    where
      second : (f : Formula) (e : ℕ) → FormulaAt s true at f e → (g : Formula) × FormulaAt s true mid g e
      second f e d = let i = formula_of s true (Plain (Join j)) d q in let k = o.ends i.0 i.2 i.4 in (i.1, rw k i.5)
