-- What the pick tests over arrays of sets is what it tests over marks. Assumes nothing.
use Prim.Native.Nat.{ℕ, ◌^◌, ◌<◌}
use mathlib.Core.Path.{◌≡◌, sym, subst}
use mathlib.Core.List.{List}
use native.Mathlib.Omega.{arith}
use lib.Dec.{T}
use lib.ListN.{get_or}
use Rattle.bits.specs.Word.{bit}
use Rattle.bits.specs.Sets.{Members, In}
use Rattle.bits.proofs.Members.{members_same}
use Rattle.bits.proofs.Resting.{in_word}
use Rattle.automata.proofs.TableOf.{edge_out}
use Rattle.steps.specs.Rows.{Into, rows_table}
use Rattle.levels.specs.declared.searching.Searching.{Searching}
use Rattle.levels.specs.inner.Through.{its_labels}
use Rattle.levels.specs.inner.Passes.{Under, view, Onward, CanNext}
use Rattle.passes.specs.inner.Uses.{Holds, flat, useful_at}
use Rattle.passes.proofs.Keeping.{flat_some}
use Rattle.levels.proofs.UsedLetters.{used_by}

-- what the code builds
pub holds_members : {reached word r : ℕ} (rows letters m useful : List ℕ) (held j t : ℕ) → Members reached (Into (rows_table rows) (In held) (get_or letters t 0))
    → Members r (λ p. T (bit word p) × (view m t p ≡ j)) → Members word (λ p. T (bit reached p) × T (bit (get_or useful (useful_at j t) 0) p)) → Members r (Holds rows letters m useful held j t)
holds_members rows letters m useful held j t x z y =
    members_same z
    (λ p h. let w = y.holds p h.0 in record { into = x.holds p w.0; on = h.1; useful_is = w.1 })
    (λ p h. (y.has p (x.has p h.into, h.useful_is), h.on))

module _ (S : Searching) (m useful : List ℕ) (held j : ℕ) (small : held < 2 ^ 64) where
  holds_onward : (t p : ℕ) → t < S.sizes.states → Holds S.rows.now S.letters.now m useful held j t p → Onward (its_labels S) S.letters.now (λ q. T (bit held q)) m (flat m useful) j t p
  holds_onward t p ht h =
      let e = S.lent.by_letter.sound (get_or S.letters.now t 0) h.into.from p (used_by S.letters.now t ht) (in_word h.into.from small h.into.held) h.into.reads in
      let b = (edge_out S.table.now S.sizes.weight 0 h.into.from (get_or S.letters.now t 0) p e).1 in
      let k = (flat_some m useful t p (omega (arith, S.lent.model.few)) (omega (arith, S.lent.labels.small))).1 (subst (λ (v : ℕ). T (bit (get_or useful (useful_at v t) 0) p)) (sym h.on) h.useful_is) in
      (record { from = h.into.from; held = h.into.held; reads = e }, record { below = b; is = record { on = h.on; useful = k } })

  onward_holds : (t p : ℕ) → t < S.sizes.states → Onward (its_labels S) S.letters.now (λ q. T (bit held q)) m (flat m useful) j t p → Holds S.rows.now S.letters.now m useful held j t p
  onward_holds t p ht h =
      let k = (flat_some m useful t p (omega (arith, S.lent.model.few)) (omega (arith, S.lent.labels.small, h.1.below))).0 h.1.is.useful in
      record {
        into = record { from = h.0.from; held = h.0.held; reads = S.lent.by_letter.complete (get_or S.letters.now t 0) h.0.from p (used_by S.letters.now t ht) h.0.reads };
        on = h.1.is.on;
        useful_is = subst (λ (v : ℕ). T (bit (get_or useful (useful_at v t) 0) p)) h.1.is.on k;
      }

  pub onward_members : {r : ℕ} (t : ℕ) → t < S.sizes.states → Members r (Holds S.rows.now S.letters.now m useful held j t) → Members r (Onward (its_labels S) S.letters.now (λ q. T (bit held q)) m (flat m useful) j t)
  onward_members t ht x = members_same x (λ p h. holds_onward t p ht h) (λ p h. onward_holds t p ht h)

  pub choices_members : {r word : ℕ} (next : ℕ) → Members word (λ t. T (bit next t) × (t < S.sizes.states)) → Members r (λ t. T (bit word t) × ((p : ℕ) × Holds S.rows.now S.letters.now m useful held j t p))
      → Members r (Under (CanNext (its_labels S) S.letters.now next (λ q. T (bit held q)) m (flat m useful) j) S.sizes.states)
  choices_members next w x =
      members_same x
      (λ t h. let y = w.holds t h.0 in record { below = y.1; is = (y.0, (h.1.0, holds_onward t h.1.0 y.1 h.1.1)) })
      (λ t h. (w.has t (h.is.0, h.below), (h.is.1.0, onward_holds t h.is.1.0 h.below h.is.1.1)))
