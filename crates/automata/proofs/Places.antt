-- Where blocks stand, alone and side by side. Assumes nothing.
use Prim.Native.Nat.{ℕ, ◌+◌, ◌-◌, ◌<◌, ◌≤◌}
use native.Mathlib.Omega.{arith}
use mathlib.Core.Path.{◌≡◌, ◌∙◌}
use mathlib.Core.Logic.{◌⊎◌, inl, inr, ◌↔◌}
use mathlib.Core.List.{List}
use lib.Dec.{T}
use Rattle.bits.specs.Word.{bit}
use Rattle.bits.proofs.Laws.{lt_or_ge}
use Rattle.definitions.specs.Definition1.{Rule}
use Rattle.rules.specs.Weight.{weight_of}
use Rattle.automata.specs.Table.{table_states, cell}
use Rattle.automata.specs.Build.{auto, UpF}
use Rattle.automata.specs.inner.Cells.{In, Clean}
use Rattle.automata.specs.inner.Block.{Block, FinalsAt, Built, Beside}
use Rattle.automata.proofs.Labels.{Has, has_none}
use Rattle.definitions.specs.Definition2.{letter_count}

-- a state of two operands is one of the first's, or one of the second's moved up
pub split : (p m n : ℕ) → p < m + n → (p < m) ⊎ ((i : ℕ) × (p ≡ m + i) × (i < n))
split p m n l = go (lt_or_ge p m)
  where
    go : (p < m) ⊎ (m ≤ p) → (p < m) ⊎ ((i : ℕ) × (p ≡ m + i) × (i < n))
    go (inl h) = inl h
    go (inr h) = inr (p - m, omega arith, omega arith)

pub by_cell : {S : Type 0} (v w x : ℕ) → v ≡ w → Has w x ↔ S → Has v x ↔ S
by_cell v w x e h = rw e h

-- no label, and no step
pub by_none : {S : Type 0} (v x : ℕ) → v ≡ 0 → (S → ⊥) → Has v x ↔ S
by_none v x e n = (λ h. absurd (has_none x (rw e at h)), λ s. absurd (n s))

-- an empty label adds nothing
pub drop_none : {S : Type 0} (v x : ℕ) → v ≡ 0 → (Has v x ⊎ S) ↔ S
drop_none {S} v x e = (out, inr)
  where
    out : Has v x ⊎ S → S
    out (inl h) = absurd (has_none x (rw e at h))
    out (inr s) = s

pub block_at : (t : List ℕ) (base : ℕ) (r : Rule) → Block t base r → (P Q p q x : ℕ) → P ≡ base + p → Q ≡ base + q → p < weight_of r → q < weight_of r → x < letter_count
    → Has (cell t P Q) x ↔ (auto r).step p x q
block_at t base r b P Q p q x e d hp hq hx = rw (e, d) (b.label p q x hp hq hx)

pub drop_sum : {P : ℕ → Type 0} (k j q : ℕ) → q ≡ k + j → ((i : ℕ) × (q ≡ k + i) × P i) ↔ P j
drop_sum {P} k j q e = (out, λ s. (j, e, s))
  where
    out : (i : ℕ) × (q ≡ k + i) × P i → P j
    out (i, d, s) = let z : i ≡ j = omega arith in rw z at s

up_out : (F : ℕ → Type 0) (k p q : ℕ) → q ≡ k + p → UpF k F q → F p
up_out F k p q e (UpF.up j d f) = let z : j ≡ p = omega arith in rw z at f

pub final_at : (f base : ℕ) (r : Rule) → FinalsAt f base r → (P p : ℕ) → P ≡ base + p → P < table_states → T (bit f P) ↔ (auto r).final p
final_at f base r h P p e l = (λ t. up_out (auto r).final base p P e ((h.ends P l).0 t), λ t. (h.ends P l).1 (UpF.up p e t))

-- a place outside both blocks
pub blank : (t t₂ : List ℕ) (base c : ℕ) (a b : Rule) → Clean t base → Beside t t₂ c a b → (p q : ℕ) → base ≤ p → p < table_states → base ≤ q → q < table_states
    → (In c (c + weight_of a) c (c + weight_of a) p q → ⊥)
    → (In (c + weight_of a) (c + weight_of a + weight_of b) (c + weight_of a) (c + weight_of a + weight_of b) p q → ⊥) → cell t₂ p q ≡ 0
blank t t₂ base c a b clean s p q hp lp hq lq u v = s.others p q lq u v ∙ clean.none p q hp lp hq lq

-- the same place, said otherwise
pub built_at : (t t' : List ℕ) (c c' : ℕ) (r : Rule) → c ≡ c' → Built t t' c r → Built t t' c' r
built_at t t' c c' r e b = rw e at b

-- one block after the other
module _ (t t₁ t₂ : List ℕ) (c : ℕ) (a b : Rule) (room : c + weight_of a ≤ table_states) (ba : Built t t₁ c a) (bb : Built t₁ t₂ (c + weight_of a) b) where
  a_stays : (p q x : ℕ) → p < weight_of a → q < weight_of a → x < letter_count → Has (cell t₂ (c + p) (c + q)) x ↔ (auto a).step p x q
  a_stays p q x hp hq hx =
      by_cell (cell t₂ (c + p) (c + q)) (cell t₁ (c + p) (c + q)) x (bb.others (c + p) (c + q) (omega arith) (λ i. omega arith)) (ba.block.label p q x hp hq hx)

  pub beside : Beside t t₂ c a b
  beside = record { a_block = record { label = a_stays }; b_block = bb.block; others = λ p q h u v. bb.others p q h v ∙ ba.others p q h u }

-- past a rule's square there is still no label
pub clean_on : (t t₁ : List ℕ) (base mid : ℕ) (r : Rule) → Clean t base → Built t t₁ base r → base + weight_of r ≤ mid → Clean t₁ mid
clean_on t t₁ base mid r c b l = record { none = λ p q h₁ h₂ h₃ h₄. b.others p q h₄ (λ i. omega arith) ∙ c.none p q (omega arith) h₂ (omega arith) h₄ }

-- a square over both blocks hides them
pub built_over : (t t₂ t₃ : List ℕ) (base c : ℕ) (a b r : Rule) → Beside t t₂ c a b → base ≤ c → c + (weight_of a + weight_of b) ≤ base + weight_of r → Built t₂ t₃ base r → Built t t₃ base r
built_over t t₂ t₃ base c a b r s l h k = record {
  block = k.block;
  others = λ p q m out. k.others p q m out ∙ s.others p q m (λ i. out (omega arith)) (λ i. out (omega arith));
}
