-- `[*i..j]`: the labels of one part, and of one more in front of those behind it. Assumes nothing.
use Prim.Native.Nat.{ℕ, zero, suc, ◌+◌, ◌-◌, ◌<◌, ◌≤◌}
use native.Mathlib.Omega.{arith}
use mathlib.Core.Path.{◌≡◌, refl}
use mathlib.Core.Logic.{◌↔◌}
use mathlib.Core.List.{List}
use Rattle.definitions.specs.declared.kinds.Pair.TheVariants.{Then}
use Rattle.definitions.specs.declared.counts.Counts.{Counts}
use Rattle.definitions.specs.Definition1.{Rule, two, counted}
use Rattle.rules.specs.Weight.{weight_of}
use Rattle.automata.specs.declared.shape.Shape.{Shape}
use Rattle.automata.specs.Table.{table_states, cell}
use Rattle.automata.specs.Build.{auto}
use Rattle.automata.specs.inner.Cells.{In, Put, Clean, moved}
use Rattle.automata.specs.inner.Block.{Built}
use Rattle.automata.specs.inner.Shapes.{ShapeOf}
use Rattle.blocks.specs.inner.Building.{RowOf, Joins}
use Rattle.automata.specs.inner.Shapes.{RowRoom}
use Rattle.automata.proofs.Places.{by_none, beside, clean_on, built_at}
use Rattle.blocks.proofs.Pairing.{moved_block}
use Rattle.automata.proofs.RowEnds.{more_weight, row_more}

-- no part has no label
pub none_built : (t : List ℕ) (base i j : ℕ) (x : Rule) → j ≡ 0 → Clean t base → base + 1 ≤ table_states → Built t t base (counted i j x)
unfolding auto
none_built t base i j x e clean room = rw e (record {
  block = record { label = λ p q x hp hq hx. by_none (cell t (base + p) (base + q)) x (clean.none (base + p) (base + q) (omega arith) (omega arith) (omega arith) (omega arith)) (λ s. s) };
  others = λ p q h out. refl;
})

-- a block serves another rule that has as many states and the same steps
relabelled : (t₀ t : List ℕ) (base : ℕ) (R S : Rule) → weight_of R ≡ weight_of S → ((p q x : ℕ) → (auto R).step p x q ↔ (auto S).step p x q) → Built t₀ t base R → Built t₀ t base S
relabelled t₀ t base R S e same b = record {
  block = record { label = λ p q x hp hq hx. let h = b.block.label p q x (omega arith) (omega arith) hx in let z = same p q x in (λ k. z.0 (h.0 k), λ k. h.1 (z.1 k)) };
  others = λ p q h out. b.others p q h (λ i. out (omega arith));
}

one_steps : (i : ℕ) (x : Rule) (p q y : ℕ) → (auto x).step p y q ↔ (auto (counted i 1 x)).step p y q
unfolding auto
one_steps i x p q y = (λ s. s, λ s. s)

more_steps : (i k : ℕ) (x : Rule) (p q y : ℕ) → (auto (two Then x (counted (i - 1) (suc k) x))).step p y q ↔ (auto (counted i (suc (suc k)) x)).step p y q
unfolding auto
more_steps i k x p q y = (λ s. s, λ s. s)

one_built : (t₀ t : List ℕ) (base i j : ℕ) (x : Rule) → j ≡ 1 → Built t₀ t base x → Built t₀ t base (counted i j x)
one_built t₀ t base i j x e b = rw e (relabelled t₀ t base x (counted i 1 x) (omega arith) (one_steps i x) b)

more_built : (t₀ t : List ℕ) (base i j k : ℕ) (x : Rule) → j ≡ suc k → 1 ≤ k → Built t₀ t base (two Then x (counted (i - 1) k x)) → Built t₀ t base (counted i j x)
more_built t₀ t base i j zero x e l b = absurd (omega arith)
more_built t₀ t base i j (suc k) x e l b = rw e (relabelled t₀ t base (two Then x (counted (i - 1) (suc k) x)) (counted i (suc (suc k)) x) (more_weight k (weight_of x)) (more_steps i k x) b)

-- what is copied behind the block leaves the block as it was
pub doubled_same : (t t₁ : List ℕ) (from n i p q : ℕ) → from + n + n ≤ table_states → Put t t₁ (from + n) (from + n + i) (from + n) (from + n + n) (moved t from (from + n))
    → In (from + n) (from + n + n) (from + n) (from + n + n) p q → moved t₁ from (from + n) p q ≡ moved t from (from + n) p q
unfolding moved
doubled_same t t₁ from n i p q room put h = put.old (from + (p - (from + n))) (from + (q - (from + n))) (omega arith) (λ k. omega arith)

-- the block stands once more behind itself
doubled : (t t₁ : List ℕ) (base n : ℕ) (x : Rule) → n ≡ weight_of x → Built t t base x → Put t t₁ (base + n) (base + n + n) (base + n) (base + n + n) (moved t base (base + n)) → Built t t₁ (base + n) x
doubled t t₁ base n x e b put = record {
  block = moved_block t t t₁ base (base + n) n 0 base (base + n) x put (omega arith) (omega arith) (omega arith) b.block;
  others = λ p q h out. put.old p q h (λ i. out (omega arith));
}

module _ (a : Shape) (c : Counts) (base : ℕ) (room : RowRoom a c base) where
  -- one part is all
  pub row_one : (t : List ℕ) → c.high ≤ 1 → RowOf a c t t base
  row_one t l = record { rowed = λ t₀ x e clean u b. one_built t₀ t base c.low c.high x (let h = room.one in omega arith) b }

  -- the others stand behind the first, and are linked to it
  pub row_joined : (d : Counts) (r : Shape) (t t₁ t₂ t₃ : List ℕ) → 1 < c.high → d.low ≡ c.low - 1 → d.high ≡ c.high - 1
      → Put t t₁ (base + a.weight) (base + a.weight + a.weight) (base + a.weight) (base + a.weight + a.weight) (moved t base (base + a.weight))
      → RowOf a d t₁ t₂ (base + a.weight) → ((x : Rule) (e : ℕ) → ShapeOf x e a → ShapeOf (counted d.low d.high x) e r) → Joins Then a r t₂ t₃ base → RowOf a c t t₃ base
  row_joined d r t t₁ t₂ t₃ l el eh put rest shape join = record {
    rowed = λ t₀ x e clean u b.
        let w = u.weighs in
        let s = room.square in
        let m = row_more c.high a.weight (omega arith) in
        let b₁ = doubled t t₁ base a.weight x w (record { block = b.block; others = λ p q h out. refl }) put in
        let b₂ = rest.rowed t x e (clean_on t₀ t base (base + a.weight) x clean b (omega arith)) u b₁ in
        let k = beside t₀ t t₂ base x (counted d.low d.high x) (omega arith) b (built_at t t₂ (base + a.weight) (base + weight_of x) (counted d.low d.high x) (omega arith) b₂) in
        let j = join.joined t₀ x (counted d.low d.high x) e e clean u (shape x e u) k in
        more_built t₀ t₃ base c.low c.high d.high x (omega arith) (omega arith) (rw el at j);
  }
