-- Weights: each is at least 1, and counting up to one above the limit loses nothing that the limit asks. Assumes nothing.
use Prim.Native.Nat.{ℕ, zero, suc, ◌+◌, ◌*◌, ◌≤◌, min}
use native.Mathlib.Omega.{arith}
use native.Mathlib.Nat.{mul-le-mul}
use native.Mathlib.Decide.{dec_le}
use mathlib.Core.Logic.{◌⊎◌, inl, inr, ⊎_elim}
use mathlib.Core.Path.{◌≡◌, sym, ap, ◌∙◌}
use mathlib.Core.List.{List}
use lib.Bits.{bit_or}
use lib.ListN.{get_or}
use Rattle.definitions.specs.declared.kinds.Pair.{Pair}
use Rattle.definitions.specs.declared.kinds.Pair.TheVariants.{Then, Overlap, Either, Within, Both}
use Rattle.definitions.specs.declared.kinds.Repeat.{Repeat}
use Rattle.definitions.specs.declared.kinds.RuleKind.TheVariants.{Letter, Empty, Two, Again, Counted, Occurs}
use Rattle.definitions.specs.declared.kinds.Kind.TheVariants.{OfRule}
use Rattle.definitions.specs.declared.counts.Counts.{Counts}
use Rattle.rules.specs.declared.names.Names.{Names}
use Rattle.rules.specs.declared.weights.Weighed.{Weighed}
use Rattle.definitions.specs.Definition1.{Rule, letter, empty, two, again, counted, occurs}
use Rattle.definitions.specs.Kinds.{kind_of}
use Rattle.rules.specs.Weight.{pair_weight, row_weight, weight_of, counted_to}
use Rattle.rules.specs.Named.{uses_of}
use Rattle.rules.specs.Walks.{NamesAs, WeighedAs}
use Rattle.definitions.specs.Encoding.{CountsAs}
use Rattle.rules.proofs.PlacesOnce.{rule_of_lem}
use Rattle.rules.proofs.Naming.{letter_uses, empty_uses, two_uses, again_uses, counted_uses, occurs_uses}

pub weight_pos : (r : Rule) → 1 ≤ weight_of r
weight_pos (letter f) = omega arith
weight_pos empty = omega arith
weight_pos (again p a) = weight_pos a
weight_pos (two p a b) = at_least p (weight_of a) (weight_of b) (weight_pos a) (weight_pos b)
  where
    at_least : (p : Pair) (m n : ℕ) → 1 ≤ m → 1 ≤ n → 1 ≤ pair_weight p m n
    at_least Then m n h k = omega arith
    at_least Overlap m n h k = omega arith
    at_least Either m n h k = omega arith
    at_least Within m n h k = omega arith
    at_least Both m n h k = mul-le-mul h k
weight_pos (counted i j a) = in_row j (weight_of a) (weight_pos a)
  where
    in_row : (j m : ℕ) → 1 ≤ m → 1 ≤ row_weight j m
    in_row zero m h = omega arith
    in_row (suc j) m h = mul-le-mul {n₁ = 1} {m₁ = 1} (omega arith) h
weight_pos (occurs i j f) = omega arith

product : (m n : ℕ) → 1 ≤ m → 1 ≤ n → (min counted_to m * min counted_to n ≡ m * n) ⊎ ((65 ≤ min counted_to m * min counted_to n) × (65 ≤ m * n))
product m n h k = go (dec_le m 65) (dec_le n 65)
  where
    go : Dec (m ≤ 65) → Dec (n ≤ 65) → (min counted_to m * min counted_to n ≡ m * n) ⊎ ((65 ≤ min counted_to m * min counted_to n) × (65 ≤ m * n))
    go (yes a) (yes b) = inl (let e : min counted_to m ≡ m = omega arith in let e' : min counted_to n ≡ n = omega arith in cc)
    go (no a) d = inr (mul-le-mul {n₁ = 65} {m₁ = 1} (omega arith) (omega arith), mul-le-mul {n₁ = 65} {m₁ = 1} (omega arith) k)
    go (yes a) (no b) = inr (mul-le-mul {n₁ = 1} {m₁ = 65} (omega arith) (omega arith), mul-le-mul {n₁ = 1} {m₁ = 65} h (omega arith))

capped_pair : (p : Pair) (m n : ℕ) → 1 ≤ m → 1 ≤ n → min counted_to (pair_weight p (min counted_to m) (min counted_to n)) ≡ min counted_to (pair_weight p m n)
capped_pair Then m n h k = omega arith
capped_pair Overlap m n h k = omega arith
capped_pair Either m n h k = omega arith
capped_pair Within m n h k = ⊎_elim (λ e. omega arith) (λ w. omega arith) (product m n h k)
capped_pair Both m n h k = ⊎_elim (λ e. omega arith) (λ w. omega arith) (product m n h k)

capped_row : (j m : ℕ) → 1 ≤ m → min counted_to (row_weight j (min counted_to m)) ≡ min counted_to (row_weight j m)
capped_row zero m h = omega arith
capped_row (suc j) m h = go (dec_le m 65)
  where
    go : Dec (m ≤ 65) → min counted_to (suc j * min counted_to m) ≡ min counted_to (suc j * m)
    go (yes a) = let e : min counted_to m ≡ m = omega arith in rw e
    go (no a) =
        let x : 65 ≤ suc j * min counted_to m = mul-le-mul {n₁ = 1} {m₁ = 65} (omega arith) (omega arith) in
        let y : 65 ≤ suc j * m = mul-le-mul {n₁ = 1} {m₁ = 65} (omega arith) (omega arith) in
        omega arith

two_weight : (p : Pair) (a b : Rule) (x y : ℕ) → x ≡ min counted_to (weight_of a) → y ≡ min counted_to (weight_of b) → min counted_to (pair_weight p x y) ≡ min counted_to (weight_of (two p a b))
two_weight p a b x y q q' = rw (q, q') (capped_pair p (weight_of a) (weight_of b) (weight_pos a) (weight_pos b))

pub capped_small : (x y : ℕ) → x ≡ min counted_to y → x ≤ 65
capped_small x y q = omega arith

module _ (s : List ℕ) (at : ℕ) where
  pub w_letter : kind_of (get_or s at 0) ≡ OfRule Letter → (n : Names) → NamesAs s (at + 1) n → WeighedAs s at (record { weight = 2; uses = n.uses; end = n.end })
  w_letter q n h r e d =
      let i = rule_of_lem s (OfRule Letter) d q in
      let o = h i.0 e i.2 in
      (rw i.1, o.0 ∙ letter_uses i.0 ∙ ap uses_of (sym i.1), o.1)

  pub w_empty : kind_of (get_or s at 0) ≡ OfRule Empty → WeighedAs s at (record { weight = 1; uses = 0; end = at + 1 })
  w_empty q r e d = let i = rule_of_lem s (OfRule Empty) d q in (rw i.0, empty_uses ∙ ap uses_of (sym i.0), i.1)

  pub w_again : (p : Repeat) → kind_of (get_or s at 0) ≡ OfRule (Again p) → (w : Weighed) → WeighedAs s (at + 1) w → WeighedAs s at w
  w_again p q w ih r e d =
      let i = rule_of_lem s (OfRule (Again p)) d q in
      let o = ih i.0 e i.2 in
      (rw i.1 o.0, o.1 ∙ again_uses p i.0 ∙ ap uses_of (sym i.1), o.2)

  pub w_counted : kind_of (get_or s at 0) ≡ OfRule Counted → (c : Counts) → CountsAs s at c → (a : Weighed) → WeighedAs s (at + 3) a → (w : ℕ) → w ≡ min counted_to (row_weight c.high a.weight)
      → WeighedAs s at (record { weight = w; uses = a.uses; end = a.end })
  w_counted q c h a ih w v r e d =
      let i = rule_of_lem s (OfRule Counted) d q in
      let o = ih i.0 e i.3 in (
        v ∙ rw (h.high, o.0) (capped_row (get_or s (at + 2) 0) (weight_of i.0) (weight_pos i.0)) ∙ ap (λ (x : Rule). min counted_to (weight_of x)) (sym i.1),
        o.1 ∙ counted_uses (get_or s (at + 1) 0) (get_or s (at + 2) 0) i.0 ∙ ap uses_of (sym i.1),
        o.2,
      )

  pub w_occurs : kind_of (get_or s at 0) ≡ OfRule Occurs → (c : Counts) → CountsAs s at c → (n : Names) → NamesAs s (at + 3) n
      → WeighedAs s at (record { weight = c.high + 2; uses = n.uses; end = n.end })
  w_occurs q c h n g r e d =
      let i = rule_of_lem s (OfRule Occurs) d q in
      let o = g i.0 e i.3 in
      let l = i.2.fit.small in
      let b : c.high + 2 ≡ min counted_to (get_or s (at + 2) 0 + 2) = omega (arith, h.high) in (
        b ∙ ap (λ (x : Rule). min counted_to (weight_of x)) (sym i.1),
        o.0 ∙ occurs_uses (get_or s (at + 1) 0) (get_or s (at + 2) 0) i.0 ∙ ap uses_of (sym i.1),
        o.1,
      )

  pub w_two : (p : Pair) → kind_of (get_or s at 0) ≡ OfRule (Two p) → (a b : Weighed) → WeighedAs s (at + 1) a → WeighedAs s a.end b → (w : ℕ) → w ≡ min counted_to (pair_weight p a.weight b.weight)
      → WeighedAs s at (record { weight = w; uses = bit_or a.uses b.uses; end = b.end })
  w_two p q a b ih ih' w h r e d =
      let i = rule_of_lem s (OfRule (Two p)) d q in
      let o = ih i.0 i.2 i.4 in
      let o' = ih' i.1 e (rw o.2 i.5) in (
        h ∙ two_weight p i.0 i.1 a.weight b.weight o.0 o'.0 ∙ ap (λ (x : Rule). min counted_to (weight_of x)) (sym i.3),
        two_uses p i.0 i.1 a.uses b.uses o.1 o'.1 ∙ ap uses_of (sym i.3),
        o'.2,
      )
