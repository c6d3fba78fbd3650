-- The finals and the shape of counted parts and of counted letters. Assumes nothing.
use Prim.Native.Nat.{ℕ, zero, suc, ◌+◌, ◌*◌, ◌-◌, ◌<◌, ◌≤◌}
use native.Mathlib.Omega.{arith}
use native.Mathlib.Nat.{suc-mul}
use mathlib.Core.Path.{◌≡◌, refl, subst, ◌∙◌}
use mathlib.Core.Logic.{◌⊎◌, inl, inr, ◌↔◌}
use lib.Dec.{T, ltb, ltb→lt, lt→ltb}
use Rattle.bits.specs.Word.{bit, insert, all}
use Rattle.bits.proofs.Laws.{bit_all}
use Rattle.definitions.specs.declared.kinds.Pair.TheVariants.{Then}
use Rattle.definitions.specs.declared.counts.Counts.{Counts}
use Rattle.definitions.specs.Definition1.{Rule, Formula, two, counted, occurs}
use Rattle.definitions.specs.Encoding.{CountsFit}
use Rattle.rules.specs.Weight.{weight_of, row_weight, weight_limit}
use Rattle.rules.proofs.Weighing.{weight_pos}
use Rattle.automata.specs.declared.shape.Shape.{Shape}
use Rattle.automata.specs.Table.{table_states}
use Rattle.automata.specs.Build.{auto, UpF, at_first, so_far, OccursFinal, enough}
use Rattle.automata.specs.inner.Block.{FinalsAt}
use Rattle.automata.specs.inner.Sets.{Raised, MaybeFirst}
use Rattle.automata.specs.inner.Shapes.{ShapeOf, MaybeShape}
use Rattle.automata.specs.inner.Shapes.{RowRoom}
use Rattle.automata.proofs.Labels.{Has}
use Rattle.automata.proofs.Places.{final_at}
use Rattle.automata.proofs.Ends.{has_insert}
use Rattle.automata.proofs.FinalSets.{empty_set}

-- ---- 0 too, where no part is needed

pub first_too : (i f r : ℕ) → i ≡ 0 → r ≡ insert f 0 → MaybeFirst i f r
first_too i f r z e = record { has = λ q. let h = has_insert f 0 q in rw e (λ t. out q (h.0 t), λ s. h.1 (back q s)) }
  where
    out : (q : ℕ) → Has f q ⊎ (q ≡ 0) → Has f q ⊎ ((q ≡ 0) × (i ≡ 0))
    out q (inl t) = inl t
    out q (inr d) = inr (d, z)

    back : (q : ℕ) → Has f q ⊎ ((q ≡ 0) × (i ≡ 0)) → Has f q ⊎ (q ≡ 0)
    back q (inl t) = inl t
    back q (inr d) = inr d.0

pub first_not : (i f : ℕ) → (i ≡ 0 → ⊥) → MaybeFirst i f f
first_not i f n = record { has = λ q. (inl, back q) }
  where
    back : (q : ℕ) → Has f q ⊎ ((q ≡ 0) × (i ≡ 0)) → Has f q
    back q (inl t) = t
    back q (inr d) = absurd (n d.1)

-- S has the finals of R, and 0 where no part is needed
maybe_finals : (i f g : ℕ) (R S : Rule) → ((q : ℕ) → (auto S).final q ↔ ((auto R).final q ⊎ ((q ≡ 0) × (i ≡ 0)))) → MaybeFirst i f g → FinalsAt f 0 R → FinalsAt g 0 S
maybe_finals i f g R S same m h = record { ends = λ q l. (λ t. UpF.up q (omega arith) ((same q).1 (out q l ((m.has q).0 t))), λ u. (m.has q).1 (back q l (UpF-out q u))) }
  where
    out : (q : ℕ) → q < table_states → Has f q ⊎ ((q ≡ 0) × (i ≡ 0)) → (auto R).final q ⊎ ((q ≡ 0) × (i ≡ 0))
    out q l (inl t) = inl ((final_at f 0 R h q q (omega arith) l).0 t)
    out q l (inr d) = inr d

    back : (q : ℕ) → q < table_states → (auto S).final q → Has f q ⊎ ((q ≡ 0) × (i ≡ 0))
    back q l s = go ((same q).0 s)
      where
        go : (auto R).final q ⊎ ((q ≡ 0) × (i ≡ 0)) → Has f q ⊎ ((q ≡ 0) × (i ≡ 0))
        go (inl t) = inl ((final_at f 0 R h q q (omega arith) l).1 t)
        go (inr d) = inr d

    UpF-out : (q : ℕ) → UpF 0 (auto S).final q → (auto S).final q
    UpF-out q (UpF.up j e s) = let z : j ≡ q = omega arith in rw z at s

-- ---- counted parts

pub none_set : (i : ℕ) (x : Rule) → i ≡ 0 → FinalsAt 1 0 (counted i 0 x)
unfolding auto
none_set i x z = record { ends = λ q l. let h = empty_set.ends q l in (λ t. out q (h.0 t), λ u. h.1 (back q u)) }
  where
    out : (q : ℕ) → UpF 0 (λ j. j ≡ 0) q → UpF 0 (λ j. (j ≡ 0) × (i ≡ 0)) q
    out q (UpF.up j e s) = UpF.up j e (s, z)

    back : (q : ℕ) → UpF 0 (λ j. (j ≡ 0) × (i ≡ 0)) q → UpF 0 (λ j. j ≡ 0) q
    back q (UpF.up j e s) = UpF.up j e s.0

one_final : (i : ℕ) (x : Rule) → i ≤ 1 → (q : ℕ) → (auto (counted i 1 x)).final q ↔ ((auto x).final q ⊎ ((q ≡ 0) × (i ≡ 0)))
unfolding auto
one_final i x l q = (out, back)
  where
    out : ((auto x).final q × (i ≤ 1)) ⊎ ((q ≡ 0) × (i ≡ 0)) → (auto x).final q ⊎ ((q ≡ 0) × (i ≡ 0))
    out (inl f) = inl f.0
    out (inr d) = inr d

    back : (auto x).final q ⊎ ((q ≡ 0) × (i ≡ 0)) → ((auto x).final q × (i ≤ 1)) ⊎ ((q ≡ 0) × (i ≡ 0))
    back (inl f) = inl (f, l)
    back (inr d) = inr d

more_final : (i k : ℕ) (x : Rule) (q : ℕ) → (auto (counted i (suc (suc k)) x)).final q ↔ ((auto (two Then x (counted (i - 1) (suc k) x))).final q ⊎ ((q ≡ 0) × (i ≡ 0)))
unfolding auto
more_final i k x q = (λ f. f, λ f. f)

-- of one part, and of one more in front
pub one_shape : (i j : ℕ) (a r : Shape) (x : Rule) (e : ℕ) → j ≡ 1 → i ≤ j → MaybeShape i a r → ShapeOf x e a → ShapeOf (counted i j x) e r
one_shape i j a r x e d l m u = rw d (record {
  ends = m.ends ∙ u.ends;
  weighs = omega (arith, m.weighs, u.weighs);
  final_set = maybe_finals i a.finals r.finals x (counted i 1 x) (one_final i x (omega arith)) m.final_set u.final_set;
})

pub more_weight : (k m : ℕ) → m + row_weight (suc k) m ≡ row_weight (suc (suc k)) m
more_weight k m = omega (arith, suc-mul (suc k) m)

pub more_shape : (i j k : ℕ) (a r : Shape) (x : Rule) (e : ℕ) → j ≡ suc k → 1 ≤ k → MaybeShape i a r → ShapeOf (two Then x (counted (i - 1) k x)) e a → ShapeOf (counted i j x) e r
more_shape i j zero a r x e d l m u = absurd (omega arith)
more_shape i j (suc k) a r x e d l m u = rw d (record {
  ends = m.ends ∙ u.ends;
  weighs = m.weighs ∙ u.weighs ∙ more_weight k (weight_of x);
  final_set = maybe_finals i a.finals r.finals (two Then x (counted (i - 1) (suc k) x)) (counted i (suc (suc k)) x) (more_final i k x) m.final_set u.final_set;
})

-- ---- the room for them

pub row_more : (j m : ℕ) → 1 ≤ j → j * m ≡ m + (j - 1) * m
row_more zero m h = absurd (omega arith)
row_more (suc j) m h = let e : suc j - 1 ≡ j = omega arith in rw e (omega (arith, suc-mul j m))

pub room_after : (a : Shape) (c d : Counts) (base : ℕ) → RowRoom a c base → 1 < c.high → d.low ≡ c.low - 1 → d.high ≡ c.high - 1 → RowRoom a d (base + a.weight)
room_after a c d base r l e f = record {
  part = r.part;
  past = r.past;
  shaped = r.shaped;
  one = omega arith;
  rising = let u = r.rising in omega arith;
  square = let u = r.square in let v = row_more c.high a.weight (omega arith) in rw f (omega arith);
}

pub room_low : (a : Shape) (c : Counts) (base : ℕ) → RowRoom a c base → RowRoom a c 0
room_low a c base r = record { part = r.part; past = r.past; shaped = r.shaped; one = r.one; rising = r.rising; square = let u = r.square in omega arith }

row_weight_lem : (j m : ℕ) → 1 ≤ j → row_weight j m ≡ j * m
row_weight_lem zero m h = absurd (omega arith)
row_weight_lem (suc j) m h = refl

-- one part has room
pub row_fits : (a : Shape) (c : Counts) (base : ℕ) → RowRoom a c base → (0 < a.weight) × (base + a.weight ≤ weight_limit)
row_fits a c base room =
    let w = room.shaped.weighs in
    let p = weight_pos room.part in
    let u = room.square in
    let o = room.one in
    let m = row_more c.high a.weight o in
    (omega arith, omega arith)

-- the first part and those after it fit side by side
pub room_both : (a r : Shape) (c d : Counts) (base : ℕ) (room : RowRoom a c base) → 1 < c.high → d.high ≡ c.high - 1
    → ((x : Rule) (e : ℕ) → ShapeOf x e a → ShapeOf (counted d.low d.high x) e r) → (0 < a.weight) × (0 < r.weight) × (base + (a.weight + r.weight) ≤ weight_limit)
room_both a r c d base room l e shape =
    let s = room.shaped in
    let w = s.weighs in
    let p = weight_pos room.part in
    let v = (shape room.part room.past s).weighs in
    let u = room.square in
    let n = row_weight_lem d.high (weight_of room.part) (omega arith) in
    let q = weight_pos (counted d.low d.high room.part) in
    let m : c.high * a.weight ≡ a.weight + d.high * weight_of room.part = row_more c.high a.weight (omega arith) ∙ rw (e, w) in
    (omega arith, omega arith, omega arith)

-- ---- counted letters

-- from i to j, and the first state where i is 0
module _ (i j set : ℕ) (l : i ≤ j) (raised : Raised (all (j - i + 1)) (i + 1) set) where
  count_in : (q : ℕ) → q < table_states → Has set q ↔ ((i < q) × (q ≤ j + 1))
  count_in q h = (λ t. out ((raised.moved q h).0 t), λ u. (raised.moved q h).1 (back u))
    where
      out : UpF (i + 1) (λ k. T (bit (all (j - i + 1)) k)) q → (i < q) × (q ≤ j + 1)
      out (UpF.up k e t) = let b : T (ltb k (j - i + 1)) = rw (bit_all (j - i + 1) k) at t in let d = ltb→lt k (j - i + 1) b in omega arith

      back : (i < q) × (q ≤ j + 1) → UpF (i + 1) (λ k. T (bit (all (j - i + 1)) k)) q
      back u = UpF.up (q - (i + 1)) (omega arith) (rw (bit_all (j - i + 1) (q - (i + 1))) (lt→ltb (q - (i + 1)) (j - i + 1) (omega arith)))

  pub occurs_finals : (g : ℕ) (f : Formula) → j + 2 ≤ table_states → MaybeFirst i set g → FinalsAt g 0 (occurs i j f)
  unfolding auto
  occurs_finals g f room m = record { ends = λ q h. (λ t. UpF.up q (omega arith) (out q h ((m.has q).0 t)), λ u. (m.has q).1 (back q u)) }
    where
      out : (q : ℕ) → q < table_states → Has set q ⊎ ((q ≡ 0) × (i ≡ 0)) → OccursFinal i j q
      out q h (inl t) = let d = (count_in q h).0 t in enough (q - 1) (so_far (omega arith)) (omega arith) (omega arith)
      out q h (inr d) = enough 0 (at_first d.0 refl) (omega arith) (omega arith)

      back : (q : ℕ) → UpF 0 (OccursFinal i j) q → Has set q ⊎ ((q ≡ 0) × (i ≡ 0))
      back q (UpF.up p e (enough c (at_first z w) a b)) = inr (omega arith)
      back q (UpF.up p e (enough c (so_far z) a b)) = inl ((count_in q (omega arith)).1 (omega arith))

pub occurs_shaped : (i j end set g : ℕ) (r : Shape) → CountsFit i j → g ≡ all (j - i + 1) → Raised g (i + 1) set
    → MaybeShape i (record { end = end; weight = j + 2; finals = set }) r → (f : Formula) → ShapeOf (occurs i j f) end r
occurs_shaped i j end set g r fit e raised m f =
    let s = fit.small in record {
      ends = m.ends;
      weighs = m.weighs;
      final_set = occurs_finals i j set fit.rising (subst (λ (b : ℕ). Raised b (i + 1) set) e raised) r.finals f (omega arith) m.final_set;
    }
