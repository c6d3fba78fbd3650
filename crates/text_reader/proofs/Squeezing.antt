-- A rule's bytes are what its wide form says without the fillers, and taking them out one after another. Assumes nothing.
use Prim.Native.Nat.{ℕ, suc, ◌+◌, ◌≤◌, ◌<◌}
use native.Mathlib.Omega.{arith}
use native.Mathlib.Numerals.{add-one}
use mathlib.Core.Path.{◌≡◌, refl, sym, ap, ap₂, subst, ◌∙◌}
use mathlib.Core.Bool.{Bool, true, false, cond}
use mathlib.Core.List.{List, [], ◌∷◌, ◌++◌, append-nil}
use lib.Dec.{eqb}
use lib.ListN.{length, get_or, take, drop, set, length-set}
use lib.Seq.{take-suc, take-suc-set, drop-cons, drop-set-lt}
use borrow.Author.Tests.{eq-eqb, ne_eqb}
use Rattle.definitions.specs.declared.kinds.Junction.{Junction}
use Rattle.definitions.specs.declared.kinds.Junction.TheVariants.{And, Or}
use Rattle.definitions.specs.declared.kinds.Pair.{Pair}
use Rattle.definitions.specs.declared.kinds.Pair.TheVariants.{Then, Overlap, Either, Within, Both}
use Rattle.definitions.specs.declared.kinds.Repeat.{Repeat}
use Rattle.definitions.specs.declared.kinds.Repeat.TheVariants.{Star, Plus}
use Rattle.definitions.specs.Definition1.{Formula, prop, yea, nay, neg, join, Rule, letter, empty, two, again, counted, occurs}
use Rattle.definitions.specs.Encoding.{junction_byte, pair_byte, repeat_byte, CountsFit, SmallF, Small, spell_f, spell}
use Rattle.grammar.specs.inner.Wide.{filler, plain_head, wide, squeezed}

squeezed_both : (s t : List ℕ) → squeezed (s ++ t) ≡ squeezed s ++ squeezed t
squeezed_both [] t = refl
squeezed_both (x ∷ s) t = go (eqb x filler) (squeezed_both s t)
  where
    go : (b : Bool) → squeezed (s ++ t) ≡ squeezed s ++ squeezed t → cond b (squeezed (s ++ t)) (x ∷ squeezed (s ++ t)) ≡ cond b (squeezed s) (x ∷ squeezed s) ++ squeezed t
    go true i = i
    go false i = ap (λ (u : List ℕ). x ∷ u) i

-- a byte that is no filler stays
stays : (x : ℕ) (s t : List ℕ) → x < filler → squeezed s ≡ t → squeezed (x ∷ s) ≡ x ∷ t
stays x s t h q = ap₂ (λ (b : Bool) (u : List ℕ). cond b u (x ∷ u)) (ne_eqb x filler (λ e. omega arith)) q

junction_small : (j : Junction) → junction_byte j < filler
junction_small And = omega arith
junction_small Or = omega arith

pair_small : (p : Pair) → pair_byte p < filler
pair_small Then = omega arith
pair_small Overlap = omega arith
pair_small Either = omega arith
pair_small Within = omega arith
pair_small Both = omega arith

repeat_small : (p : Repeat) → repeat_byte p < filler
repeat_small Star = omega arith
repeat_small Plus = omega arith

both_kept : (a b s t : List ℕ) → squeezed a ≡ s → squeezed b ≡ t → squeezed (a ++ b) ≡ s ++ t
both_kept a b s t p q = squeezed_both a b ∙ ap₂ (λ (u v : List ℕ). u ++ v) p q

formula_kept : (f : Formula) → SmallF f → squeezed (spell_f f) ≡ spell_f f
formula_kept (prop i) h = ap (λ (u : List ℕ). 1 ∷ u) (stays i [] [] (omega arith) refl)
formula_kept yea h = refl
formula_kept nay h = refl
formula_kept (neg f) h = ap (λ (u : List ℕ). 4 ∷ u) (formula_kept f h)
formula_kept (join j f g) (h, h') = stays (junction_byte j) (spell_f f ++ spell_f g) (spell_f f ++ spell_f g) (junction_small j) (both_kept (spell_f f) (spell_f g) (spell_f f) (spell_f g) (formula_kept f h) (formula_kept g h'))

counts_kept : (k i j : ℕ) (s t : List ℕ) → k < filler → CountsFit i j → squeezed s ≡ t → squeezed (k ∷ i ∷ j ∷ s) ≡ k ∷ i ∷ j ∷ t
counts_kept k i j s t h c q = let r = c.rising in let l = c.small in stays k (i ∷ j ∷ s) (i ∷ j ∷ t) h (stays i (j ∷ s) (j ∷ t) (omega arith) (stays j s t (omega arith) q))

plain_kept : (k : ℕ) (s t : List ℕ) → k < filler → squeezed s ≡ t → squeezed (plain_head k ++ s) ≡ k ∷ t
plain_kept k s t h q = stays k (filler ∷ filler ∷ s) t h q

pub squeezed_wide : (r : Rule) → Small r → squeezed (wide r) ≡ spell r
squeezed_wide (letter f) h = plain_kept 0x10 (spell_f f) (spell_f f) (omega arith) (formula_kept f h)
squeezed_wide empty h = refl
squeezed_wide (two p a b) (h, h') = plain_kept (pair_byte p) (wide a ++ wide b) (spell a ++ spell b) (pair_small p) (both_kept (wide a) (wide b) (spell a) (spell b) (squeezed_wide a h) (squeezed_wide b h'))
squeezed_wide (again p a) h = plain_kept (repeat_byte p) (wide a) (spell a) (repeat_small p) (squeezed_wide a h)
squeezed_wide (counted i j a) (c, h) = counts_kept 0x19 i j (wide a) (spell a) (omega arith) c (squeezed_wide a h)
squeezed_wide (occurs i j f) (c, h) = counts_kept 0x1A i j (spell_f f) (spell_f f) (omega arith) c (formula_kept f h)

-- one byte after another: the first `to` bytes of m are those of the first i of s without the fillers, and from i on m is s
pub record Squeezed (s m : List ℕ) (i to : ℕ) : Type 0 where
  pub behind : to ≤ i
  pub inside : i ≤ length s
  pub size : length m ≡ length s
  pub done : take to m ≡ squeezed (take i s)
  pub left : drop i m ≡ drop i s

pub nothing_yet : (s : List ℕ) → Squeezed s s 0 0
nothing_yet s = record { behind = omega arith; inside = omega arith; size = refl; done = refl; left = refl }

module _ (s m : List ℕ) (i to : ℕ) (x : Squeezed s m i to) (h : i < length s) where
  same_byte : get_or m i 0 ≡ get_or s i 0
  same_byte =
      let l : i < length m = let n = x.size in omega arith in
      let q : get_or m i 0 ∷ drop (suc i) m ≡ get_or s i 0 ∷ drop (suc i) s = sym (drop-cons m i 0 l) ∙ x.left ∙ drop-cons s i 0 h in
      cc

  same_rest : drop (suc i) m ≡ drop (suc i) s
  same_rest =
      let l : i < length m = let n = x.size in omega arith in
      let q : get_or m i 0 ∷ drop (suc i) m ≡ get_or s i 0 ∷ drop (suc i) s = sym (drop-cons m i 0 l) ∙ x.left ∙ drop-cons s i 0 h in
      cc

  one_more : squeezed (take (i + 1) s) ≡ squeezed (take i s) ++ squeezed (get_or m i 0 ∷ [])
  one_more = ap (λ (n : ℕ). squeezed (take n s)) (add-one i) ∙ ap squeezed (take-suc s i 0 h) ∙ squeezed_both (take i s) (get_or s i 0 ∷ []) ∙ ap (λ (b : ℕ). squeezed (take i s) ++ squeezed (b ∷ [])) (sym same_byte)

  filler_out : get_or m i 0 ≡ filler → Squeezed s m (i + 1) to
  filler_out e = record {
    behind = let l = x.behind in omega arith;
    inside = omega arith;
    size = x.size;
    done = x.done ∙ sym (append-nil (squeezed (take i s))) ∙ ap (λ (b : Bool). squeezed (take i s) ++ cond b [] (get_or m i 0 ∷ [])) (sym (eq-eqb (get_or m i 0) filler e)) ∙ sym one_more;
    left = ap (λ (n : ℕ). drop n m) (add-one i) ∙ same_rest ∙ ap (λ (n : ℕ). drop n s) (sym (add-one i));
  }

  byte_kept : (get_or m i 0 ≡ filler → ⊥) → Squeezed s (set m to (get_or m i 0)) (i + 1) (to + 1)
  byte_kept e = record {
    behind = let l = x.behind in omega arith;
    inside = omega arith;
    size = length-set m to (get_or m i 0) ∙ x.size;
    done =
        ap (λ (n : ℕ). take n (set m to (get_or m i 0))) (add-one to)
        ∙ take-suc-set m to (get_or m i 0) (let l = x.behind in let n = x.size in omega arith)
        ∙ ap (λ (t : List ℕ). t ++ (get_or m i 0 ∷ [])) x.done
        ∙ ap (λ (b : Bool). squeezed (take i s) ++ cond b [] (get_or m i 0 ∷ [])) (sym (ne_eqb (get_or m i 0) filler e))
        ∙ sym one_more;
    left =
        ap (λ (n : ℕ). drop n (set m to (get_or m i 0))) (add-one i)
        ∙ drop-set-lt (suc i) m to (get_or m i 0) (let l = x.behind in omega arith)
        ∙ same_rest
        ∙ ap (λ (n : ℕ). drop n s) (sym (add-one i));
  }

-- as the loop has it
module _ (s m : List ℕ) (i to : ℕ) (x : Squeezed s m i to) (h : i < length s) (m' : List ℕ) (to' : ℕ) where
  pub squeeze_out : get_or m i 0 ≡ filler → m' ≡ m → to' ≡ to → Squeezed s m' (i + 1) to'
  squeeze_out e p q = subst (λ (n : ℕ). Squeezed s m' (i + 1) n) (sym q) (subst (λ (l : List ℕ). Squeezed s l (i + 1) to) (sym p) (filler_out s m i to x h e))

  pub squeeze_keep : (get_or m i 0 ≡ filler → ⊥) → m' ≡ set m to (get_or m i 0) → to' ≡ to + 1 → Squeezed s m' (i + 1) to'
  squeeze_keep e p q = subst (λ (n : ℕ). Squeezed s m' (i + 1) n) (sym q) (subst (λ (l : List ℕ). Squeezed s l (i + 1) (to + 1)) (sym p) (byte_kept s m i to x h e))

pub squeeze_done : (s m : List ℕ) (i to : ℕ) → Squeezed s m i to → (long : ℕ) → long ≤ i → i ≤ long → (take to m ≡ squeezed (take long s)) × (to ≤ length m)
squeeze_done s m i to x long l u = let e : i ≡ long = omega arith in let b = x.behind in let z = x.size in let n = x.inside in (x.done ∙ ap (λ (n : ℕ). squeezed (take n s)) e, omega arith)
