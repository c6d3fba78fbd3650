-- Making the words of a row one after the other. Assumes nothing.
use Prim.Native.Nat.{ℕ, ◌+◌, ◌-◌, ◌<◌, ◌≤◌}
use native.Mathlib.Omega.{arith}
use native.Mathlib.Decide.{dec_lt}
use mathlib.Core.Path.{◌≡◌, refl, sym, ap, ap₂, subst, ◌∙◌}
use mathlib.Core.Logic.{◌≢◌}
use mathlib.Core.List.{List, ◌++◌}
use lib.ListN.{length, get_or, set, take, drop, length-set, length-append, get_or-append}
use Rattle.std.proofs.lemmas.List.{get_or-drop, get_or-take, get_or-append_right, length-take-le, length-drop}
use lib.Seq.{get_or-set_same, get_or-set_other}
use Rattle.formula_models.specs.inner.Rows.{model_states, Made, RowMade, RowPut}

pub made_none : (g : List ℕ) (base : ℕ) (made : ℕ → ℕ → ℕ → Type 0) → Made g g base 0 made
made_none g base made = record { size = refl; here = λ x h. absurd (omega arith); below = λ i h. refl; past = λ i h. refl }

-- one more
pub made_more : {b a : List ℕ} {base k : ℕ} {made : ℕ → ℕ → ℕ → Type 0} → Made b a base k made → base + k < length b → (w : ℕ) → made k (get_or a (base + k) 0) w → Made b (set a (base + k) w) base (k + 1) made
made_more {b} {a} {base} {k} {made} f h w e = record {
  size = length-set a (base + k) w ∙ f.size;
  here = λ x l. here x l (dec_lt x k);
  below = λ i l. let n : i ≢ base + k = omega arith in get_or-set_other a (base + k) i w 0 n ∙ f.below i l;
  past = λ i l. let n : i ≢ base + k = omega arith in get_or-set_other a (base + k) i w 0 n ∙ f.past i (omega arith);
}
  where
    here : (x : ℕ) → x < k + 1 → Dec (x < k) → made x (get_or b (base + x) 0) (get_or (set a (base + k) w) (base + x) 0)
    here x l (yes o) =
        let n : base + x ≢ base + k = omega arith in
        subst (made x (get_or b (base + x) 0)) (sym (get_or-set_other a (base + k) (base + x) w 0 n)) (f.here x o)
    here x l (no o) =
        let q : k ≡ x = omega arith in
        let i : base + k < length a = omega (arith, f.size) in
        let m : made k (get_or b (base + k) 0) w = subst (λ (y : ℕ). made k y w) (f.past (base + k) (omega arith)) e in
        subst (λ (x : ℕ). made x (get_or b (base + x) 0) (get_or (set a (base + k) w) (base + x) 0)) q
        (subst (made k (get_or b (base + k) 0)) (sym (get_or-set_same a (base + k) w 0 i)) m)

-- all
pub made_all : {b a : List ℕ} {base k : ℕ} {made : ℕ → ℕ → ℕ → Type 0} → Made b a base k made → k ≡ model_states → RowMade b a base made
made_all {b} {a} {base} {k} {made} f e = subst (λ (n : ℕ). Made b a base n made) e f

-- where what is made is v of the state
pub row_put : {b a : List ℕ} {base : ℕ} {made : ℕ → ℕ → ℕ → Type 0} {v : ℕ → ℕ} → RowMade b a base made → ((x y : ℕ) → x < model_states → made x (get_or b (base + x) 0) y → y ≡ v x) → RowPut b a base v
row_put f h = record { size = f.size; here = λ x l. h x _ l (f.here x l); below = f.below; past = f.past }

-- where a row is made with what stands behind it lent: the words of both rows
pub row_joined : {g r r' behind : List ℕ} {base : ℕ} {made : ℕ → ℕ → ℕ → Type 0} (j : ℕ → ℕ → ℕ) → r ≡ take (base + 64) g → behind ≡ drop (base + 64) g → base + 64 + 64 ≤ length g → RowMade r r' base made
    → ((x w y : ℕ) → x < model_states → made x w y → y ≡ j w (get_or behind x 0)) → RowPut g (r' ++ behind) base (λ x. j (get_or g (base + x) 0) (get_or g (base + 64 + x) 0))
row_joined {g} {r} {r'} {behind} {base} {made} j p q l f h = record { size = size; here = here; below = below; past = past }
  where
    short : length r' ≡ base + 64
    short = f.size ∙ ap length p ∙ length-take-le (base + 64) g (omega arith)

    tail : length behind ≡ length g - (base + 64)
    tail = ap length q ∙ length-drop (base + 64) g

    size : length (r' ++ behind) ≡ length g
    size = omega (arith, length-append r' behind, short, tail)

    old : (i : ℕ) → i < base + 64 → get_or r i 0 ≡ get_or g i 0
    old i m = ap (λ (r : List ℕ). get_or r i 0) p ∙ get_or-take (base + 64) g i 0 m

    first : (i : ℕ) → i < base + 64 → get_or (r' ++ behind) i 0 ≡ get_or r' i 0
    first i m = let k : i < length r' = omega (arith, short) in get_or-append r' behind 0 i k

    here : (x : ℕ) → x < model_states → get_or (r' ++ behind) (base + x) 0 ≡ j (get_or g (base + x) 0) (get_or g (base + 64 + x) 0)
    here x m = first (base + x) (omega arith) ∙ h x _ _ m (f.here x m) ∙ ap₂ j (old (base + x) (omega arith)) (ap (λ (b : List ℕ). get_or b x 0) q ∙ get_or-drop (base + 64) g x 0)

    below : (i : ℕ) → i < base → get_or (r' ++ behind) i 0 ≡ get_or g i 0
    below i m = first i (omega arith) ∙ f.below i m ∙ old i (omega arith)

    past : (i : ℕ) → base + model_states ≤ i → get_or (r' ++ behind) i 0 ≡ get_or g i 0
    past i m =
        let e : base + 64 + (i - (base + 64)) ≡ i = omega arith in
        get_or-append_right r' behind (base + 64) i 0 short m ∙ ap (λ (b : List ℕ). get_or b (i - (base + 64)) 0) q ∙ get_or-drop (base + 64) g (i - (base + 64)) 0 ∙ ap (λ (k : ℕ). get_or g k 0) e
