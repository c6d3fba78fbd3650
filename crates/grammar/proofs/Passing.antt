-- Values of needs that stand in the text: a character, a word, one need after another, by a row. Assumes nothing.
use Prim.Native.Nat.{ℕ, ◌+◌}
use native.Mathlib.Omega.{arith}
use mathlib.Core.Path.{◌≡◌, refl, sym, ap, subst, ◌∙◌}
use mathlib.Core.List.{List, [], ◌∷◌, ◌++◌, append-nil}
use lib.ListN.{drop}
use Rattle.grammar.specs.inner.Reading.{Need, sign, Value, Values, Rest, Row, rows, feed, given, scan}
use Rattle.grammar.specs.inner.Values.{text_n, texts, SmallN, Smalls}
use Rattle.grammar.specs.inner.Places.{At, Part, Fails, Passes, signs}
use Rattle.grammar.proofs.Rights.{Right}
use Rattle.grammar.proofs.Picking.{Opens}
use Rattle.grammar.proofs.Complete.{Passed}
use Rattle.grammar.proofs.Standing.{seen, over_at, char_part, parts, part_first}

pub given_feed : (n : Need) (ms ns : List Need) (f : Values ms → Value n) (k : Value n → Rest ns) (vs : Values ms) → given ms ns (feed n ms ns f k) vs ≡ k (f vs)
given_feed n [] ns f k vs = refl
given_feed n (m ∷ ms) ns f k vs = given_feed n ms ns (λ us. f (vs.0, us)) k vs.1

-- a word has one value
abbrev pub units : (w : List ℕ) → Values (signs w)
units [] = tt
units (c ∷ w) = (tt, units w)

units_text : (w : List ℕ) → w ≡ texts (signs w) (units w)
units_text [] = refl
units_text (c ∷ w) = ap (λ (t : List ℕ). c ∷ t) (units_text w)

units_small : (w : List ℕ) → Smalls (signs w) (units w)
units_small [] = tt
units_small (c ∷ w) = (tt, units_small w)

module _ (s : List ℕ) where
  -- the text of the only need
  pub alone : {at e : ℕ} (n : Need) (v : Value n) → Part s at (text_n n v) e → Part s at (texts (n ∷ []) (v, tt)) e
  alone {at} {e} n v x = subst (λ (t : List ℕ). Part s at t e) (sym (append-nil (text_n n v))) x

  pub single : {at e : ℕ} (n : Need) (v : Value n) → Part s at (text_n n v ++ []) e → Part s at (text_n n v) e
  single {at} {e} n v x = subst (λ (t : List ℕ). Part s at t e) (append-nil (text_n n v)) x

  -- by what reading makes of a value's text
  pub value_passes : {at e : ℕ} (n : Need) (v : Value n) → SmallN n v → Passed n v → Part s at (text_n n v) e → Passes s at (n ∷ []) (v, tt) e
  value_passes {at} {e} n v h f x = record {
    small = (h, tt);
    part = alone n v x;
    over = λ ms k. ap (λ (l : List ℕ). scan l (n ∷ ms) k at) x.chars ∙ f (drop e s) ms k at ∙ ap (λ (j : ℕ). scan (drop e s) ms (k v) j) (sym x.ends);
  }

  pub sign_passes : {at c : ℕ} → At s at c → Passes s at (sign c ∷ []) (tt, tt) (at + 1)
  sign_passes {at} {c} h = record { small = (tt, tt); part = char_part s h; over = λ ms k. over_at s h ms k }

  word_over : (w : List ℕ) {at e : ℕ} → Part s at w e → (ms : List Need) (k : Rest (signs w ++ ms)) → scan (drop at s) (signs w ++ ms) k at ≡ scan (drop e s) ms (given (signs w) ms k (units w)) e
  word_over [] {at} {e} x ms k = let q : e ≡ at = let a = x.ends in omega arith in ap (λ (n : ℕ). scan (drop n s) ms k n) (sym q)
  word_over (c ∷ w) {at} {e} x ms k = let i = part_first s x in over_at s i.0 (signs w ++ ms) k ∙ word_over w i.1 ms (k tt)

  pub word_passes : {at e : ℕ} (w : List ℕ) → Part s at w e → Passes s at (signs w) (units w) e
  word_passes {at} {e} w x = record { small = units_small w; part = subst (λ (t : List ℕ). Part s at t e) (units_text w) x; over = λ ms k. word_over w x ms k }

  -- one need, and then others
  pub then_passes : {at m e : ℕ} (n : Need) (ns : List Need) (v : Value n) (vs : Values ns) → Passes s at (n ∷ []) (v, tt) m → Passes s m ns vs e → Passes s at (n ∷ ns) (v, vs) e
  then_passes n ns v vs x y = record {
    small = (x.small.0, y.small);
    part = parts s (text_n n v) (texts ns vs) (single n v x.part) y.part;
    over = λ ms k. x.over (ns ++ ms) k ∙ y.over ms (k v);
  }

  pub then_fails : {at m : ℕ} (n : Need) (ns : List Need) (v : Value n) (p : ℕ) → Passes s at (n ∷ []) (v, tt) m → Fails s m ns p → Fails s at (n ∷ ns) p
  then_fails n ns v p x f ms k = x.over (ns ++ ms) k ∙ f ms (k v)

  pub first_fails : (at : ℕ) (n : Need) (ns : List Need) (p : ℕ) → Fails s at (n ∷ []) p → Fails s at (n ∷ ns) p
  first_fails at n ns p f ms k = f (ns ++ ms) k

  -- by a row of the table
  module _ (at : ℕ) (n : Need) (c : ℕ) (r : Row n) (o : Opens n (rows n c) c r) (h : At s at c) where
    pub row_passes : Right n r → c ≡ r.char → {e : ℕ} (vs : Values r.needs) → Passes s (at + 1) r.needs vs e → Passes s at (n ∷ []) (r.made vs, tt) e
    row_passes g q {e} vs x =
        let i = g vs x.small in
        record {
          small = (i.1, tt);
          part = alone n (r.made vs) (subst (λ (t : List ℕ). Part s at t e) (ap (λ (d : ℕ). d ∷ texts r.needs vs) q ∙ sym i.0) (parts s (c ∷ []) (texts r.needs vs) (char_part s h) x.part));
          over = λ ms k.
              ap (λ (l : List ℕ). scan l (n ∷ ms) k at) (seen s h)
              ∙ o (scan (drop (at + 1) s)) ms k at _
              ∙ x.over ms (feed n r.needs ms r.made k)
              ∙ ap (λ (z : Rest ms). scan (drop e s) ms z e) (given_feed n r.needs ms r.made k vs);
        }

    pub row_fails : (p : ℕ) → Fails s (at + 1) r.needs p → Fails s at (n ∷ []) p
    row_fails p f ms k = ap (λ (l : List ℕ). scan l (n ∷ ms) k at) (seen s h) ∙ o (scan (drop (at + 1) s)) ms k at _ ∙ f ms (feed n r.needs ms r.made k)
