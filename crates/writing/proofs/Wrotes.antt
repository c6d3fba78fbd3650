-- Laws of writing: nothing, a byte, one part after another, and from the front on. Assumes nothing.
use Prim.Native.Nat.{ℕ, suc, ◌+◌, ◌≤◌, ◌<◌}
use native.Mathlib.Omega.{arith}
use native.Mathlib.Nat.{add-zero}
use native.Mathlib.Numerals.{add-one}
use mathlib.Core.Path.{◌≡◌, refl, sym, ap, ap₂, ◌∙◌}
use mathlib.Core.List.{List, [], ◌∷◌, ◌++◌, append_assoc, append-nil}
use lib.ListN.{length, take, drop, set, length-set, length-append, length-drop, take-append-drop}
use lib.Seq.{set_split, append_snoc, take_at, drop-append-le, drop-append-add, drop-drop, length-take-le}
use Rattle.writing.specs.Wrote.{Wrote}

pub wrote_none : (b : List ℕ) (at : ℕ) → Wrote [] b at b at
wrote_none b at = record {
  ends = sym (add-zero at);
  content = sym (take-append-drop at b) ∙ ap (λ (s : List ℕ). s ++ drop at b) (sym (append-nil (take at b)));
  size = refl;
}

pub wrote_byte : (b : List ℕ) (at x : ℕ) → at < length b → Wrote (x ∷ []) b at (set b at x) (at + 1)
wrote_byte b at x h = record {
  ends = refl;
  content =
      set_split b at x h ∙ sym (append_snoc (take at b) x (drop (suc at) b)) ∙ ap (λ (k : ℕ). take at b ++ (x ∷ []) ++ drop k b) (sym (add-one at));
  size = length-set b at x;
}

-- a part and then another is the two as one part
pub wrote_more : {p q b m a : List ℕ} {at e e' : ℕ} → at ≤ length b → Wrote p b at m e → Wrote q m e a e' → Wrote (p ++ q) b at a e'
wrote_more {p} {q} {b} {m} {a} {at} {e} {e'} h x y = record {
  ends = let z = length-append p q in let u = x.ends in let v = y.ends in omega arith;
  content =
      y.content
      ∙ ap₂ (λ (s t : List ℕ). s ++ q ++ t) kept rest
      ∙ ap (λ (s : List ℕ). s ++ drop e' b) (append_assoc (take at b) p q);
  size = y.size ∙ x.size;
}
  where
    begun : length (take at b ++ p) ≡ e
    begun = let z = length-append (take at b) p in let u = length-take-le at b h in let v = x.ends in omega arith

    kept : take e m ≡ take at b ++ p
    kept = ap (take e) x.content ∙ take_at (take at b ++ p) (drop e b) e begun

    rest : drop e' m ≡ drop e' b
    rest =
        ap (λ (k : ℕ). drop k m) y.ends
        ∙ ap (drop (e + length q)) x.content
        ∙ ap (λ (k : ℕ). drop (k + length q) (take at b ++ p ++ drop e b)) (sym begun)
        ∙ drop-append-add (take at b ++ p) (drop e b) (length q)
        ∙ drop-drop (length q) e b
        ∙ ap (λ (k : ℕ). drop k b) (sym y.ends)

-- where both have room, the first has, and then the second
module _ (p q b : List ℕ) (at : ℕ) (room : at + length (p ++ q) ≤ length b) where
  pub first_room : at + length p ≤ length b
  first_room = let l = length-append p q in omega arith

  pub then_room : {m : List ℕ} {e : ℕ} → Wrote p b at m e → e + length q ≤ length m
  then_room x = let l = length-append p q in let u = x.ends in let v = x.size in omega arith

-- writing is determined by what is written
pub wrote_same : {l l' b a a' : List ℕ} {at e e' : ℕ} → l ≡ l' → Wrote l b at a e → Wrote l' b at a' e' → (e ≡ e') × (a ≡ a')
wrote_same {l} {l'} {b} {a} {a'} {at} {e} {e'} q x y =
    let n : e ≡ e' = x.ends ∙ ap (λ (k : List ℕ). at + length k) q ∙ sym y.ends in
    (n, x.content ∙ ap₂ (λ (k : List ℕ) (i : ℕ). take at b ++ k ++ drop i b) q n ∙ sym y.content)

-- what is written from the front of a slice ends inside it, and is what the slice begins with
pub wrote_inside : {p b a : List ℕ} {e : ℕ} → Wrote p b 0 a e → e ≤ length b
wrote_inside {p} {b} {a} {e} w =
    let l = length-append p (drop e b) in let m = length-drop e b in let n = ap length w.content in let k = w.ends in let z = w.size in omega arith

pub wrote_front : {p b a : List ℕ} {e : ℕ} → Wrote p b 0 a e → take e a ≡ p
wrote_front {p} {b} {a} {e} w = ap (take e) w.content ∙ take_at p (drop e b) e (let k = w.ends in omega arith)

-- the same in a slice that goes on
pub wrote_on : {p b a : List ℕ} {e : ℕ} (rest : List ℕ) → Wrote p b 0 a e → Wrote p (b ++ rest) 0 (a ++ rest) e
wrote_on {p} {b} {a} {e} rest w = record {
  ends = w.ends;
  content =
      ap (λ (s : List ℕ). s ++ rest) w.content
      ∙ append_assoc p (drop e b) rest
      ∙ ap (λ (s : List ℕ). p ++ s) (sym (drop-append-le e b rest (wrote_inside w)));
  size = let l = length-append a rest in let m = length-append b rest in let z = w.size in omega arith;
}
