-- Laws of bytes as text: a digit, one byte more, and how long it gets. Assumes nothing.
use Prim.Native.Nat.{ℕ, ◌+◌, ◌*◌, ◌/◌, ◌%◌, ◌≤◌, ◌<◌}
use native.Mathlib.Omega.{arith}
use native.Mathlib.Numerals.{add-one}
use mathlib.Core.Path.{◌≡◌, refl, sym, ap, ap₂, subst, ◌∙◌}
use mathlib.Core.Bool.{Bool, cond}
use mathlib.Core.List.{List, [], ◌∷◌, ◌++◌, append_assoc, append-nil}
use lib.ListN.{length, get_or, take, drop, length-append, length-drop}
use lib.Seq.{take-suc, take_all, length-take-le}
use borrow.Author.Tests.{lt-ltb, le-ltb}
use Rattle.writing.specs.Wrote.{Wrote}
use Rattle.writing.proofs.Wrotes.{wrote_none, wrote_more}
use Rattle.text_lines.specs.Hexadecimal.{hex_digit_of, hex_of, spaced, bytes_text}

-- which of the two it is
abbrev digit_of : ℕ → Bool → ℕ
digit_of d b = cond b (48 + d) (55 + d)

pub hex_low : (d : ℕ) → d < 10 → 48 + d ≡ hex_digit_of d
hex_low d h = sym (ap (digit_of d) (lt-ltb d 10 h))

pub hex_high : (d r : ℕ) → 10 ≤ d → r ≡ 55 + d → r ≡ hex_digit_of d
hex_high d r h e = e ∙ sym (ap (digit_of d) (le-ltb d 10 h))

-- the two digits of a byte
pub hex_both : (n : ℕ) {at e e' d f : ℕ} {b m a : List ℕ} → at ≤ length b → d ≡ hex_digit_of (n / 16) → f ≡ hex_digit_of (n % 16) → Wrote (d ∷ []) b at m e → Wrote (f ∷ []) m e a e'
    → Wrote (hex_of n) b at a e'
hex_both n {at} {e} {e'} {d} {f} {b} {m} {a} h p q x y =
    subst (λ (s : List ℕ). Wrote s b at a e') (ap₂ (λ (i j : ℕ). i ∷ j ∷ []) p q) (wrote_more h x y)

pub spaced_length : (s : List ℕ) → length (spaced s) ≡ 3 * length s
unfolding spaced
spaced_length [] = refl
spaced_length (b ∷ s) = let l = length-append (32 ∷ hex_of b) (spaced s) in let i = spaced_length s in omega arith

pub bytes_short : (s : List ℕ) → length (bytes_text s) ≤ 3 * length s
unfolding bytes_text
bytes_short [] = omega arith
bytes_short (b ∷ s) = let l = length-append (hex_of b) (spaced s) in let i = spaced_length s in omega arith

spaced_append : (r q : List ℕ) → spaced (r ++ q) ≡ spaced r ++ spaced q
unfolding spaced
spaced_append [] q = refl
spaced_append (s ∷ r) q = ap (λ (t : List ℕ). (32 ∷ hex_of s) ++ t) (spaced_append r q) ∙ sym (append_assoc (32 ∷ hex_of s) (spaced r) (spaced q))

spaced_single : (b : ℕ) → spaced (b ∷ []) ≡ 32 ∷ hex_of b
unfolding spaced
spaced_single b = append-nil (32 ∷ hex_of b)

-- one byte more
spaced_one : (r : List ℕ) (i : ℕ) → i < length r → spaced (take i r) ++ (32 ∷ hex_of (get_or r i 0)) ≡ spaced (take (i + 1) r)
spaced_one r i h =
    ap (λ (t : List ℕ). spaced (take i r) ++ t) (sym (spaced_single (get_or r i 0)))
    ∙ sym (spaced_append (take i r) (get_or r i 0 ∷ []))
    ∙ ap spaced (sym (take-suc r i 0 h) ∙ ap (λ (k : ℕ). take k r) (sym (add-one i)))

pub spaced_none : (r b : List ℕ) (at : ℕ) → Wrote (spaced (take 0 r)) b at b at
unfolding spaced
spaced_none r b at = wrote_none b at

-- writing them byte by byte
module _ (r b : List ℕ) (at i : ℕ) {o : List ℕ} {e : ℕ} (room : at + 3 * length r ≤ length b) (x : Wrote (spaced (take i r)) b at o e) where
  pub next_room : i < length r → e + 3 ≤ length o
  next_room h =
      let l = spaced_length (take i r) in let t = length-take-le i r (omega arith) in let u = x.ends in let v = x.size in omega arith

  pub next_turn : {o' : List ℕ} {e' : ℕ} → i < length r → Wrote (32 ∷ hex_of (get_or r i 0)) o e o' e' → Wrote (spaced (take (i + 1) r)) b at o' e'
  next_turn {o'} {e'} h y = subst (λ (p : List ℕ). Wrote p b at o' e') (spaced_one r i h) (wrote_more (omega arith) x y)

  pub spaced_whole : length r ≤ i → Wrote (spaced r) b at o e
  spaced_whole h = subst (λ (s : List ℕ). Wrote (spaced s) b at o e) (take_all i r h) x

-- the first byte and then the others
pub bytes_none : (r b : List ℕ) → length r ≡ 0 → Wrote (bytes_text r) b 0 b 0
unfolding bytes_text
bytes_none [] b h = wrote_none b 0
bytes_none (x ∷ r) b h = absurd (omega arith)

pub bytes_some : (r b : List ℕ) {m a t : List ℕ} {e e' : ℕ} → 0 < length r → Wrote (hex_of (get_or r 0 0)) b 0 m e → t ≡ drop 1 r → Wrote (spaced t) m e a e' → Wrote (bytes_text r) b 0 a e'
unfolding bytes_text
bytes_some [] b h x q y = absurd (omega arith)
bytes_some (c ∷ r) b {m} {a} {t} {e} {e'} h x q y = wrote_more (omega arith) x (subst (λ (s : List ℕ). Wrote (spaced s) m e a e') q y)

pub rest_room : (r b : List ℕ) {m t : List ℕ} {e : ℕ} → 3 * length r ≤ length b → 0 < length r → Wrote (hex_of (get_or r 0 0)) b 0 m e → t ≡ drop 1 r → e + 3 * length t ≤ length m
rest_room r b {m} {t} h k x q =
    let l = length-drop 1 r in let n = ap length q in let u = x.ends in let v = x.size in omega arith
