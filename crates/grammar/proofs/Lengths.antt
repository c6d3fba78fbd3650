-- A text is at most five characters a byte of its rule; while they are found, the bytes are at most three a character, of a formula one. Assumes nothing.
use Prim.Native.Nat.{ℕ, ◌+◌, ◌*◌, ◌≤◌}
use native.Mathlib.Omega.{arith}
use mathlib.Core.Path.{◌≡◌}
use mathlib.Core.List.{List, [], ◌∷◌, ◌++◌}
use lib.ListN.{length, length-append}
use Rattle.definitions.specs.declared.kinds.Pair.{Pair}
use Rattle.definitions.specs.declared.kinds.Pair.TheVariants.{Then, Overlap, Either, Within, Both}
use Rattle.definitions.specs.Definition1.{Formula, prop, yea, nay, neg, join, Rule, letter, empty, two, again, counted, occurs}
use Rattle.definitions.specs.Encoding.{Small, spell_f, spell}
use Rattle.grammar.specs.Text.{junction_char, pair_sign, repeat_char, counts_text, formula_text, text}
use Rattle.grammar.specs.inner.Wide.{wide}
use Rattle.grammar.proofs.Numbers.{counts_length}

-- where two parts have one character between them and one after, or a sign between them
pub one_between : (a b : List ℕ) (c d : ℕ) → length (a ++ (c ∷ (b ++ (d ∷ [])))) ≡ length a + length b + 2
one_between a b c d = omega (arith, length-append a (c ∷ (b ++ (d ∷ []))), length-append b (d ∷ []))

pub sign_length : (p : Pair) → (1 ≤ length (pair_sign p)) × (length (pair_sign p) ≤ 2)
sign_length Then = omega arith
sign_length Overlap = omega arith
sign_length Either = omega arith
sign_length Within = omega arith
sign_length Both = omega arith

pub sign_between : (a s b : List ℕ) (d : ℕ) → length (a ++ (s ++ (b ++ (d ∷ [])))) ≡ length a + length s + length b + 1
sign_between a s b d = omega (arith, length-append a (s ++ (b ++ (d ∷ []))), length-append s (b ++ (d ∷ [])), length-append b (d ∷ []))

pub formula_lengths : (f : Formula) → (length (formula_text f) ≤ 5 * length (spell_f f)) × (length (spell_f f) ≤ length (formula_text f))
formula_lengths (prop i) = omega arith
formula_lengths yea = omega arith
formula_lengths nay = omega arith
formula_lengths (neg f) = let i = formula_lengths f in omega arith
formula_lengths (join j f g) =
    let i = formula_lengths f in
    let i' = formula_lengths g in
    let l = one_between (formula_text f) (formula_text g) (junction_char j) 41 in
    let m = length-append (spell_f f) (spell_f g) in
    omega arith

-- there is no shorter text
pub formula_long : (f : Formula) → 2 ≤ length (formula_text f)
formula_long (prop i) = omega arith
formula_long yea = omega arith
formula_long nay = omega arith
formula_long (neg f) = let i = formula_long f in omega arith
formula_long (join j f g) =
    let i = formula_long f in
    let i' = formula_long g in
    let l = one_between (formula_text f) (formula_text g) (junction_char j) 41 in
    omega arith

pub text_long : (r : Rule) → 1 ≤ length (text r)
text_long (letter f) = let i = formula_long f in omega arith
text_long empty = omega arith
text_long (two p a b) = omega arith
text_long (again p a) = omega arith
text_long (counted i j a) = omega arith
text_long (occurs i j f) = let l = formula_long f in let m = length-append (formula_text f) (91 ∷ 61 ∷ counts_text i j) in omega arith

pub text_lengths : (r : Rule) → Small r → length (text r) ≤ 5 * length (spell r)
text_lengths (letter f) h = let i = formula_lengths f in omega arith
text_lengths empty h = omega arith
text_lengths (again p a) h = let i = text_lengths a h in let l = length-append (text a) (125 ∷ 91 ∷ repeat_char p ∷ 93 ∷ []) in omega arith
text_lengths (counted i j a) (c, h) =
    let o = text_lengths a h in
    let n = counts_length i j c in
    let l = length-append (text a) (125 ∷ 91 ∷ 42 ∷ counts_text i j) in
    omega arith
text_lengths (occurs i j f) (c, h) =
    let o = formula_lengths f in
    let n = counts_length i j c in
    let l = length-append (formula_text f) (91 ∷ 61 ∷ counts_text i j) in
    omega arith
text_lengths (two p a b) (h, h') =
    let i = text_lengths a h in
    let i' = text_lengths b h' in
    let l = sign_between (text a) (pair_sign p) (text b) 125 in
    let n = sign_length p in
    let m = length-append (spell a) (spell b) in
    omega arith

pub wide_lengths : (r : Rule) → length (wide r) ≤ 3 * length (text r)
wide_lengths (letter f) = let i = formula_lengths f in let p = formula_long f in omega arith
wide_lengths empty = omega arith
wide_lengths (again p a) = let i = wide_lengths a in let l = length-append (text a) (125 ∷ 91 ∷ repeat_char p ∷ 93 ∷ []) in omega arith
wide_lengths (counted i j a) = let o = wide_lengths a in let l = length-append (text a) (125 ∷ 91 ∷ 42 ∷ counts_text i j) in omega arith
wide_lengths (occurs i j f) =
    let o = formula_lengths f in
    let p = formula_long f in
    let l = length-append (formula_text f) (91 ∷ 61 ∷ counts_text i j) in
    omega arith
wide_lengths (two p a b) =
    let i = wide_lengths a in
    let i' = wide_lengths b in
    let l = sign_between (text a) (pair_sign p) (text b) 125 in
    let n = sign_length p in
    let m = length-append (wide a) (wide b) in
    omega arith
