-- What may follow a first operand: junctions, operators, repetitions, and counts after a formula that stands as a rule. Assumes nothing.
use Prim.Native.Nat.{ℕ, suc, ◌+◌, ◌≤◌, ◌<◌}
use native.Mathlib.Omega.{arith}
use native.Mathlib.Decide.{dec_lt}
use mathlib.Core.Path.{◌≡◌, refl, sym, ap, subst, ◌∙◌}
use mathlib.Core.List.{List, [], ◌∷◌}
use lib.ListN.{length, get_or, drop, drop_of_length-le}
use lib.Seq.{drop-cons}
use borrow.Author.Tests.{ne_eqb}
use Rattle.definitions.specs.declared.kinds.Junction.{Junction}
use Rattle.definitions.specs.declared.kinds.Pair.{Pair}
use Rattle.definitions.specs.declared.kinds.Pair.TheVariants.{Then, Overlap, Either, Within, Both}
use Rattle.definitions.specs.declared.kinds.Repeat.TheVariants.{Star, Plus}
use Rattle.std.specs.Prelude.{Option, Some, None, Result, Ok, Err}
use Rattle.grammar.specs.declared.words.Fault.{Fault}
use Rattle.grammar.specs.declared.counts.Counted.{Counted}
use Rattle.grammar.specs.declared.signs.Head.{Head}
use Rattle.grammar.specs.declared.signs.Head.TheVariants as head-of
use Rattle.grammar.specs.declared.signs.Headed.{Headed}
use Rattle.grammar.specs.declared.signs.Sign.{Sign}
use Rattle.grammar.specs.declared.signs.Sign.TheVariants as signed
use Rattle.grammar.specs.Text.{junction_char}
use Rattle.grammar.specs.inner.Reading.{Need, rule, junction, tail, second, bracket, star, occurrence, sign, repeated, Counts, uncounted, from, plus, starred, Tail, Second, within, both, seconded, Value, Values, Rest, Row, row, counts, from_to, rows, scan}
use Rattle.grammar.specs.inner.Wide.{head_bytes, bracket_head, standing_head}
use Rattle.grammar.specs.inner.Places.{At, Fails, Passes, CountedAt, are, no_counts, HeadedAt, by, unheaded, StarAt, BracketAt, OccurrenceAt, JunctionAt, joins, no_junction, Operator, SignAt, operator, repetition, no_sign}
use Rattle.grammar.proofs.Rights.{Right, rights}
use Rattle.grammar.proofs.Picking.{Opens}
use Rattle.grammar.proofs.Complete.{no_and, no_bracket, Free, over_none}
use Rattle.grammar.proofs.Standing.{seen, other_sign, absent, no_part, char_part, parts}
use Rattle.grammar.proofs.Passing.{sign_passes, then_passes, then_fails, first_fails, row_passes, row_fails}

-- which junction was found
module _ {s : List ℕ} {at : ℕ} {r : Option Junction} where
  pub is_junction : JunctionAt s at r → (j : Junction) → r ≡ Some j → At s at (junction_char j)
  is_junction (joins j' q a) j z = let i : j' ≡ j = cc in subst (λ (k : Junction). At s at (junction_char k)) i a
  is_junction (no_junction q f) j z = absurd (let y : ◌≡◌ {A = ℕ} 0 1 = cc in omega arith)

  pub not_junction : JunctionAt s at r → r ≡ None → Fails s at (junction ∷ []) at
  not_junction (joins j q a) z = absurd (let y : ◌≡◌ {A = ℕ} 0 1 = cc in omega arith)
  not_junction (no_junction q f) z = f

module _ (s : List ℕ) (at : ℕ) where
  on_char : (c : ℕ) → At s at c → (n : Need) (ns : List Need) (k : Rest (n ∷ ns)) → scan (drop at s) (n ∷ ns) k at ≡ scan (c ∷ drop (at + 1) s) (n ∷ ns) k at
  on_char c h n ns k = ap (λ (l : List ℕ). scan l (n ∷ ns) k at) (seen s h)

  -- one character
  pub op_then : At s at 59 → Operator s at Then (at + 1)
  unfolding rows
  op_then h = record { part = char_part s h; on = λ ns k. on_char 59 h tail ns k }

  pub op_overlap : At s at 58 → Operator s at Overlap (at + 1)
  unfolding rows
  op_overlap h = record { part = char_part s h; on = λ ns k. on_char 58 h tail ns k }

  pub op_either : At s at 124 → Operator s at Either (at + 1)
  unfolding rows
  op_either h = record { part = char_part s h; on = λ ns k. on_char 124 h tail ns k }

  -- two characters, or one that another does not follow
  and_on : At s at 38 → (ns : List Need) (k : Tail → Rest ns) → scan (drop at s) (tail ∷ ns) k at ≡ scan (drop (at + 1) s) (second ∷ ns) (λ v. k (seconded v)) (at + 1)
  unfolding rows
  and_on h ns k = on_char 38 h tail ns k

second_on : (s : List ℕ) (at : ℕ) → (At s at 38 → ⊥) → (ns : List Need) (k : Second → Rest ns) → scan (drop at s) (second ∷ ns) k at ≡ scan (drop at s) (rule ∷ sign 125 ∷ ns) (λ r u. k (within r)) at
second_on s at x ns k = go (dec_lt at (length s))
  where
    go : Dec (at < length s) → scan (drop at s) (second ∷ ns) k at ≡ scan (drop at s) (rule ∷ sign 125 ∷ ns) (λ r u. k (within r)) at
    go (no h) = let l : length s ≤ at = omega arith in rw (drop_of_length-le s l) refl
    go (yes h) = no_and (drop at s) (get_or s at 0) (drop (suc at) s) (drop-cons s at 0 h) (ne_eqb _ _ (λ e. x (record { inside = h; char = e }))) ns k at

module _ (s : List ℕ) (at : ℕ) (h : At s at 38) where
  pub op_within : (At s (at + 1) 38 → ⊥) → Operator s at Within (at + 1)
  op_within x = record { part = char_part s h; on = λ ns k. and_on s at h ns k ∙ second_on s (at + 1) x ns (λ v. k (seconded v)) }

  both_on : At s (at + 1) 38 → (ns : List Need) (k : Second → Rest ns) → scan (drop (at + 1) s) (second ∷ ns) k (at + 1) ≡ scan (drop (at + 1 + 1) s) (rule ∷ sign 125 ∷ ns) (λ r u. k (both r)) (at + 1 + 1)
  unfolding rows
  both_on x ns k = on_char s (at + 1) 38 x second ns k

  pub op_both : At s (at + 1) 38 → Operator s at Both (at + 1 + 1)
  op_both x = record { part = parts s (38 ∷ []) (38 ∷ []) (char_part s h) (char_part s x); on = λ ns k. and_on s at h ns k ∙ both_on x ns (λ v. k (seconded v)) }

-- what was found asks for a head, from the character before it on
module _ (s : List ℕ) (at : ℕ) where
  pub headed_row : (n : Need) (c : ℕ) (r : Row n) → Opens n (rows n c) c r → Right n r → c ≡ r.char → At s at c → (head : Values r.needs → List ℕ) (head' : Value n → List ℕ) → ((vs : Values r.needs) → head vs ≡ head' (r.made vs)) → (h : Result Headed Fault) → HeadedAt s (at + 1) r.needs head h → HeadedAt s at (n ∷ []) (λ v. head' v.0) h
  headed_row n c r o g q z head head' same h (by b p vs x i) = by b p (r.made vs, tt) (row_passes s at n c r o z g q vs x) (i ∙ same vs)
  headed_row n c r o g q z head head' same h (unheaded p i f) = unheaded p i (row_fails s at n c r o z p.place f)

  pub headed_sign : (c : ℕ) (ns : List Need) → At s at c → (head : Values ns → List ℕ) (h : Result Headed Fault) → HeadedAt s (at + 1) ns head h → HeadedAt s at (sign c ∷ ns) (λ v. head v.1) h
  headed_sign c ns z head h (by b p vs x i) = by b p (tt, vs) (then_passes s (sign c) ns tt vs (sign_passes s z) x) i
  headed_sign c ns z head h (unheaded p i f) = unheaded p i (then_fails s (sign c) ns tt p.place (sign_passes s z) f)

-- the counts, as they are told
module _ {s : List ℕ} {at : ℕ} {r : Result Counted Fault} where
  pub counted_head : (head : Counts → List ℕ) (made : ℕ → ℕ → Head) → ((i j : ℕ) → head_bytes (made i j) ≡ head (from i j)) → CountedAt s at r → (c : Counted) → r ≡ Ok c → HeadedAt s at (counts ∷ []) (λ v. head (from_to v.0)) (Ok (record { head = made c.low c.high; end = c.end }))
  counted_head head made same (are c' q x) c z =
      let i : c' ≡ c = cc in
      by _ refl ((c.low, c.high), tt) (subst (λ (d : Counted). Passes s at (counts ∷ []) ((d.low, d.high), tt) d.end) i x) (same c.low c.high)
  counted_head head made same (no_counts f q g) c z = absurd (let y : ◌≡◌ {A = ℕ} 0 1 = cc in omega arith)

  pub counted_broken : CountedAt s at r → (f : Fault) → r ≡ Err f → Fails s at (counts ∷ []) f.place
  counted_broken (are c q x) f z = absurd (let y : ◌≡◌ {A = ℕ} 0 1 = cc in omega arith)
  counted_broken (no_counts f' q g) f z = subst (λ (h : Fault). Fails s at (counts ∷ []) h.place) (let i : f' ≡ f = cc in i) g

-- what follows "[*"
module _ (s : List ℕ) (at : ℕ) where
  star_on : (At s at 93 → ⊥) → (ns : List Need) (k : Counts → Rest ns) → scan (drop at s) (star ∷ ns) k at ≡ scan (drop at s) (counts ∷ ns) (λ v. k (from_to v)) at
  star_on x ns k = go (dec_lt at (length s))
    where
      go : Dec (at < length s) → scan (drop at s) (star ∷ ns) k at ≡ scan (drop at s) (counts ∷ ns) (λ v. k (from_to v)) at
      go (no h) = let l : length s ≤ at = omega arith in rw (drop_of_length-le s l) refl
      go (yes h) = no_bracket (drop at s) (get_or s at 0) (drop (suc at) s) (drop-cons s at 0 h) (ne_eqb _ _ (λ e. x (record { inside = h; char = e }))) ns k at

  pub star_closed : At s at 93 → StarAt s at (Ok (record { head = head-of.Again Star; end = at + 1 }))
  unfolding rows
  star_closed x = by _ refl (uncounted, tt) (row_passes s at star 93 (row 93 [] (λ v. uncounted)) (λ on ns k p other. refl) x (rights star 93).0 refl tt (record { small = tt; part = no_part s (at + 1) (let l = x.inside in omega arith); over = λ ms k. refl })) refl

  pub star_counted : (At s at 93 → ⊥) → (h : Result Headed Fault) → HeadedAt s at (counts ∷ []) (λ v. 0x19 ∷ v.0.0 ∷ v.0.1 ∷ []) h → StarAt s at h
  star_counted n h (by b p vs x i) = by b p (from_to vs.0, tt) (record { small = (x.small.0.2, tt); part = x.part; over = λ ms k. star_on n ms k ∙ x.over ms (λ v. k (from_to v)) }) i
  star_counted n h (unheaded p i f) = unheaded p i (λ ms k. star_on n ms k ∙ f ms (λ v. k (from_to v)))

-- what follows "}"
module _ (s : List ℕ) (at : ℕ) where
  pub no_open : (At s at 91 → ⊥) → BracketAt s at (Err (record { place = at }))
  no_open x = unheaded _ refl (first_fails s at (sign 91) (bracket ∷ []) at (other_sign s at 91 x))

  module _ (o : At s at 91) where
    pub by_star : At s (at + 1) 42 → (h : Result Headed Fault) → StarAt s (at + 1 + 1) h → BracketAt s at h
    unfolding rows
    by_star x h y = headed_sign s at 91 (bracket ∷ []) o (λ v. bracket_head v.0) h (headed_row s (at + 1) bracket 42 (row 42 (star ∷ []) (λ v. starred v.0)) (λ on ns k p other. refl) (rights bracket 42).0 refl x (λ v. bracket_head (starred v.0)) bracket_head (λ v. refl) h y)

    pub no_repetition : (At s (at + 1) 42 → ⊥) → (At s (at + 1) 43 → ⊥) → BracketAt s at (Err (record { place = at + 1 }))
    unfolding rows
    no_repetition x y = unheaded _ refl (then_fails s (sign 91) (bracket ∷ []) tt (at + 1) (sign_passes s o) (absent s bracket refl (at + 1) (x, (y, tt))))

    module _ (x : At s (at + 1) 43) where
      pub plus_open : (At s (at + 1 + 1) 93 → ⊥) → BracketAt s at (Err (record { place = at + 1 + 1 }))
      unfolding rows
      plus_open n = unheaded _ refl (then_fails s (sign 91) (bracket ∷ []) tt (at + 1 + 1) (sign_passes s o) (row_fails s (at + 1) bracket 43 (row 43 (sign 93 ∷ []) (λ v. plus)) (λ on ns k p other. refl) x (at + 1 + 1) (other_sign s (at + 1 + 1) 93 n)))

      pub plus_closed : At s (at + 1 + 1) 93 → BracketAt s at (Ok (record { head = head-of.Again Plus; end = at + 1 + 1 + 1 }))
      unfolding rows
      plus_closed z = by _ refl (tt, (plus, tt)) (then_passes s (sign 91) (bracket ∷ []) tt (plus, tt) (sign_passes s o) (row_passes s (at + 1) bracket 43 (row 43 (sign 93 ∷ []) (λ v. plus)) (λ on ns k p other. refl) x (rights bracket 43).1.0 refl (tt, tt) (sign_passes s z))) refl

-- what may follow a formula that stands as a rule
module _ (s : List ℕ) (at : ℕ) where
  free_at : (At s at 91 → ⊥) → Free (drop at s)
  free_at x = go (dec_lt at (length s))
    where
      go : Dec (at < length s) → Free (drop at s)
      go (no h) = let l : length s ≤ at = omega arith in subst Free (sym (drop_of_length-le s l)) tt
      go (yes h) = subst Free (sym (drop-cons s at 0 h)) (ne_eqb _ _ (λ e. x (record { inside = h; char = e })))

  pub no_occurrence : at ≤ length s → (At s at 91 → ⊥) → OccurrenceAt s at (Ok (record { head = head-of.Letter; end = at }))
  no_occurrence l x = by _ refl (uncounted, tt) (record { small = (tt, tt); part = no_part s at l; over = λ ms k. over_none (drop at s) (free_at x) ms k at }) refl

  module _ (o : At s at 91) where
    pub no_equals : (At s (at + 1) 61 → ⊥) → OccurrenceAt s at (Err (record { place = at + 1 }))
    unfolding rows
    no_equals x = unheaded _ refl (row_fails s at occurrence 91 (row 91 (sign 61 ∷ counts ∷ []) (λ v. from_to v.1.0)) (λ on ns k p other. refl) o (at + 1) (first_fails s (at + 1) (sign 61) (counts ∷ []) (at + 1) (other_sign s (at + 1) 61 x)))

    pub by_equals : At s (at + 1) 61 → (h : Result Headed Fault) → HeadedAt s (at + 1 + 1) (counts ∷ []) (λ v. 0x1A ∷ v.0.0 ∷ v.0.1 ∷ []) h → OccurrenceAt s at h
    unfolding rows
    by_equals x h y = headed_row s at occurrence 91 (row 91 (sign 61 ∷ counts ∷ []) (λ v. from_to v.1.0)) (λ on ns k p other. refl) (rights occurrence 91).0 refl o (λ v. 0x1A ∷ v.1.0.0 ∷ v.1.0.1 ∷ []) standing_head (λ v. refl) h (headed_sign s (at + 1) 61 (counts ∷ []) x (λ v. 0x1A ∷ v.0.0 ∷ v.0.1 ∷ []) h y)

-- what stands there begins with the brace that closes a repetition
module _ {s : List ℕ} {at : ℕ} (z : At s at 125) where
  pub repeats : {r : Result Headed Fault} → BracketAt s (at + 1) r → (h : Headed) → r ≡ Ok h → SignAt s at (Ok (signed.Repetition h))
  repeats x h q = repetition h refl z (subst (BracketAt s (at + 1)) q x)

  pub no_repeat : {r : Result Headed Fault} → BracketAt s (at + 1) r → (f : Fault) → r ≡ Err f → SignAt s at (Err f)
  unfolding rows
  no_repeat (by h p vs x i) f q = absurd (let y : ◌≡◌ {A = ℕ} 0 1 = cc in omega arith)
  no_repeat (unheaded f' p x) f q =
      let i : f' ≡ f = cc in
      no_sign f refl (row_fails s at tail 125 (row 125 (sign 91 ∷ bracket ∷ []) (λ v. repeated v.1.0)) (λ on ns k p other. refl) z f.place (subst (λ (h : Fault). Fails s (at + 1) (sign 91 ∷ bracket ∷ []) h.place) i x))

-- which sign was found
module _ {s : List ℕ} {at : ℕ} {r : Result Sign Fault} where
  pub as_operator : SignAt s at r → (p : Pair) (e : ℕ) → r ≡ Ok (signed.Operator p e) → Operator s at p e
  as_operator (operator p' e' q o) p e z = let a : p' ≡ p = cc in let b : e' ≡ e = cc in subst (λ (m : Pair). Operator s at m e) a (subst (λ (n : ℕ). Operator s at p' n) b o)
  as_operator (repetition h q x y) p e z = absurd (let i : ◌≡◌ {A = ℕ} 0 1 = cc in omega arith)
  as_operator (no_sign f q x) p e z = absurd (let i : ◌≡◌ {A = ℕ} 0 1 = cc in omega arith)

  pub as_repetition : SignAt s at r → (h : Headed) → r ≡ Ok (signed.Repetition h) → At s at 125 × BracketAt s (at + 1) (Ok h)
  as_repetition (operator p e q o) h z = absurd (let i : ◌≡◌ {A = ℕ} 0 1 = cc in omega arith)
  as_repetition (repetition h' q x y) h z = let i : h' ≡ h = cc in (x, subst (λ (g : Headed). BracketAt s (at + 1) (Ok g)) i y)
  as_repetition (no_sign f q x) h z = absurd (let i : ◌≡◌ {A = ℕ} 0 1 = cc in omega arith)

  pub as_no_sign : SignAt s at r → (f : Fault) → r ≡ Err f → Fails s at (tail ∷ []) f.place
  as_no_sign (operator p e q o) f z = absurd (let i : ◌≡◌ {A = ℕ} 0 1 = cc in omega arith)
  as_no_sign (repetition h q x y) f z = absurd (let i : ◌≡◌ {A = ℕ} 0 1 = cc in omega arith)
  as_no_sign (no_sign f' q x) f z = let i : f' ≡ f = cc in subst (λ (g : Fault). Fails s at (tail ∷ []) g.place) i x
