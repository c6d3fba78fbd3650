-- An accepted rule stands, from place 0 to the end of the bytes: what a caller of the reader hands to a walk. Assumes nothing.
use Prim.Native.Nat.{ℕ, suc, ◌+◌, ◌≤◌, ◌<◌}
use native.Mathlib.Omega.{arith}
use native.Mathlib.Numerals.{add-one}
use mathlib.Core.Path.{◌≡◌, refl, sym, ap, subst, ◌∙◌}
use mathlib.Core.List.{List, [], ◌∷◌, ◌++◌, append_assoc, append-nil}
use lib.ListN.{length, get_or, drop, length-drop, drop_of_length-le}
use lib.Seq.{drop-cons}
use native.Mathlib.Decide.{dec_lt}
use Rattle.definitions.specs.declared.kinds.Kind.{Kind}
use Rattle.definitions.specs.Definition1.{Formula, prop, yea, nay, neg, join, Rule, letter, empty, two, again, counted, occurs}
use Rattle.definitions.specs.Kinds.{kind_of}
use Rattle.rules.specs.Reading.{good}
use Rattle.rules.specs.Places.{HasCounts, Here, FormulaAt, a_prop, a_yea, a_nay, a_neg, a_join, RuleAt, a_letter, a_empty, a_two, a_again, a_counted, an_occurs}
use Rattle.definitions.specs.Encoding.{spell_f, spell, CountsFit, SmallF, Small}
use Rattle.rules.specs.Answer.{parse}
use Rattle.rules.proofs.Scan.{rule_ends}
use Rattle.rules.proofs.Encode.{junction_kind, pair_kind, repeat_kind, read_is_spelt}

module _ (s : List ℕ) where
  record First (at b : ℕ) (t : List ℕ) : Type 0 where
    inside : at < length s
    byte : get_or s at 0 ≡ b
    rest : drop (at + 1) s ≡ t

  first : (at b : ℕ) (t : List ℕ) → drop at s ≡ b ∷ t → First at b t
  first at b t q = go (dec_lt at (length s))
    where
      go : Dec (at < length s) → First at b t
      go (no h) = let l : length s ≤ at = omega arith in let z : [] ≡ b ∷ t = sym (drop_of_length-le s l) ∙ q in let w : ◌≡◌ {A = ℕ} 0 1 = cc in absurd (omega arith)
      go (yes h) = let z : get_or s at 0 ∷ drop (suc at) s ≡ b ∷ t = sym (drop-cons s at 0 h) ∙ q in record { inside = h; byte = cc; rest = rw add-one (cc) }

  at_kind : {at b : ℕ} {t : List ℕ} {κ : Kind} → First at b t → kind_of b ≡ κ → Here s at κ
  at_kind i q = record { inside = i.inside; says = ap kind_of i.byte ∙ q }

  stands_f : (f : Formula) → SmallF f → (at : ℕ) (t : List ℕ) → drop at s ≡ spell_f f ++ t → (e : ℕ) × FormulaAt s at f e × (drop e s ≡ t)
  unfolding kind_of
  stands_f (prop i) sm at t q =
      let a = first at 0x01 (i ∷ t) q in
      let b = first (at + 1) i t a.rest in
      (at + 1 + 1, a_prop (at_kind a refl) b.inside b.byte sm refl, b.rest)
  stands_f yea sm at t q = let a = first at 0x02 t q in (at + 1, a_yea (at_kind a refl) refl, a.rest)
  stands_f nay sm at t q = let a = first at 0x03 t q in (at + 1, a_nay (at_kind a refl) refl, a.rest)
  stands_f (neg f) sm at t q =
      let a = first at 0x04 (spell_f f ++ t) q in
      let b = stands_f f sm (at + 1) t a.rest in
      (b.0, a_neg (at_kind a refl) b.1, b.2)
  stands_f (join j f g) (u, v) at t q =
      let a = first at _ ((spell_f f ++ spell_f g) ++ t) q in
      let x = stands_f f u (at + 1) (spell_f g ++ t) (a.rest ∙ append_assoc (spell_f f) (spell_f g) t) in
      let y = stands_f g v x.0 t x.2 in
      (y.0, a_join (at_kind a (junction_kind j)) x.1 y.1, y.2)

  stand_counts : (at i j : ℕ) (t : List ℕ) → CountsFit i j → drop (at + 1) s ≡ i ∷ j ∷ t → HasCounts s at i j × (drop (at + 3) s ≡ t)
  stand_counts at i j t f q =
      let a = first (at + 1) i (j ∷ t) q in
      let b = first (at + 1 + 1) j t a.rest in
      let e : at + 1 + 1 ≡ at + 2 = omega arith in
      let e' : at + 1 + 1 + 1 ≡ at + 3 = omega arith in
      (record { inside = omega (arith, b.inside); first = a.byte; second = ap (λ (n : ℕ). get_or s n 0) (sym e) ∙ b.byte; fit = f }, ap (λ (n : ℕ). drop n s) (sym e') ∙ b.rest)

  stands_r : (r : Rule) → Small r → (at : ℕ) (t : List ℕ) → drop at s ≡ spell r ++ t → (e : ℕ) × RuleAt s at r e × (drop e s ≡ t)
  unfolding kind_of
  stands_r (letter f) sm at t q =
      let a = first at 0x10 (spell_f f ++ t) q in
      let b = stands_f f sm (at + 1) t a.rest in
      (b.0, a_letter (at_kind a refl) b.1, b.2)
  stands_r empty sm at t q = let a = first at 0x11 t q in (at + 1, a_empty (at_kind a refl) refl, a.rest)
  stands_r (again p r) sm at t q =
      let a = first at _ (spell r ++ t) q in
      let b = stands_r r sm (at + 1) t a.rest in
      (b.0, a_again (at_kind a (repeat_kind p)) b.1, b.2)
  stands_r (two p l r) (u, v) at t q =
      let a = first at _ ((spell l ++ spell r) ++ t) q in
      let x = stands_r l u (at + 1) (spell r ++ t) (a.rest ∙ append_assoc (spell l) (spell r) t) in
      let y = stands_r r v x.0 t x.2 in
      (y.0, a_two (at_kind a (pair_kind p)) x.1 y.1, y.2)
  stands_r (counted i j r) (f, sm) at t q =
      let a = first at 0x19 (i ∷ j ∷ (spell r ++ t)) q in
      let c = stand_counts at i j (spell r ++ t) f a.rest in
      let b = stands_r r sm (at + 3) t c.1 in
      (b.0, a_counted (at_kind a refl) c.0 b.1, b.2)
  stands_r (occurs i j g) (f, sm) at t q =
      let a = first at 0x1A (i ∷ j ∷ (spell_f g ++ t)) q in
      let c = stand_counts at i j (spell_f g ++ t) f a.rest in
      let b = stands_f g sm (at + 3) t c.1 in
      (b.0, an_occurs (at_kind a refl) c.0 b.1, b.2)

  -- an accepted rule stands, from 0 to the end
  pub stands : (r : Rule) → parse s ≡ good r → RuleAt s 0 r (length s)
  stands r q =
      let i = read_is_spelt s r q in
      let x = stands_r r i.1 0 [] (sym (append-nil (spell r) ∙ i.0)) in
      let l = rule_ends s x.1 in
      let e : x.0 ≡ length s = omega (arith, length-drop x.0 s, ap length x.2) in
      subst (RuleAt s 0 r) e x.1
