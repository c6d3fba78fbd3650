-- Characters at places of the text: what stands is passed over, and where no row's character stands reading stops. Assumes nothing.
use Prim.Native.Nat.{ℕ, suc, ◌+◌, ◌≤◌, ◌<◌}
use native.Mathlib.Omega.{arith}
use native.Mathlib.Decide.{dec_lt}
use native.Mathlib.Numerals.{add-one}
use mathlib.Core.Path.{◌≡◌, refl, sym, ap, ap₂, ◌∙◌}
use mathlib.Core.Bool.{false}
use mathlib.Core.Option.{Option, none}
use mathlib.Core.List.{List, [], ◌∷◌, ◌++◌, append_assoc}
use lib.Dec.{eqb}
use lib.ListN.{length, get_or, drop, length-append, drop_of_length-le}
use lib.Seq.{drop-cons}
use borrow.Author.Tests.{eqb-true, eqb-false, ne_eqb}
use Rattle.bits.specs.Says.{Says}
use Rattle.grammar.specs.inner.Reading.{Need, sign, Value, Rest, Row, rows, missing, lack, finish, step, scan}
use Rattle.grammar.specs.inner.Places.{At, Part, Fails}
use Rattle.grammar.proofs.Picking.{Closes, later}
use Rattle.grammar.proofs.Complete.{over_sign}

module _ (s : List ℕ) where
  pub outside : (at c : ℕ) → length s ≤ at → Says false (At s at c)
  outside at c h = record { yes_holds = λ e. let z : ◌≡◌ {A = ℕ} 0 1 = cc in absurd (omega arith); no_fails = λ e x. let l = x.inside in omega arith }

  pub inside_says : (at c : ℕ) → at < length s → Says (eqb (get_or s at 0) c) (At s at c)
  inside_says at c h = record { yes_holds = λ e. record { inside = h; char = eqb-true _ _ e }; no_fails = λ e x. eqb-false _ _ e x.char }

  pub seen : {at c : ℕ} → At s at c → drop at s ≡ c ∷ drop (at + 1) s
  seen {at} {c} h = drop-cons s at 0 h.inside ∙ ap₂ (λ (x n : ℕ). x ∷ drop n s) h.char (sym (add-one at))

  pub over_at : {at c : ℕ} → At s at c → (ns : List Need) (k : Unit {0} → Rest ns) → scan (drop at s) (sign c ∷ ns) k at ≡ scan (drop (at + 1) s) ns (k tt) (at + 1)
  over_at {at} {c} h ns k = ap (λ (l : List ℕ). scan l (sign c ∷ ns) k at) (seen h) ∙ over_sign c (drop (at + 1) s) ns k at

  -- none of the rows' characters stands there
  abbrev pub Absent : (n : Need) → ℕ → List (Row n) → Type 0
  Absent n at [] = Unit {0}
  Absent n at (r ∷ rs) = (At s at r.char → ⊥) × Absent n at rs

  not_there : (n : Need) (at : ℕ) → at < length s → (rs : List (Row n)) → Absent n at rs → Closes n rs (get_or s at 0)
  not_there n at h [] a on ns k p other = refl
  not_there n at h (r ∷ rs) (x, a) on ns k p other = later (eqb (get_or s at 0) r.char) _ _ (ne_eqb _ _ (λ e. x (record { inside = h; char = e }))) ∙ not_there n at h rs a on ns k p other

  -- a need that may not be passed over
  pub ended : (n : Need) → missing n ≡ none → (at : ℕ) → length s ≤ at → Fails s at (n ∷ []) at
  ended n e at h ms k =
      ap (λ (t : List ℕ). scan t (n ∷ ms) k at) (drop_of_length-le s h)
      ∙ ap (λ (o : Option (Value n)). lack o (λ v. finish ms (k v) at) at) e

  pub absent : (n : Need) → missing n ≡ none → (at : ℕ) → Absent n at (rows n (get_or s at 0)) → Fails s at (n ∷ []) at
  absent n e at a = go (dec_lt at (length s))
    where
      go : Dec (at < length s) → Fails s at (n ∷ []) at
      go (no h) ms k = ended n e at (omega arith) ms k
      go (yes h) ms k =
          ap (λ (t : List ℕ). scan t (n ∷ ms) k at) (drop-cons s at 0 h)
          ∙ not_there n at h (rows n (get_or s at 0)) a (scan (drop (suc at) s)) ms k at _
          ∙ ap (λ (o : Option (Value n)). lack o (λ v. step (get_or s at 0) (scan (drop (suc at) s)) ms (k v) at) at) e

  pub other_sign : (at c : ℕ) → (At s at c → ⊥) → Fails s at (sign c ∷ []) at
  unfolding rows
  other_sign at c x = absent (sign c) refl at (x, tt)

  -- parts
  pub no_part : (at : ℕ) → at ≤ length s → Part s at [] at
  no_part at h = record { chars = refl; ends = omega arith; inside = h }

  pub char_part : {at c : ℕ} → At s at c → Part s at (c ∷ []) (at + 1)
  char_part {at} {c} h = record { chars = seen h; ends = omega arith; inside = let l = h.inside in omega arith }

  pub parts : {at m e : ℕ} (u v : List ℕ) → Part s at u m → Part s m v e → Part s at (u ++ v) e
  parts {at} {m} {e} u v x y = record {
    chars = x.chars ∙ ap (λ (t : List ℕ). u ++ t) y.chars ∙ sym (append_assoc u v (drop e s));
    ends = let a = x.ends in let b = y.ends in omega (arith, length-append u v);
    inside = y.inside;
  }

  pub part_first : {at e c : ℕ} {u : List ℕ} → Part s at (c ∷ u) e → At s at c × Part s (at + 1) u e
  part_first {at} {e} {c} {u} x =
      let l : at < length s = let a = x.ends in let b = x.inside in omega arith in
      let q : get_or s at 0 ∷ drop (suc at) s ≡ c ∷ (u ++ drop e s) = sym (drop-cons s at 0 l) ∙ x.chars in
      (record { inside = l; char = cc }, record { chars = rw add-one (cc); ends = let a = x.ends in omega arith; inside = x.inside })
