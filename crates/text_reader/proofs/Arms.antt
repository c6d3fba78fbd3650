-- The readers' arms: what was taken after the character that opens a formula or a rule. Assumes nothing.
use Prim.Native.Nat.{ℕ, ◌+◌, ◌≤◌, ◌<◌}
use mathlib.Core.Path.{◌≡◌, refl, sym, ap, subst, ◌∙◌}
use mathlib.Core.List.{List, [], ◌∷◌, ◌++◌, append-nil}
use lib.ListN.{length, drop}
use lib.Seq.{drop-cons}
use borrow.Author.Tests.{ne_eqb}
use Rattle.definitions.specs.Definition1.{prop, yea, nay, neg, join, Rule, empty}
use Rattle.definitions.specs.Encoding.{spell_f}
use Rattle.std.specs.Prelude.{Result}
use Rattle.grammar.specs.declared.words.Fault.{Fault}
use Rattle.text_reader.specs.declared.reader.Taken.{Taken}
use Rattle.grammar.specs.Text.{formula_text}
use Rattle.grammar.specs.inner.Reading.{Need, rule, formula, digit, junction, tail, occurrence, sign, Rest, row, closed, standing, rows, scan}
use Rattle.grammar.specs.inner.Values.{occurrence_text}
use Rattle.grammar.specs.inner.Wide.{wide}
use Rattle.writing.specs.Wrote.{Wrote}
use Rattle.grammar.specs.inner.Places.{At, Part, Fails}
use Rattle.text_reader.specs.inner.Takings.{took, broke, KindTaken, DigitTaken, FormulaTaken, JoinTaken, LetterTaken, RuleTaken, BraceTaken}
use Rattle.grammar.proofs.Rights.{standing_text, standing_small, rights}
use Rattle.grammar.proofs.Picking.{later}
use Rattle.grammar.proofs.Standing.{ended, absent}
use Rattle.grammar.proofs.Passing.{alone}
use Rattle.text_reader.proofs.Taking.{by_row, put_before}

module _ (s : List ℕ) (at : ℕ) (b : List ℕ) (to : ℕ) (a : List ℕ) (t : Result Taken Fault) where
  pub arm_prop : At s at 112 → DigitTaken s (at + 1) b to a t → FormulaTaken s at b to a t
  unfolding rows
  arm_prop h x = by_row s at b to a formula 112 (row 112 (digit ∷ []) (λ v. prop v.0)) (λ on ns k p other. refl) (rights formula 112).0 refl h (λ v. spell_f (prop v.0)) spell_f (λ v. refl) t x

  pub arm_true : At s at 116 → KindTaken s (at + 1) (114 ∷ 117 ∷ 101 ∷ []) 2 b to a t → FormulaTaken s at b to a t
  unfolding rows
  arm_true h x = by_row s at b to a formula 116 (row 116 (sign 114 ∷ sign 117 ∷ sign 101 ∷ []) (λ v. yea)) (λ on ns k p other. refl) (rights formula 116).1.0 refl h (λ v. 2 ∷ []) spell_f (λ v. refl) t x

  pub arm_false : At s at 102 → KindTaken s (at + 1) (97 ∷ 108 ∷ 115 ∷ 101 ∷ []) 3 b to a t → FormulaTaken s at b to a t
  unfolding rows
  arm_false h x = by_row s at b to a formula 102 (row 102 (sign 97 ∷ sign 108 ∷ sign 115 ∷ sign 101 ∷ []) (λ v. nay)) (λ on ns k p other. refl) (rights formula 102).1.1.0 refl h (λ v. 3 ∷ []) spell_f (λ v. refl) t x

  pub arm_not : At s at 33 → (m : List ℕ) (to' : ℕ) → to ≤ length b → Wrote (4 ∷ []) b to m to' → FormulaTaken s (at + 1) m to' a t → FormulaTaken s at b to a t
  unfolding rows
  arm_not h m to' l w x = by_row s at b to a formula 33 (row 33 (formula ∷ []) (λ v. neg v.0)) (λ on ns k p other. refl) (rights formula 33).1.1.1.0 refl h (λ v. 4 ∷ spell_f v.0) spell_f (λ v. refl) t (put_before s (at + 1) b to a (formula ∷ []) (λ v. spell_f v.0) 4 m to' l w t x)

  pub arm_open : At s at 40 → JoinTaken s (at + 1) b to a t → FormulaTaken s at b to a t
  unfolding rows
  arm_open h x = by_row s at b to a formula 40 (row 40 (formula ∷ junction ∷ []) (λ v. join v.1.0.0 v.0 v.1.0.1)) (λ on ns k p other. refl) (rights formula 40).1.1.1.1.0 refl h (λ v. spell_f (join v.1.0.0 v.0 v.1.0.1)) spell_f (λ v. refl) t x

  pub arm_empty : At s at 91 → KindTaken s (at + 1) (42 ∷ 48 ∷ 93 ∷ []) 17 b to a t → RuleTaken s at b to a t
  unfolding rows
  arm_empty h x = by_row s at b to a rule 91 (row 91 (sign 42 ∷ sign 48 ∷ sign 93 ∷ []) (λ v. empty)) (λ on ns k p other. refl) (rights rule 91).0 refl h (λ v. 17 ∷ []) wide (λ v. refl) t x

  pub arm_brace : At s at 123 → BraceTaken s (at + 1) b to a t → RuleTaken s at b to a t
  unfolding rows
  arm_brace h x = by_row s at b to a rule 123 (row 123 (rule ∷ tail ∷ []) (λ v. closed v.0 v.1.0)) (λ on ns k p other. refl) (rights rule 123).1.0 refl h (λ v. wide (closed v.0 v.1.0)) wide (λ v. refl) t x

module _ (s : List ℕ) (at : ℕ) where
  pub no_formula : (At s at 112 → ⊥) → (At s at 116 → ⊥) → (At s at 102 → ⊥) → (At s at 33 → ⊥) → (At s at 40 → ⊥) → Fails s at (formula ∷ []) at
  unfolding rows
  no_formula p t f n o = absent s formula refl at (p, (t, (f, (n, (o, tt)))))

  pub no_rule : length s ≤ at → Fails s at (rule ∷ []) at
  no_rule h = ended s rule refl at h

  -- neither "[" nor "{" stands there: a formula is needed
  as_formula : at < length s → (At s at 91 → ⊥) → (At s at 123 → ⊥) → (ms : List Need) (k : Rule → Rest ms) → scan (drop at s) (rule ∷ ms) k at ≡ scan (drop at s) (formula ∷ occurrence ∷ ms) (λ f c. k (standing f c)) at
  unfolding rows
  as_formula h x y ms k =
      ap (λ (l : List ℕ). scan l (rule ∷ ms) k at) (drop-cons s at 0 h)
      ∙ later _ _ _ (ne_eqb _ _ (λ e. x (record { inside = h; char = e })))
      ∙ later _ _ _ (ne_eqb _ _ (λ e. y (record { inside = h; char = e })))
      ∙ ap (λ (l : List ℕ). scan l (formula ∷ occurrence ∷ ms) (λ f c. k (standing f c)) at) (sym (drop-cons s at 0 h))

  pub arm_letter : at < length s → (At s at 91 → ⊥) → (At s at 123 → ⊥) → (b : List ℕ) (to : ℕ) (a : List ℕ) (t : Result Taken Fault) → LetterTaken s at b to a t → RuleTaken s at b to a t
  arm_letter h x y b to a t (took u z i) = took u z (record {
    vs = (standing i.vs.0 i.vs.1.0, tt);
    there = record {
      small = (standing_small i.vs.0 i.vs.1.0 i.there.small.0 i.there.small.1.0, tt);
      part = alone s rule (standing i.vs.0 i.vs.1.0) (subst (λ (t : List ℕ). Part s at t u.end) (ap (λ (t : List ℕ). formula_text i.vs.0 ++ t) (append-nil (occurrence_text i.vs.1.0)) ∙ sym (standing_text i.vs.0 i.vs.1.0)) i.there.part);
      over = λ ms k. as_formula h x y ms k ∙ i.there.over ms (λ f c. k (standing f c));
    };
    wrote = i.wrote;
  })
  arm_letter h x y b to a t (broke p z f) = broke p z (λ ms k. as_formula h x y ms k ∙ f ms (λ f c. k (standing f c)))
