-- The set that is told of a rule is that of the propositions which stand in it, bit by bit. Assumes nothing.
use Prim.Native.Nat.{ℕ, ◌≤◌, ◌<◌}
use native.Mathlib.Omega.{arith}
use native.Mathlib.Decide.{dec_lt}
use mathlib.Core.Path.{◌≡◌, sym, ap, subst, ◌∙◌}
use mathlib.Core.Logic.{◌⊎◌, inl, inr}
use lib.Dec.{T, eqb}
use borrow.Author.Tests.{eq-eqb, eqb-true}
use Rattle.bits.specs.Word.{bit}
use Rattle.bits.proofs.Laws.{bit_word, bit_above, word_lt}
use Rattle.bits.proofs.Truths.{or_T, true_T, T_true, false_no}
use Rattle.rules.specs.declared.Known.{Known}
use Rattle.definitions.specs.Definition1.{Formula, prop, yea, nay, neg, join, Rule, letter, empty, two, again, counted, occurs}
use Rattle.definitions.specs.Definition2.{last_proposition}
use Rattle.definitions.specs.Encoding.{SmallF, Small}
use Rattle.rules.specs.Named.{proposition_count, formula_names, rule_names, uses_of}
use Rattle.rules.proofs.Accepting.{accepted_rule}
use Rattle.demands.specs.Terms.{InFormula, InRule}
use Rattle.demands.specs.Demand1.{NamesExactly}
use Rattle.demands.proofs.Spellings.{same_rule}

either : {A B C D : Type 0} → (A → C) → (B → D) → A ⊎ B → C ⊎ D
either f g (inl a) = inl (f a)
either f g (inr b) = inr (g b)

formula_in : (i : ℕ) (f : Formula) → T (formula_names f i) → InFormula i f
unfolding formula_names
formula_in i (prop j) t = eqb-true i j (T_true (eqb i j) t)
formula_in i yea t = t
formula_in i nay t = t
formula_in i (neg f) t = formula_in i f t
formula_in i (join j f g) t = either (λ u. formula_in i f u) (λ u. formula_in i g u) ((or_T (formula_names f i) (formula_names g i)).0 t)

in_formula : (i : ℕ) (f : Formula) → InFormula i f → T (formula_names f i)
unfolding formula_names
in_formula i (prop j) h = true_T (eq-eqb i j h)
in_formula i yea h = h
in_formula i nay h = h
in_formula i (neg f) h = in_formula i f h
in_formula i (join j f g) h = (or_T (formula_names f i) (formula_names g i)).1 (either (λ u. in_formula i f u) (λ u. in_formula i g u) h)

rule_in_lem : (i : ℕ) (r : Rule) → T (rule_names r i) → InRule i r
unfolding rule_names
rule_in_lem i (letter f) t = formula_in i f t
rule_in_lem i empty t = t
rule_in_lem i (two p a b) t = either (λ u. rule_in_lem i a u) (λ u. rule_in_lem i b u) ((or_T (rule_names a i) (rule_names b i)).0 t)
rule_in_lem i (again p a) t = rule_in_lem i a t
rule_in_lem i (counted l h a) t = rule_in_lem i a t
rule_in_lem i (occurs l h f) t = formula_in i f t

in_rule : (i : ℕ) (r : Rule) → InRule i r → T (rule_names r i)
unfolding rule_names
in_rule i (letter f) h = in_formula i f h
in_rule i empty h = h
in_rule i (two p a b) h = (or_T (rule_names a i) (rule_names b i)).1 (either (λ u. in_rule i a u) (λ u. in_rule i b u) h)
in_rule i (again p a) h = in_rule i a h
in_rule i (counted l j a) h = in_rule i a h
in_rule i (occurs l j f) h = in_formula i f h

-- none but the propositions that exist
formula_small : (i : ℕ) (f : Formula) → SmallF f → InFormula i f → i ≤ last_proposition
formula_small i (prop j) m h = omega arith
formula_small i yea m h = absurd h
formula_small i nay m h = absurd h
formula_small i (neg f) m h = formula_small i f m h
formula_small i (join j f g) m (inl h) = formula_small i f m.0 h
formula_small i (join j f g) m (inr h) = formula_small i g m.1 h

rule_small : (i : ℕ) (r : Rule) → Small r → InRule i r → i ≤ last_proposition
rule_small i (letter f) m h = formula_small i f m h
rule_small i empty m h = absurd h
rule_small i (two p a b) m (inl h) = rule_small i a m.0 h
rule_small i (two p a b) m (inr h) = rule_small i b m.1 h
rule_small i (again p a) m h = rule_small i a m h
rule_small i (counted l j a) m h = rule_small i a m.1 h
rule_small i (occurs l j f) m h = formula_small i f m.1 h

module _ (r : Rule) (i : ℕ) where
  set_in : T (bit (uses_of r) i) → InRule i r
  set_in t = go (dec_lt i proposition_count)
    where
      go : Dec (i < proposition_count) → InRule i r
      go (yes l) = rule_in_lem i r (subst T (bit_word proposition_count (rule_names r) i l) t)
      go (no l) = absurd (false_no (bit_above proposition_count (uses_of r) i (word_lt proposition_count (rule_names r)) (omega arith)) t)

  in_set : Small r → InRule i r → T (bit (uses_of r) i)
  in_set m h = let l = rule_small i r m h in subst T (sym (bit_word proposition_count (rule_names r) i (omega arith))) (in_rule i r h)

pub names_exactly : NamesExactly
names_exactly s k r q h i =
    let a = accepted_rule s k q in
    let e : k.uses ≡ uses_of r = ap (λ (x : Known). x.uses) a.2 ∙ ap uses_of (sym (same_rule h a.1)) in
    (λ t. set_in r i (subst (λ (w : ℕ). T (bit w i)) e t), λ y. subst (λ (w : ℕ). T (bit w i)) (sym e) (in_set r i h.propositions y))
