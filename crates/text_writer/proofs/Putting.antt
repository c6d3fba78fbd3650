-- The writers' arms: the text of what stands at a place, put together from what their calls write. Assumes nothing.
use Prim.Native.Nat.{ℕ, ◌+◌, ◌*◌, ◌<◌, ◌≤◌}
use native.Mathlib.Omega.{arith}
use mathlib.Core.Path.{◌≡◌, sym, ap₂, subst, ◌∙◌}
use mathlib.Core.List.{List, [], ◌∷◌, ◌++◌}
use lib.ListN.{length, get_or, length-append}
use Rattle.definitions.specs.declared.kinds.Junction.{Junction}
use Rattle.definitions.specs.declared.kinds.FormulaKind.TheVariants.{Proposition, Truth, Falsity, Not, Join}
use Rattle.definitions.specs.declared.kinds.Pair.{Pair}
use Rattle.definitions.specs.declared.kinds.Repeat.{Repeat}
use Rattle.definitions.specs.declared.kinds.RuleKind.TheVariants.{Letter, Empty, Two, Again, Counted, Occurs}
use Rattle.definitions.specs.declared.kinds.Kind.TheVariants.{OfFormula, OfRule}
use Rattle.definitions.specs.Definition1.{Formula, yea, nay, Rule, empty, counted, occurs}
use Rattle.definitions.specs.Encoding.{CountsFit}
use Rattle.definitions.specs.Kinds.{kind_of}
use Rattle.rules.specs.Places.{FormulaAt, a_prop, a_yea, a_nay, a_neg, a_join, RuleAt, a_letter, a_empty, a_two, a_again, a_counted, an_occurs, HasCounts, GoodFormula, GoodRule}
use Rattle.definitions.specs.declared.counts.Counts.{Counts}
use Rattle.definitions.specs.Encoding.{CountsAs}
use Rattle.rules.proofs.Scan.{formula_ends, rule_ends}
use Rattle.rules.proofs.PlacesOnce.{formula_of, rule_of_lem}
use Rattle.text_writer.specs.declared.writer.Put.{Put}
use Rattle.grammar.specs.Text.{digit_char, junction_char, pair_sign, repeat_char, counts_text, formula_text, text}
use Rattle.writing.specs.Decimal.{decimal}
use Rattle.writing.specs.Wrote.{Wrote}
use Rattle.text_writer.specs.inner.Walks.{FormulaPut, RulePut}
use Rattle.grammar.proofs.Numbers.{count_length, counts_length}
use Rattle.grammar.proofs.Lengths.{one_between, sign_between, sign_length}
use Rattle.writing.proofs.Wrotes.{wrote_more}

module _ (s : List ℕ) where
  -- a text takes at most five characters a byte
  formula_room : {at e : ℕ} {f : Formula} → FormulaAt s at f e → length (formula_text f) + 5 * at ≤ 5 * e
  formula_room (a_prop h l b le q) = omega arith
  formula_room (a_yea h q) = omega arith
  formula_room (a_nay h q) = omega arith
  formula_room (a_neg h d) = let i = formula_room d in omega arith
  formula_room (a_join {j = j} {f = f} {g = g} h d d') =
      let i = formula_room d in
      let i' = formula_room d' in
      let l = one_between (formula_text f) (formula_text g) (junction_char j) 41 in
      omega arith

  rule_room : {at e : ℕ} {r : Rule} → RuleAt s at r e → length (text r) + 5 * at ≤ 5 * e
  rule_room (a_letter h d) = let i = formula_room d in omega arith
  rule_room (a_empty h q) = omega arith
  rule_room (a_again {p = p} {a = a} h d) = let i = rule_room d in let l = length-append (text a) (125 ∷ 91 ∷ repeat_char p ∷ 93 ∷ []) in omega arith
  rule_room (a_counted {i = i} {j = j} {a = a} h c d) = let o = rule_room d in let n = counts_length i j c.fit in let l = length-append (text a) (125 ∷ 91 ∷ 42 ∷ counts_text i j) in omega arith
  rule_room (an_occurs {i = i} {j = j} {f = f} h c d) = let o = formula_room d in let n = counts_length i j c.fit in let l = length-append (formula_text f) (91 ∷ 61 ∷ counts_text i j) in omega arith
  rule_room (a_two {p = p} {a = a} {b = b} h d d') =
      let i = rule_room d in
      let i' = rule_room d' in
      let l = sign_between (text a) (pair_sign p) (text b) 125 in
      let n = sign_length p in
      omega arith

  -- what a call of the writer leaves: how far it went
  pub formula_wrote : (at : ℕ) (b : List ℕ) (to : ℕ) (a : List ℕ) (put : Put) → GoodFormula s at → FormulaPut s at b to a put → (at < put.end) × (put.end ≤ length s) × (put.past + 5 * at ≤ to + 5 * put.end) × (length a ≡ length b)
  formula_wrote at b to a put g w =
      let o = w.formula_done g.0 g.1 g.2 in
      let q = o.0 in
      let u = o.1.ends in
      let v = o.1.size in
      let i = formula_room g.2 in
      let l = formula_ends s g.2 in
      omega arith

  pub rule_wrote : (at : ℕ) (b : List ℕ) (to : ℕ) (a : List ℕ) (put : Put) → GoodRule s at → RulePut s at b to a put → (at < put.end) × (put.end ≤ length s) × (put.past + 5 * at ≤ to + 5 * put.end) × (length a ≡ length b)
  rule_wrote at b to a put g w =
      let o = w.rule_done g.0 g.1 g.2 in
      let q = o.0 in
      let u = o.1.ends in
      let v = o.1.size in
      let i = rule_room g.2 in
      let l = rule_ends s g.2 in
      omega arith

-- both counts
module _ (i j : ℕ) (c : CountsFit i j) (to : ℕ) (b : List ℕ) (h : to + 7 ≤ length b) where
  low_small : length (decimal i) ≤ 2
  low_small = let r = c.rising in let s = c.small in (count_length i (omega arith)).1

  pub low_room : to + length (decimal i) ≤ length b
  low_room = let l = low_small in omega arith

  module _ {m : List ℕ} {e : ℕ} (x : Wrote (decimal i) b to m e) where
    pub dots_room : e + 2 ≤ length m
    dots_room = let l = low_small in let u = x.ends in let v = x.size in omega arith

    module _ {m₁ : List ℕ} {e₁ : ℕ} (y : Wrote (46 ∷ 46 ∷ []) m e m₁ e₁) where
      pub high_room : e₁ + length (decimal j) ≤ length m₁
      high_room = let l = low_small in let k = (count_length j c.small).1 in let u = x.ends in let v = x.size in let u' = y.ends in let v' = y.size in omega arith

      module _ {m₂ : List ℕ} {e₂ : ℕ} (z : Wrote (decimal j) m₁ e₁ m₂ e₂) where
        pub close_room : e₂ < length m₂
        close_room = let l = low_small in let k = (count_length j c.small).1 in let u = x.ends in let v = x.size in let u' = y.ends in let v' = y.size in let u'' = z.ends in let v'' = z.size in omega arith

        pub counts_wrote : {a : List ℕ} {e₃ : ℕ} → Wrote (93 ∷ []) m₂ e₂ a e₃ → Wrote (counts_text i j) b to a e₃
        counts_wrote w =
            let r = dots_room in
            let r' = high_room in
            let r'' = close_room in
            wrote_more (omega arith) x (wrote_more (omega arith) y (wrote_more (omega arith) z w))

module _ (s : List ℕ) (at : ℕ) (b : List ℕ) (to : ℕ) where
  as_text : {f g : Formula} {a : List ℕ} {e : ℕ} → f ≡ g → Wrote (formula_text g) b to a e → Wrote (formula_text f) b to a e
  as_text {f} {g} {a} {e} q w = subst (λ (h : Formula). Wrote (formula_text h) b to a e) (sym q) w

  as_rule_text : {r r' : Rule} {a : List ℕ} {e : ℕ} → r ≡ r' → Wrote (text r') b to a e → Wrote (text r) b to a e
  as_rule_text {r} {r'} {a} {e} q w = subst (λ (h : Rule). Wrote (text h) b to a e) (sym q) w

  pub p_prop : kind_of (get_or s at 0) ≡ OfFormula Proposition → (a : List ℕ) (e : ℕ) → Wrote (112 ∷ digit_char (get_or s (at + 1) 0) ∷ []) b to a e → FormulaPut s at b to a (record { end = at + 2; past = e })
  p_prop q a e w = record { formula_done = λ f z d. let i = formula_of s (OfFormula Proposition) d q in let n = i.3 in (omega arith, as_text i.0 w) }

  pub p_yea : kind_of (get_or s at 0) ≡ OfFormula Truth → (a : List ℕ) (e : ℕ) → Wrote (formula_text yea) b to a e → FormulaPut s at b to a (record { end = at + 1; past = e })
  p_yea q a e w = record { formula_done = λ f z d. let i = formula_of s (OfFormula Truth) d q in (i.1, as_text i.0 w) }

  pub p_nay : kind_of (get_or s at 0) ≡ OfFormula Falsity → (a : List ℕ) (e : ℕ) → Wrote (formula_text nay) b to a e → FormulaPut s at b to a (record { end = at + 1; past = e })
  p_nay q a e w = record { formula_done = λ f z d. let i = formula_of s (OfFormula Falsity) d q in (i.1, as_text i.0 w) }

  pub p_neg : kind_of (get_or s at 0) ≡ OfFormula Not → (m : List ℕ) (to' : ℕ) → to ≤ length b → Wrote (33 ∷ []) b to m to' → (a : List ℕ) (put : Put) → FormulaPut s (at + 1) m to' a put → FormulaPut s at b to a put
  p_neg q m to' l x a put w = record {
    formula_done = λ f e d.
        let i = formula_of s (OfFormula Not) d q in
        let o = w.formula_done i.0 e i.2 in
        (o.0, as_text i.1 (wrote_more l x o.1));
  }

  pub p_join : (j : Junction) → kind_of (get_or s at 0) ≡ OfFormula (Join j) →
      (m1 : List ℕ) (e1 : ℕ) → Wrote (40 ∷ []) b to m1 e1 →
      (m2 : List ℕ) (x : Put) → FormulaPut s (at + 1) m1 e1 m2 x →
      (m3 : List ℕ) (e3 : ℕ) → Wrote (junction_char j ∷ []) m2 x.past m3 e3 →
      (m4 : List ℕ) (y : Put) → FormulaPut s x.end m3 e3 m4 y →
      (a : List ℕ) (e : ℕ) → Wrote (41 ∷ []) m4 y.past a e →
      y.past ≤ length m4 → FormulaPut s at b to a (record { end = y.end; past = e })
  p_join j q m1 e1 w1 m2 x w2 m3 e3 w3 m4 y w4 a e w5 l = record {
    formula_done = λ f z d.
        let i = formula_of s (OfFormula (Join j)) d q in
        let o = w2.formula_done i.0 i.2 i.4 in
        let o' = w4.formula_done i.1 z (rw o.0 i.5) in
        (o'.0, as_text i.3 (five (formula_text i.0) (formula_text i.1) o.1 o'.1));
  }
    where
      five : (u v : List ℕ) → Wrote u m1 e1 m2 x.past → Wrote v m3 e3 m4 y.past → Wrote (40 ∷ (u ++ (junction_char j ∷ (v ++ (41 ∷ []))))) b to a e
      five u v w2 w4 =
          let n1 = w1.ends in
          let z1 = w1.size in
          let n2 = w2.ends in
          let z2 = w2.size in
          let n3 = w3.ends in
          let z3 = w3.size in
          let n4 = w4.ends in
          let z4 = w4.size in
          wrote_more (omega arith) w1 (wrote_more (omega arith) w2 (wrote_more (omega arith) w3 (wrote_more (omega arith) w4 w5)))

  pub p_letter : kind_of (get_or s at 0) ≡ OfRule Letter → (a : List ℕ) (put : Put) → FormulaPut s (at + 1) b to a put → RulePut s at b to a put
  p_letter q a put w = record {
    rule_done = λ r e d.
        let i = rule_of_lem s (OfRule Letter) d q in
        let o = w.formula_done i.0 e i.2 in
        (o.0, as_rule_text i.1 o.1);
  }

  pub p_empty : kind_of (get_or s at 0) ≡ OfRule Empty → (a : List ℕ) (e : ℕ) → Wrote (text empty) b to a e → RulePut s at b to a (record { end = at + 1; past = e })
  p_empty q a e w = record { rule_done = λ r z d. let i = rule_of_lem s (OfRule Empty) d q in (i.1, as_rule_text i.0 w) }

  pub p_two : (p : Pair) → kind_of (get_or s at 0) ≡ OfRule (Two p) →
      (m1 : List ℕ) (e1 : ℕ) → Wrote (123 ∷ []) b to m1 e1 →
      (m2 : List ℕ) (x : Put) → RulePut s (at + 1) m1 e1 m2 x →
      (m3 : List ℕ) (e3 : ℕ) → Wrote (pair_sign p) m2 x.past m3 e3 →
      (m4 : List ℕ) (y : Put) → RulePut s x.end m3 e3 m4 y →
      (a : List ℕ) (e : ℕ) → Wrote (125 ∷ []) m4 y.past a e →
      y.past ≤ length m4 → RulePut s at b to a (record { end = y.end; past = e })
  p_two p q m1 e1 w1 m2 x w2 m3 e3 w3 m4 y w4 a e w5 l = record {
    rule_done = λ r z d.
        let i = rule_of_lem s (OfRule (Two p)) d q in
        let o = w2.rule_done i.0 i.2 i.4 in
        let o' = w4.rule_done i.1 z (rw o.0 i.5) in
        (o'.0, as_rule_text i.3 (five (text i.0) (text i.1) o.1 o'.1));
  }
    where
      five : (u v : List ℕ) → Wrote u m1 e1 m2 x.past → Wrote v m3 e3 m4 y.past → Wrote (123 ∷ (u ++ (pair_sign p ++ (v ++ (125 ∷ []))))) b to a e
      five u v w2 w4 =
          let n1 = w1.ends in
          let z1 = w1.size in
          let n2 = w2.ends in
          let z2 = w2.size in
          let n3 = w3.ends in
          let z3 = w3.size in
          let n4 = w4.ends in
          let z4 = w4.size in
          wrote_more (omega arith) w1 (wrote_more (omega arith) w2 (wrote_more (omega arith) w3 (wrote_more (omega arith) w4 w5)))

  pub p_again : (p : Repeat) → kind_of (get_or s at 0) ≡ OfRule (Again p) →
      (m1 : List ℕ) (e1 : ℕ) → Wrote (123 ∷ []) b to m1 e1 →
      (m2 : List ℕ) (x : Put) → RulePut s (at + 1) m1 e1 m2 x →
      (a : List ℕ) (e : ℕ) → Wrote (125 ∷ 91 ∷ repeat_char p ∷ 93 ∷ []) m2 x.past a e →
      x.past ≤ length m2 → RulePut s at b to a (record { end = x.end; past = e })
  p_again p q m1 e1 w1 m2 x w2 a e w3 l = record {
    rule_done = λ r z d.
        let i = rule_of_lem s (OfRule (Again p)) d q in
        let o = w2.rule_done i.0 z i.2 in
        (o.0, as_rule_text i.1 (three (text i.0) o.1));
  }
    where
      three : (u : List ℕ) → Wrote u m1 e1 m2 x.past → Wrote (123 ∷ (u ++ (125 ∷ 91 ∷ repeat_char p ∷ 93 ∷ []))) b to a e
      three u w2 =
          let n1 = w1.ends in
          let z1 = w1.size in
          let n2 = w2.ends in
          let z2 = w2.size in
          wrote_more (omega arith) w1 (wrote_more (omega arith) w2 w3)

  -- the counts that follow the kind byte
  pub p_counted : kind_of (get_or s at 0) ≡ OfRule Counted →
      (m1 : List ℕ) (e1 : ℕ) → Wrote (123 ∷ []) b to m1 e1 →
      (m2 : List ℕ) (x : Put) → RulePut s (at + 3) m1 e1 m2 x →
      (m3 : List ℕ) (e3 : ℕ) → Wrote (125 ∷ 91 ∷ 42 ∷ []) m2 x.past m3 e3 →
      (i j : ℕ) → i ≡ get_or s (at + 1) 0 → j ≡ get_or s (at + 2) 0 →
      (a : List ℕ) (e : ℕ) → Wrote (counts_text i j) m3 e3 a e →
      e3 ≤ length m3 → RulePut s at b to a (record { end = x.end; past = e })
  p_counted q m1 e1 w1 m2 x w2 m3 e3 w3 i j u v a e w4 l = record {
    rule_done = λ r z d.
        let n = rule_of_lem s (OfRule Counted) d q in
        let o = w2.rule_done n.0 z n.3 in
        (o.0, as_rule_text (n.1 ∙ ap₂ (λ (g h : ℕ). counted g h n.0) (sym u) (sym v)) (four (text n.0) o.1));
  }
    where
      four : (t : List ℕ) → Wrote t m1 e1 m2 x.past → Wrote (123 ∷ (t ++ (125 ∷ 91 ∷ 42 ∷ counts_text i j))) b to a e
      four t w2 =
          let n1 = w1.ends in
          let z1 = w1.size in
          let n2 = w2.ends in
          let z2 = w2.size in
          let n3 = w3.ends in
          let z3 = w3.size in
          wrote_more (omega arith) w1 (wrote_more (omega arith) w2 (wrote_more (omega arith) w3 w4))

  pub p_occurs : kind_of (get_or s at 0) ≡ OfRule Occurs →
      (m1 : List ℕ) (x : Put) → FormulaPut s (at + 3) b to m1 x →
      (m2 : List ℕ) (e2 : ℕ) → Wrote (91 ∷ 61 ∷ []) m1 x.past m2 e2 →
      (i j : ℕ) → i ≡ get_or s (at + 1) 0 → j ≡ get_or s (at + 2) 0 →
      (a : List ℕ) (e : ℕ) → Wrote (counts_text i j) m2 e2 a e →
      e2 ≤ length m2 → RulePut s at b to a (record { end = x.end; past = e })
  p_occurs q m1 x w1 m2 e2 w2 i j u v a e w3 l = record {
    rule_done = λ r z d.
        let n = rule_of_lem s (OfRule Occurs) d q in
        let o = w1.formula_done n.0 z n.3 in
        (o.0, as_rule_text (n.1 ∙ ap₂ (λ (g h : ℕ). occurs g h n.0) (sym u) (sym v)) (three (formula_text n.0) o.1));
  }
    where
      three : (t : List ℕ) → Wrote t b to m1 x.past → Wrote (t ++ (91 ∷ 61 ∷ counts_text i j)) b to a e
      three t w1 =
          let n1 = w1.ends in
          let z1 = w1.size in
          let n2 = w2.ends in
          let z2 = w2.size in
          wrote_more (omega arith) w1 (wrote_more (omega arith) w2 w3)

-- the counts of a good rule fit
pub counts_fit : (s : List ℕ) (at : ℕ) (c : Counts) → CountsAs s at c → HasCounts s at (get_or s (at + 1) 0) (get_or s (at + 2) 0) → CountsFit c.low c.high
counts_fit s at c x h = rw (x.low, x.high) h.fit

-- which operator it is
pub of_junction : {b a : List ℕ} {to e : ℕ} (j j' : Junction) → j ≡ j' → Wrote (junction_char j' ∷ []) b to a e → Wrote (junction_char j ∷ []) b to a e
of_junction {b} {a} {to} {e} j j' q w = subst (λ (i : Junction). Wrote (junction_char i ∷ []) b to a e) (sym q) w

pub of_pair : {b a : List ℕ} {to e : ℕ} (p p' : Pair) → p ≡ p' → Wrote (pair_sign p') b to a e → Wrote (pair_sign p) b to a e
of_pair {b} {a} {to} {e} p p' q w = subst (λ (i : Pair). Wrote (pair_sign i) b to a e) (sym q) w

pub of_repeat : {b a : List ℕ} {to e : ℕ} (p p' : Repeat) → p ≡ p' → Wrote (125 ∷ 91 ∷ repeat_char p' ∷ 93 ∷ []) b to a e → Wrote (125 ∷ 91 ∷ repeat_char p ∷ 93 ∷ []) b to a e
of_repeat {b} {a} {to} {e} p p' q w = subst (λ (i : Repeat). Wrote (125 ∷ 91 ∷ repeat_char i ∷ 93 ∷ []) b to a e) (sym q) w
