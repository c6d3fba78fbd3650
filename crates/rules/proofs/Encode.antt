-- The bytes that are read as a rule are that rule's spelling, and the spelling of a rule is read as it. Assumes nothing.
use Prim.Native.Nat.{ℕ, ◌+◌, ◌≤◌}
use native.Mathlib.Omega.{arith}
use mathlib.Core.Path.{◌≡◌, refl, sym, ap, ap₂, subst, ◌∙◌}
use mathlib.Core.Logic.{◌⊎◌, inl, inr, ⊎_elim}
use mathlib.Core.Bool.{Bool, true, false, cond}
use mathlib.Core.List.{List, [], ◌∷◌, ◌++◌, append_assoc, append-nil}
use lib.Dec.{eqb, leb}
use lib.ListN.{length, length-append}
use borrow.Author.Tests.{eqb-true, le-leb, leb-true}
use Rattle.definitions.specs.declared.kinds.Junction.{Junction}
use Rattle.definitions.specs.declared.kinds.Junction.TheVariants.{And, Or}
use Rattle.definitions.specs.declared.kinds.FormulaKind.{FormulaKind}
use Rattle.definitions.specs.declared.kinds.FormulaKind.TheVariants.{Proposition, Truth, Falsity, Not, Join}
use Rattle.definitions.specs.declared.kinds.Pair.{Pair}
use Rattle.definitions.specs.declared.kinds.Pair.TheVariants.{Then, Overlap, Either, Within, Both}
use Rattle.definitions.specs.declared.kinds.Repeat.{Repeat}
use Rattle.definitions.specs.declared.kinds.Repeat.TheVariants.{Star, Plus}
use Rattle.definitions.specs.declared.kinds.RuleKind.{RuleKind}
use Rattle.definitions.specs.declared.kinds.RuleKind.TheVariants.{Letter, Empty, Two, Again, Counted, Occurs}
use Rattle.definitions.specs.declared.kinds.Kind.{Kind}
use Rattle.definitions.specs.declared.kinds.Kind.TheVariants.{OfFormula, OfRule, Unknown}
use Rattle.definitions.specs.Definition1.{Formula, prop, yea, nay, neg, join, Rule, letter, empty, two, again, counted, occurs}
use Rattle.definitions.specs.Kinds.{Row, table, lookup, kind_of}
use Rattle.rules.specs.Reading.{good, fault, Need, rule, formula, body, counts, Value, Rest, scan, take_rule, take_formula}
use Rattle.definitions.specs.Encoding.{junction_byte, pair_byte, repeat_byte, spell_f, spell, CountsFit, counts_do_fit, SmallF, Small}
use Rattle.rules.specs.Answer.{parse}
use Rattle.rules.proofs.Fitting.{fit_true, true_fit}

-- the byte of a kind
abbrev byte_of : Kind → ℕ
byte_of Unknown = 0
byte_of (OfFormula Proposition) = 0x01
byte_of (OfFormula Truth) = 0x02
byte_of (OfFormula Falsity) = 0x03
byte_of (OfFormula Not) = 0x04
byte_of (OfFormula (Join j)) = junction_byte j
byte_of (OfRule Letter) = 0x10
byte_of (OfRule Empty) = 0x11
byte_of (OfRule (Two p)) = pair_byte p
byte_of (OfRule (Again p)) = repeat_byte p
byte_of (OfRule Counted) = 0x19
byte_of (OfRule Occurs) = 0x1A

-- each row has its kind's byte
abbrev Rows : List Row → Type 0
Rows [] = Unit {0}
Rows (r ∷ rs) = (byte_of r.says ≡ r.byte) × Rows rs

found : (rs : List Row) → Rows rs → (b : ℕ) → (lookup rs b ≡ Unknown) ⊎ (byte_of (lookup rs b) ≡ b)
found [] ok b = inl refl
found (r ∷ rs) (p, ok) b = go (eqb b r.byte) refl (found rs ok b)
  where
    go : (t : Bool) → eqb b r.byte ≡ t → (lookup rs b ≡ Unknown) ⊎ (byte_of (lookup rs b) ≡ b) → (cond t r.says (lookup rs b) ≡ Unknown) ⊎ (byte_of (cond t r.says (lookup rs b)) ≡ b)
    go true e o = inr (p ∙ sym (eqb-true b r.byte e))
    go false e o = o

rows : Rows table
rows = (refl, (refl, (refl, (refl, (refl, (refl, (refl, (refl, (refl, (refl, (refl, (refl, (refl, (refl, (refl, (refl, (refl, tt)))))))))))))))))

kind_byte_lem : (b : ℕ) → (kind_of b ≡ Unknown) ⊎ (byte_of (kind_of b) ≡ b)
unfolding kind_of
kind_byte_lem b = found table rows b

f_byte : (b : ℕ) (k : FormulaKind) → kind_of b ≡ OfFormula k → b ≡ byte_of (OfFormula k)
f_byte b k q = ⊎_elim (λ u. let z : ◌≡◌ {A = ℕ} 0 1 = cc in absurd (omega arith)) (λ e. sym e ∙ ap byte_of q) (kind_byte_lem b)

r_byte : (b : ℕ) (k : RuleKind) → kind_of b ≡ OfRule k → b ≡ byte_of (OfRule k)
r_byte b k q = ⊎_elim (λ u. let z : ◌≡◌ {A = ℕ} 0 1 = cc in absurd (omega arith)) (λ e. sym e ∙ ap byte_of q) (kind_byte_lem b)

-- ---- the spelling is read as the rule
pub junction_kind : (j : Junction) → kind_of (junction_byte j) ≡ OfFormula (Join j)
unfolding kind_of
junction_kind And = refl
junction_kind Or = refl

pub pair_kind : (p : Pair) → kind_of (pair_byte p) ≡ OfRule (Two p)
unfolding kind_of
pair_kind Then = refl
pair_kind Overlap = refl
pair_kind Either = refl
pair_kind Within = refl
pair_kind Both = refl

pub repeat_kind : (p : Repeat) → kind_of (repeat_byte p) ≡ OfRule (Again p)
unfolding kind_of
repeat_kind Star = refl
repeat_kind Plus = refl

far : (l : List ℕ) (ns : List Need) (k : Rest ns) (m n : ℕ) → m ≡ n → scan l ns k m ≡ scan l ns k n
far l ns k m n q = ap (λ (j : ℕ). scan l ns k j) q

pub reads_f : (f : Formula) → SmallF f → (t : List ℕ) (ns : List Need) (k : Formula → Rest ns) (at : ℕ) → scan (spell_f f ++ t) (formula ∷ ns) k at ≡ scan t ns (k f) (at + length (spell_f f))
unfolding kind_of
reads_f (prop i) sm t ns k at = rw (le-leb i 5 sm) (far t ns (k (prop i)) (at + 1 + 1) (at + 2) (omega arith))
reads_f yea sm t ns k at = refl
reads_f nay sm t ns k at = refl
reads_f (neg f) sm t ns k at = reads_f f sm t ns (λ g. k (neg g)) (at + 1) ∙ far t ns (k (neg f)) _ _ (omega arith)
reads_f (join j f g) (u, v) t ns k at =
    rw (junction_kind j, append_assoc (spell_f f) (spell_f g) t)
    (reads_f f u (spell_f g ++ t) (formula ∷ ns) (λ a b. k (join j a b)) (at + 1) ∙ reads_f g v t ns (λ b. k (join j f b)) _ ∙ far t ns (k (join j f g)) _ _ (omega (arith, length-append (spell_f f) (spell_f g))))

pub reads : (r : Rule) → Small r → (t : List ℕ) (ns : List Need) (k : Rule → Rest ns) (at : ℕ) → scan (spell r ++ t) (rule ∷ ns) k at ≡ scan t ns (k r) (at + length (spell r))
unfolding kind_of
reads (letter f) sm t ns k at = reads_f f sm t ns (λ g. k (letter g)) (at + 1) ∙ far t ns (k (letter f)) _ _ (omega arith)
reads empty sm t ns k at = refl
reads (again p a) sm t ns k at = rw (repeat_kind p) (reads a sm t ns (λ x. k (again p x)) (at + 1) ∙ far t ns (k (again p a)) _ _ (omega arith))
reads (two p a b) (u, v) t ns k at =
    rw (pair_kind p, append_assoc (spell a) (spell b) t)
    (reads a u (spell b ++ t) (rule ∷ ns) (λ x y. k (two p x y)) (at + 1) ∙ reads b v t ns (λ y. k (two p a y)) _ ∙ far t ns (k (two p a b)) _ _ (omega (arith, length-append (spell a) (spell b))))
reads (counted i j a) (c, sm) t ns k at = rw (fit_true i j c) (reads a sm t ns (λ x. k (counted i j x)) (at + 1 + 2) ∙ far t ns (k (counted i j a)) _ _ (omega arith))
reads (occurs i j f) (c, sm) t ns k at = rw (fit_true i j c) (reads_f f sm t ns (λ x. k (occurs i j x)) (at + 1 + 2) ∙ far t ns (k (occurs i j f)) _ _ (omega arith))

pub spelt_is_read : (r : Rule) → Small r → parse (spell r) ≡ good r
spelt_is_read r sm = ap parse (sym (append-nil (spell r))) ∙ reads r sm [] [] (λ x. x) 0

-- ---- what is read is spelt
abbrev Values : List Need → Type 0
Values [] = Unit {0}
Values (n ∷ ns) = Value n × Values ns

abbrev made : (ns : List Need) → Rest ns → Values ns → Rule
made [] k vs = k
made (n ∷ ns) k (v, vs) = made ns (k v) vs

abbrev spell_n : (n : Need) → Value n → List ℕ
spell_n rule r = spell r
spell_n formula f = spell_f f
spell_n body i = i ∷ []
spell_n counts c = c.0 ∷ c.1 ∷ []

abbrev SmallN : (n : Need) → Value n → Type 0
SmallN rule r = Small r
SmallN formula f = SmallF f
SmallN body i = i ≤ 5
SmallN counts c = CountsFit c.0 c.1

abbrev spells : (ns : List Need) → Values ns → List ℕ
spells [] vs = []
spells (n ∷ ns) (v, vs) = spell_n n v ++ spells ns vs

abbrev Smalls : (ns : List Need) → Values ns → Type 0
Smalls [] vs = Unit {0}
Smalls (n ∷ ns) (v, vs) = SmallN n v × Smalls ns vs

record Spelt (l : List ℕ) (ns : List Need) (k : Rest ns) (r : Rule) : Type 0 where
  vs : Values ns
  bytes : l ≡ spells ns vs
  makes : made ns k vs ≡ r
  small : Smalls ns vs

no_fault : (n p : ℕ) (r : Rule) → fault n p ≡ good r → ⊥
no_fault n p r q = let z : ◌≡◌ {A = ℕ} 0 1 = cc in omega arith

module _ (b : ℕ) (bs : List ℕ) (ih : (ns : List Need) (k : Rest ns) (at : ℕ) (r : Rule) → scan bs ns k at ≡ good r → Spelt bs ns k r) (ns : List Need) (at : ℕ) (r : Rule) where
  on_rule : (k : Rule → Rest ns) (κ : Kind) → kind_of b ≡ κ → take_rule κ (scan bs) ns k at ≡ good r → Spelt (b ∷ bs) (rule ∷ ns) k r
  on_rule k Unknown e q = absurd (no_fault _ _ _ q)
  on_rule k (OfFormula f) e q = absurd (no_fault _ _ _ q)
  on_rule k (OfRule Letter) e q =
      let i = ih (formula ∷ ns) (λ f. k (letter f)) (at + 1) r q in
      record { vs = (letter i.vs.0, i.vs.1); bytes = ap₂ ◌∷◌ (r_byte b Letter e) i.bytes; makes = i.makes; small = i.small }
  on_rule k (OfRule Empty) e q =
      let i = ih ns (k empty) (at + 1) r q in
      record { vs = (empty, i.vs); bytes = ap₂ ◌∷◌ (r_byte b Empty e) i.bytes; makes = i.makes; small = (tt, i.small) }
  on_rule k (OfRule (Again p)) e q =
      let i = ih (rule ∷ ns) (λ a. k (again p a)) (at + 1) r q in
      record { vs = (again p i.vs.0, i.vs.1); bytes = ap₂ ◌∷◌ (r_byte b (Again p) e) i.bytes; makes = i.makes; small = i.small }
  on_rule k (OfRule (Two p)) e q =
      let i = ih (rule ∷ rule ∷ ns) (λ x y. k (two p x y)) (at + 1) r q in
      record { vs = (two p i.vs.0 i.vs.1.0, i.vs.1.1); bytes = ap₂ ◌∷◌ (r_byte b (Two p) e) (i.bytes ∙ sym (append_assoc (spell i.vs.0) (spell i.vs.1.0) _)); makes = i.makes; small = ((i.small.0, i.small.1.0), i.small.1.1) }
  on_rule k (OfRule Counted) e q =
      let i = ih (counts ∷ rule ∷ ns) (λ c a. k (counted c.0 c.1 a)) (at + 1) r q in
      record { vs = (counted i.vs.0.0 i.vs.0.1 i.vs.1.0, i.vs.1.1); bytes = ap₂ ◌∷◌ (r_byte b Counted e) i.bytes; makes = i.makes; small = ((i.small.0, i.small.1.0), i.small.1.1) }
  on_rule k (OfRule Occurs) e q =
      let i = ih (counts ∷ formula ∷ ns) (λ c f. k (occurs c.0 c.1 f)) (at + 1) r q in
      record { vs = (occurs i.vs.0.0 i.vs.0.1 i.vs.1.0, i.vs.1.1); bytes = ap₂ ◌∷◌ (r_byte b Occurs e) i.bytes; makes = i.makes; small = ((i.small.0, i.small.1.0), i.small.1.1) }

  on_formula : (k : Formula → Rest ns) (κ : Kind) → kind_of b ≡ κ → take_formula κ (scan bs) ns k at ≡ good r → Spelt (b ∷ bs) (formula ∷ ns) k r
  on_formula k Unknown e q = absurd (no_fault _ _ _ q)
  on_formula k (OfRule f) e q = absurd (no_fault _ _ _ q)
  on_formula k (OfFormula Proposition) e q =
      let i = ih (body ∷ ns) (λ x. k (prop x)) (at + 1) r q in
      record { vs = (prop i.vs.0, i.vs.1); bytes = ap₂ ◌∷◌ (f_byte b Proposition e) i.bytes; makes = i.makes; small = i.small }
  on_formula k (OfFormula Truth) e q =
      let i = ih ns (k yea) (at + 1) r q in
      record { vs = (yea, i.vs); bytes = ap₂ ◌∷◌ (f_byte b Truth e) i.bytes; makes = i.makes; small = (tt, i.small) }
  on_formula k (OfFormula Falsity) e q =
      let i = ih ns (k nay) (at + 1) r q in
      record { vs = (nay, i.vs); bytes = ap₂ ◌∷◌ (f_byte b Falsity e) i.bytes; makes = i.makes; small = (tt, i.small) }
  on_formula k (OfFormula Not) e q =
      let i = ih (formula ∷ ns) (λ a. k (neg a)) (at + 1) r q in
      record { vs = (neg i.vs.0, i.vs.1); bytes = ap₂ ◌∷◌ (f_byte b Not e) i.bytes; makes = i.makes; small = i.small }
  on_formula k (OfFormula (Join j)) e q =
      let i = ih (formula ∷ formula ∷ ns) (λ x y. k (join j x y)) (at + 1) r q in
      record { vs = (join j i.vs.0 i.vs.1.0, i.vs.1.1); bytes = ap₂ ◌∷◌ (f_byte b (Join j) e) (i.bytes ∙ sym (append_assoc (spell_f i.vs.0) (spell_f i.vs.1.0) _)); makes = i.makes; small = ((i.small.0, i.small.1.0), i.small.1.1) }

  on_body : (k : ℕ → Rest ns) (t : Bool) → leb b 5 ≡ t → cond t (scan bs ns (k b) (at + 1)) (fault 5 at) ≡ good r → Spelt (b ∷ bs) (body ∷ ns) k r
  on_body k false e q = absurd (no_fault _ _ _ q)
  on_body k true e q =
      let i = ih ns (k b) (at + 1) r q in
      record { vs = (b, i.vs); bytes = ap (λ (t : List ℕ). b ∷ t) i.bytes; makes = i.makes; small = (leb-true b 5 e, i.small) }

  on_counts : (c : ℕ) (k : ℕ × ℕ → Rest ns) (t : Bool) → counts_do_fit b c ≡ t → cond t (scan bs ns (k (b, c)) (at + 2)) (fault 8 at) ≡ good r → Spelt (b ∷ c ∷ bs) (counts ∷ ns) k r
  on_counts c k false e q = absurd (no_fault _ _ _ q)
  on_counts c k true e q =
      let i = ih ns (k (b, c)) (at + 2) r q in
      record { vs = ((b, c), i.vs); bytes = ap (λ (t : List ℕ). b ∷ c ∷ t) i.bytes; makes = i.makes; small = (true_fit b c e, i.small) }

sound : (l : List ℕ) (ns : List Need) (k : Rest ns) (at : ℕ) (r : Rule) → scan l ns k at ≡ good r → Spelt l ns k r
sound [] [] k at r q = record { vs = tt; bytes = refl; makes = cc; small = tt }
sound [] (n ∷ ns) k at r q = absurd (no_fault _ _ _ q)
sound (b ∷ bs) [] k at r q = absurd (no_fault _ _ _ q)
sound (b ∷ bs) (rule ∷ ns) k at r q = on_rule b bs (sound bs) ns at r k (kind_of b) refl q
sound (b ∷ bs) (formula ∷ ns) k at r q = on_formula b bs (sound bs) ns at r k (kind_of b) refl q
sound (b ∷ bs) (body ∷ ns) k at r q = on_body b bs (sound bs) ns at r k (leb b 5) refl q
sound (b ∷ []) (counts ∷ ns) k at r q = absurd (no_fault _ _ _ q)
sound (b ∷ c ∷ bs) (counts ∷ ns) k at r q = on_counts b bs (sound bs) ns at r c k (counts_do_fit b c) refl q

-- accepted bytes are exactly the spellings
pub read_is_spelt : (s : List ℕ) (r : Rule) → parse s ≡ good r → (spell r ≡ s) × Small r
read_is_spelt s r q =
    let i = sound s (rule ∷ []) (λ x. x) 0 r q in
    let m : i.vs.0 ≡ r = i.makes in
    (sym (i.bytes ∙ append-nil (spell i.vs.0) ∙ ap spell m), subst Small m i.small.0)
