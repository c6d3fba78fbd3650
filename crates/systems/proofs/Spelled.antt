-- The bytes that are read as a system are its spelling, and the spelling of a system is read as it. Assumes nothing.
use Prim.Native.Nat.{ℕ, ◌+◌, ◌-◌, ◌≤◌, ◌<◌}
use native.Mathlib.Omega.{arith}
use native.Mathlib.Decide.{dec_lt}
use mathlib.Core.Path.{◌≡◌, refl, sym, ap, ap₂, subst, ◌∙◌}
use mathlib.Core.Bool.{Bool, true, false, cond}
use mathlib.Core.List.{List, [], ◌∷◌, ◌++◌, append_assoc, append-nil}
use lib.Dec.{eqb, leb}
use lib.ListN.{length, length-append}
use borrow.Author.Tests.{eqb-true, le-leb, lt-leb, leb-true}
use Rattle.definitions.specs.declared.kinds.Junction.{Junction}
use Rattle.definitions.specs.declared.kinds.Junction.TheVariants.{And, Or}
use Rattle.definitions.specs.declared.kinds.FormulaKind.{FormulaKind}
use Rattle.definitions.specs.declared.kinds.FormulaKind.TheVariants.{Proposition, Truth, Falsity, Not, Join}
use Rattle.definitions.specs.declared.kinds.Kind as rules-kind
use Rattle.definitions.specs.declared.kinds.Kind.TheVariants.{OfFormula, OfRule, Unknown}
use Rattle.definitions.specs.Kinds as rules
use Rattle.definitions.specs.Definition1.{Formula, prop, yea, nay, neg, join}
use Rattle.definitions.specs.Encoding.{junction_byte}
use Rattle.systems.specs.declared.kinds.SystemKind.{SystemKind}
use Rattle.systems.specs.declared.kinds.SystemKind.TheVariants.{Plain, Next, Elsewhere, Nothing}
use Rattle.systems.specs.Kinds.{initial_mark, step_mark, next_kind, of_rules_of, kind_of}
use Rattle.systems.specs.Reading.{last_variable, variable_count, Outcome, good, fault, Need, mark, formula, body, Value, Rest, scan, misplaced, take_formula, parts, parse}
use Rattle.systems.specs.Spelling.{last_named, spell_variable, spell_f, SmallF, spell, Spells}

-- ---- the byte of a kind

abbrev plain_byte : FormulaKind → ℕ
plain_byte Proposition = 0x01
plain_byte Truth = 0x02
plain_byte Falsity = 0x03
plain_byte Not = 0x04
plain_byte (Join j) = junction_byte j

-- a row of the rules' table that says a formula's kind has that kind's byte
abbrev RowFits : rules-kind.Kind → ℕ → Type 0
RowFits (OfFormula k) b = b ≡ plain_byte k
RowFits (OfRule k) b = Unit {0}
RowFits Unknown b = Unit {0}

abbrev RowsFit : List rules.Row → Type 0
RowsFit [] = Unit {0}
RowsFit (r ∷ rs) = RowFits r.says r.byte × RowsFit rs

row_found : (rs : List rules.Row) → RowsFit rs → (b : ℕ) → RowFits (rules.lookup rs b) b
row_found [] ok b = tt
row_found (r ∷ rs) (p, ok) b = go (eqb b r.byte) refl (row_found rs ok b)
  where
    go : (t : Bool) → eqb b r.byte ≡ t → RowFits (rules.lookup rs b) b → RowFits (cond t r.says (rules.lookup rs b)) b
    go true e o = subst (RowFits r.says) (sym (eqb-true b r.byte e)) p
    go false e o = o

rows_fit : RowsFit rules.table
rows_fit = (refl, (refl, (refl, (refl, (refl, (refl, (tt, (tt, (tt, (tt, (tt, (tt, (tt, (tt, (tt, (tt, (tt, tt)))))))))))))))))

abbrev KindFits : SystemKind → ℕ → Type 0
KindFits (Plain k) b = b ≡ plain_byte k
KindFits Next b = b ≡ next_kind
KindFits Elsewhere b = Unit {0}
KindFits Nothing b = Unit {0}

of_rules_fit : (κ : rules-kind.Kind) (b : ℕ) → RowFits κ b → KindFits (of_rules_of κ) b
of_rules_fit (OfFormula k) b p = p
of_rules_fit (OfRule k) b p = tt
of_rules_fit Unknown b p = tt

kind_fits : (b : ℕ) → KindFits (kind_of b) b
unfolding kind_of rules.kind_of
kind_fits b = go (eqb b next_kind) refl (eqb b initial_mark) (eqb b step_mark)
  where
    go : (t : Bool) → eqb b next_kind ≡ t → (u v : Bool) → KindFits (cond t Next (cond u Elsewhere (cond v Elsewhere (of_rules_of (rules.lookup rules.table b))))) b
    go true e u v = eqb-true b next_kind e
    go false e true v = tt
    go false e false true = tt
    go false e false false = of_rules_fit (rules.lookup rules.table b) b (row_found rules.table rows_fit b)

plain_byte_lem : (b : ℕ) (k : FormulaKind) → kind_of b ≡ Plain k → b ≡ plain_byte k
plain_byte_lem b k q = subst (λ (κ : SystemKind). KindFits κ b) q (kind_fits b)

next_byte : (b : ℕ) → kind_of b ≡ Next → b ≡ next_kind
next_byte b q = subst (λ (κ : SystemKind). KindFits κ b) q (kind_fits b)

-- ---- the spelling is read as the system

pub junction_kind : (j : Junction) → kind_of (junction_byte j) ≡ Plain (Join j)
unfolding kind_of rules.kind_of
junction_kind And = refl
junction_kind Or = refl

-- a variable of this state, and one of the next
pub spell_now : (i : ℕ) → i ≤ last_variable → spell_variable i ≡ 0x01 ∷ i ∷ []
spell_now i h = rw (le-leb i last_variable h)

pub spell_next : (i : ℕ) → spell_variable (variable_count + i) ≡ next_kind ∷ i ∷ []
spell_next i =
    let h : last_variable < variable_count + i = omega arith in
    let e : variable_count + i - variable_count ≡ i = omega arith in
    rw (lt-leb (variable_count + i) last_variable h, e)

far : (l : List ℕ) (ns : List Need) (k : Rest ns) (m n : ℕ) → m ≡ n → scan l ns k m ≡ scan l ns k n
far l ns k m n q = ap (λ (j : ℕ). scan l ns k j) q

module _ (t : List ℕ) (ns : List Need) where
  reads_now : (next : Bool) (i : ℕ) → i ≤ last_variable → (k : Formula → Rest ns) (at : ℕ) → scan ((0x01 ∷ i ∷ []) ++ t) (formula next ∷ ns) k at ≡ scan t ns (k (prop i)) (at + 2)
  unfolding kind_of rules.kind_of
  reads_now next i h k at = rw (le-leb i last_variable h) (far t ns (k (prop i)) (at + 1 + 1) (at + 2) (omega arith))

  reads_next : (i : ℕ) → i ≤ last_variable → (k : Formula → Rest ns) (at : ℕ) → scan ((next_kind ∷ i ∷ []) ++ t) (formula true ∷ ns) k at ≡ scan t ns (k (prop (variable_count + i))) (at + 2)
  unfolding kind_of rules.kind_of
  reads_next i h k at = rw (le-leb i last_variable h) (far t ns (k (prop (variable_count + i))) (at + 1 + 1) (at + 2) (omega arith))

  reads_variable : (next : Bool) (i : ℕ) → i ≤ last_named next → (k : Formula → Rest ns) (at : ℕ) → scan (spell_variable i ++ t) (formula next ∷ ns) k at ≡ scan t ns (k (prop i)) (at + length (spell_variable i))
  reads_variable next i h k at = go next h (dec_lt last_variable i)
    where
      go : (next : Bool) → i ≤ last_named next → Dec (last_variable < i) → scan (spell_variable i ++ t) (formula next ∷ ns) k at ≡ scan t ns (k (prop i)) (at + length (spell_variable i))
      go next h (no l) = let o : i ≤ last_variable = omega arith in rw (spell_now i o) (reads_now next i o k at)
      go false h (yes l) = absurd (omega arith)
      go true h (yes l) =
          let e : variable_count + (i - variable_count) ≡ i = omega arith in
          let o : i - variable_count ≤ last_variable = omega arith in
          subst (λ (j : ℕ). scan (spell_variable j ++ t) (formula true ∷ ns) k at ≡ scan t ns (k (prop j)) (at + length (spell_variable j))) e
          (rw (spell_next (i - variable_count)) (reads_next (i - variable_count) o k at))

pub reads_f : (next : Bool) (f : Formula) → SmallF next f → (t : List ℕ) (ns : List Need) (k : Formula → Rest ns) (at : ℕ) → scan (spell_f f ++ t) (formula next ∷ ns) k at ≡ scan t ns (k f) (at + length (spell_f f))
unfolding kind_of rules.kind_of
reads_f next (prop i) sm t ns k at = reads_variable t ns next i sm k at
reads_f next yea sm t ns k at = refl
reads_f next nay sm t ns k at = refl
reads_f next (neg f) sm t ns k at = reads_f next f sm t ns (λ g. k (neg g)) (at + 1) ∙ far t ns (k (neg f)) _ _ (omega arith)
reads_f next (join j f g) (u, v) t ns k at =
    rw (junction_kind j, append_assoc (spell_f f) (spell_f g) t)
    (reads_f next f u (spell_f g ++ t) (formula next ∷ ns) (λ a b. k (join j a b)) (at + 1) ∙ reads_f next g v t ns (λ b. k (join j f b)) _ ∙ far t ns (k (join j f g)) _ _ (omega (arith, length-append (spell_f f) (spell_f g))))

-- also where more bytes come after it
pub reads : (f g : Formula) → SmallF false f → SmallF true g → (t : List ℕ) → parse (spell f g ++ t) ≡ scan t [] (good f g) (length (spell f g))
reads f g u v t =
    let e = length-append (spell_f f) (step_mark ∷ spell_f g) in
    let n : 1 + length (spell_f f) + 1 + length (spell_f g) ≡ length (spell f g) = omega arith in
    ap (λ (l : List ℕ). scan (initial_mark ∷ l) parts (λ i f m g. good f g) 0) (append_assoc (spell_f f) (step_mark ∷ spell_f g) t)
    ∙ reads_f false f u (step_mark ∷ (spell_f g ++ t)) (mark step_mark ∷ formula true ∷ []) (λ f m g. good f g) 1
    ∙ reads_f true g v t [] (λ g. good f g) (1 + length (spell_f f) + 1)
    ∙ far t [] (good f g) _ _ n

pub spelt_is_read : (f g : Formula) → SmallF false f → SmallF true g → parse (spell f g) ≡ good f g
spelt_is_read f g u v = ap parse (sym (append-nil (spell f g))) ∙ reads f g u v []

-- ---- what is read is spelt
abbrev Values : List Need → Type 0
Values [] = Unit {0}
Values (n ∷ ns) = Value n × Values ns

abbrev made : (ns : List Need) → Rest ns → Values ns → Outcome
made [] k vs = k
made (n ∷ ns) k (v, vs) = made ns (k v) vs

abbrev spell_n : (n : Need) → Value n → List ℕ
spell_n (mark m) v = m ∷ []
spell_n (formula next) f = spell_f f
spell_n body i = i ∷ []

abbrev SmallN : (n : Need) → Value n → Type 0
SmallN (mark m) v = Unit {0}
SmallN (formula next) f = SmallF next f
SmallN body i = i ≤ last_variable

abbrev spells : (ns : List Need) → Values ns → List ℕ
spells [] vs = []
spells (n ∷ ns) (v, vs) = spell_n n v ++ spells ns vs

abbrev Smalls : (ns : List Need) → Values ns → Type 0
Smalls [] vs = Unit {0}
Smalls (n ∷ ns) (v, vs) = SmallN n v × Smalls ns vs

record Spelt (l : List ℕ) (ns : List Need) (k : Rest ns) (f g : Formula) : Type 0 where
  vs : Values ns
  bytes : l ≡ spells ns vs
  makes : made ns k vs ≡ good f g
  small : Smalls ns vs

no_fault : (n p : ℕ) (f g : Formula) → fault n p ≡ good f g → ⊥
no_fault n p f g q = let z : ◌≡◌ {A = ℕ} 0 1 = cc in omega arith

no_misplaced : (κ : SystemKind) (at : ℕ) (f g : Formula) → misplaced κ at ≡ good f g → ⊥
no_misplaced (Plain k) at f g q = no_fault _ _ f g q
no_misplaced Next at f g q = no_fault _ _ f g q
no_misplaced Elsewhere at f g q = no_fault _ _ f g q
no_misplaced Nothing at f g q = no_fault _ _ f g q

now_small : (next : Bool) (i : ℕ) → i ≤ last_variable → i ≤ last_named next
now_small true i h = omega arith
now_small false i h = h

module _ (b : ℕ) (bs : List ℕ) (f g : Formula) (ih : (ns : List Need) (k : Rest ns) (at : ℕ) → scan bs ns k at ≡ good f g → Spelt bs ns k f g) (ns : List Need) (at : ℕ) where
  on_mark : (m : ℕ) (k : Unit {0} → Rest ns) (t : Bool) → eqb b m ≡ t → cond t (scan bs ns (k tt) (at + 1)) (misplaced (kind_of b) at) ≡ good f g → Spelt (b ∷ bs) (mark m ∷ ns) k f g
  on_mark m k false e q = absurd (no_misplaced (kind_of b) at f g q)
  on_mark m k true e q =
      let i = ih ns (k tt) (at + 1) q in
      record { vs = (tt, i.vs); bytes = ap₂ ◌∷◌ (eqb-true b m e) i.bytes; makes = i.makes; small = (tt, i.small) }

  on_formula : (next : Bool) (k : Formula → Rest ns) (κ : SystemKind) → kind_of b ≡ κ → take_formula κ next (scan bs) ns k at ≡ good f g → Spelt (b ∷ bs) (formula next ∷ ns) k f g
  on_formula next k Nothing e q = absurd (no_fault _ _ _ _ q)
  on_formula next k Elsewhere e q = absurd (no_fault _ _ _ _ q)
  on_formula false k Next e q = absurd (no_fault _ _ _ _ q)
  on_formula true k Next e q =
      let i = ih (body ∷ ns) (λ x. k (prop (variable_count + x))) (at + 1) q in
      let h = i.small.0 in
      record { vs = (prop (variable_count + i.vs.0), i.vs.1); bytes = ap₂ ◌∷◌ (next_byte b e) i.bytes ∙ ap (λ (l : List ℕ). l ++ spells ns i.vs.1) (sym (spell_next i.vs.0)); makes = i.makes; small = (omega arith, i.small.1) }
  on_formula next k (Plain Proposition) e q =
      let i = ih (body ∷ ns) (λ x. k (prop x)) (at + 1) q in
      record { vs = (prop i.vs.0, i.vs.1); bytes = ap₂ ◌∷◌ (plain_byte_lem b Proposition e) i.bytes ∙ ap (λ (l : List ℕ). l ++ spells ns i.vs.1) (sym (spell_now i.vs.0 i.small.0)); makes = i.makes; small = (now_small next _ i.small.0, i.small.1) }
  on_formula next k (Plain Truth) e q =
      let i = ih ns (k yea) (at + 1) q in
      record { vs = (yea, i.vs); bytes = ap₂ ◌∷◌ (plain_byte_lem b Truth e) i.bytes; makes = i.makes; small = (tt, i.small) }
  on_formula next k (Plain Falsity) e q =
      let i = ih ns (k nay) (at + 1) q in
      record { vs = (nay, i.vs); bytes = ap₂ ◌∷◌ (plain_byte_lem b Falsity e) i.bytes; makes = i.makes; small = (tt, i.small) }
  on_formula next k (Plain Not) e q =
      let i = ih (formula next ∷ ns) (λ a. k (neg a)) (at + 1) q in
      record { vs = (neg i.vs.0, i.vs.1); bytes = ap₂ ◌∷◌ (plain_byte_lem b Not e) i.bytes; makes = i.makes; small = i.small }
  on_formula next k (Plain (Join j)) e q =
      let i = ih (formula next ∷ formula next ∷ ns) (λ x y. k (join j x y)) (at + 1) q in
      record { vs = (join j i.vs.0 i.vs.1.0, i.vs.1.1); bytes = ap₂ ◌∷◌ (plain_byte_lem b (Join j) e) (i.bytes ∙ sym (append_assoc (spell_f i.vs.0) (spell_f i.vs.1.0) _)); makes = i.makes; small = ((i.small.0, i.small.1.0), i.small.1.1) }

  on_body : (k : ℕ → Rest ns) (t : Bool) → leb b last_variable ≡ t → cond t (scan bs ns (k b) (at + 1)) (fault 5 at) ≡ good f g → Spelt (b ∷ bs) (body ∷ ns) k f g
  on_body k false e q = absurd (no_fault _ _ _ _ q)
  on_body k true e q =
      let i = ih ns (k b) (at + 1) q in
      record { vs = (b, i.vs); bytes = ap (λ (t : List ℕ). b ∷ t) i.bytes; makes = i.makes; small = (leb-true b last_variable e, i.small) }

sound : (f g : Formula) (l : List ℕ) (ns : List Need) (k : Rest ns) (at : ℕ) → scan l ns k at ≡ good f g → Spelt l ns k f g
sound f g [] [] k at q = record { vs = tt; bytes = refl; makes = q; small = tt }
sound f g [] (n ∷ ns) k at q = absurd (no_fault _ _ _ _ q)
sound f g (b ∷ bs) [] k at q = absurd (no_fault _ _ _ _ q)
sound f g (b ∷ bs) (mark m ∷ ns) k at q = on_mark b bs f g (sound f g bs) ns at m k (eqb b m) refl q
sound f g (b ∷ bs) (formula next ∷ ns) k at q = on_formula b bs f g (sound f g bs) ns at next k (kind_of b) refl q
sound f g (b ∷ bs) (body ∷ ns) k at q = on_body b bs f g (sound f g bs) ns at k (leb b last_variable) refl q

-- accepted bytes are exactly the spellings
pub read_is_spelt : (s : List ℕ) (f g : Formula) → parse s ≡ good f g → Spells s f g
read_is_spelt s f g q =
    let i = sound f g s parts (λ i f m g. good f g) 0 q in
    let m = i.makes in
    let u : i.vs.1.0 ≡ f = cc in
    let v : i.vs.1.1.1.0 ≡ g = cc in
    record {
      whole = i.bytes ∙ ap₂ (λ (a b : Formula). initial_mark ∷ (spell_f a ++ (step_mark ∷ (spell_f b ++ [])))) u v ∙ ap (λ (l : List ℕ). initial_mark ∷ (spell_f f ++ (step_mark ∷ l))) (append-nil (spell_f g));
      small_first = subst (SmallF false) u i.small.1.0;
      small_step = subst (SmallF true) v i.small.1.1.1.0;
    }
