-- Where reading a system stops: the bytes before the place can be completed to a system, and with the byte at the place they cannot. So each refusal is given exactly where
-- `SystemFault` says, and at most one line of it fits. Assumes nothing.
use Prim.Native.Nat.{ℕ, suc, ◌+◌, ◌≤◌, ◌<◌}
use native.Mathlib.Decide.{dec_lt}
use native.Mathlib.Omega.{arith}
use mathlib.Core.Path.{◌≡◌, refl, sym, ap, subst, ◌∙◌}
use mathlib.Core.Bool.{Bool, true, false, cond}
use mathlib.Core.List.{List, [], ◌∷◌, ◌++◌, append_assoc, append-nil}
use lib.Dec.{eqb, leb, ltb}
use lib.ListN.{length, get_or, take, drop, length-drop, take-append-drop}
use lib.Seq.{take_all, take-add, take-take, get_or-drop, length-take-le, split_at}
use borrow.Author.Tests.{lt-ltb, le-ltb, lt-leb, leb-false, ltb-true, ltb-false, eq-eqb, ne_eqb, eqb-false}
use Rattle.definitions.specs.declared.kinds.FormulaKind.TheVariants.{Proposition, Truth, Falsity, Not, Join}
use Rattle.definitions.specs.Kinds as rules
use Rattle.definitions.specs.Definition1.{Formula, prop, yea, nay, neg, join}
use Rattle.systems.specs.declared.kinds.SystemKind.{SystemKind}
use Rattle.systems.specs.declared.kinds.SystemKind.TheVariants.{Plain, Next, Elsewhere, Nothing}
use Rattle.systems.specs.Kinds.{kind_of}
use Rattle.systems.specs.Reading.{last_variable, variable_count, Outcome, good, fault, Need, mark, formula, body, Rest, scan, misplaced, take_formula, parts, parse}
use Rattle.systems.specs.Spelling.{Spells}
use Rattle.systems.specs.Answer.{refused, placed, answer}
use Rattle.systems.specs.Faults.{Whole, Begins, StopsAt, Wrong, unknown_kind, wrong_sort, no_proposition, SystemFault, too_long, ended, stopped, left_over}
use Rattle.systems.proofs.Spelled.{reads, spelt_is_read, read_is_spelt}

no_good : {n p : ℕ} {f g : Formula} → fault n p ≡ good f g → ⊥
no_good q = let z : ◌≡◌ {A = ℕ} 0 1 = cc in omega arith

-- ---- where reading stops

-- with these needs and these bytes left, reading stops, and says this number
data Stop : List Need → List ℕ → ℕ → Type 0 where
  at_end : {m : Need} {ns : List Need} → Stop (m ∷ ns) [] 2
  over : {b : ℕ} {bs : List ℕ} → Stop [] (b ∷ bs) 6
  no_mark : {m : ℕ} {ns : List Need} {b : ℕ} {bs : List ℕ} → (b ≡ m → ⊥) → kind_of b ≡ Nothing → Stop (mark m ∷ ns) (b ∷ bs) 3
  other_mark : {m : ℕ} {ns : List Need} {b : ℕ} {bs : List ℕ} → (b ≡ m → ⊥) → (kind_of b ≡ Nothing → ⊥) → Stop (mark m ∷ ns) (b ∷ bs) 4
  no_formula : {x : Bool} {ns : List Need} {b : ℕ} {bs : List ℕ} → kind_of b ≡ Nothing → Stop (formula x ∷ ns) (b ∷ bs) 3
  elsewhere : {x : Bool} {ns : List Need} {b : ℕ} {bs : List ℕ} → kind_of b ≡ Elsewhere → Stop (formula x ∷ ns) (b ∷ bs) 4
  no_next : {x : Bool} {ns : List Need} {b : ℕ} {bs : List ℕ} → x ≡ false → kind_of b ≡ Next → Stop (formula x ∷ ns) (b ∷ bs) 4
  too_large : {ns : List Need} {b : ℕ} {bs : List ℕ} → 5 < b → Stop (body ∷ ns) (b ∷ bs) 5

-- no mark that is needed is 0, and whatever values come, two formulas are made of them
abbrev Fine : (ns : List Need) → Rest ns → Type 0
Fine [] k = (f : Formula) × (g : Formula) × (k ≡ good f g)
Fine (mark m ∷ ns) k = (m ≡ 0 → ⊥) × Fine ns (k tt)
Fine (formula x ∷ ns) k = (f : Formula) → Fine ns (k f)
Fine (body ∷ ns) k = (i : ℕ) → Fine ns (k i)

-- reading l gets over its first i bytes, whatever comes after them, and stops there
record Reached (l : List ℕ) (ns : List Need) (k : Rest ns) (at n p : ℕ) : Type 0 where
  i : ℕ
  inside : i ≤ length l
  here : p ≡ at + i
  needs : List Need
  made : Rest needs
  left : List ℕ
  left_is : drop i l ≡ left
  on : (rest : List ℕ) → scan (take i l ++ rest) ns k at ≡ scan rest needs made p
  fine : Fine needs made
  stop : Stop needs left n

at_once : (l : List ℕ) (ns : List Need) (k : Rest ns) (at n p m : ℕ) → Fine ns k → Stop ns l m → fault m at ≡ fault n p → Reached l ns k at n p
at_once l ns k at n p m o x e =
    let a : m ≡ n = cc in
    let b : at ≡ p = cc in
    record {
      i = 0;
      inside = omega arith;
      here = omega arith;
      needs = ns;
      made = k;
      left = l;
      left_is = refl;
      on = λ rest. ap (λ (j : ℕ). scan rest ns k j) b;
      fine = o;
      stop = subst (Stop ns l) a x;
    }

module _ (b : ℕ) (bs : List ℕ) (ih : (ns : List Need) (k : Rest ns) (at n p : ℕ) → Fine ns k → scan bs ns k at ≡ fault n p → Reached bs ns k at n p) (ns : List Need) (at n p : ℕ) where
  later : (m : Need) (k : Rest (m ∷ ns)) (ns' : List Need) (k' : Rest ns') → Fine ns' k' → ((l : List ℕ) → scan (b ∷ l) (m ∷ ns) k at ≡ scan l ns' k' (at + 1)) → scan bs ns' k' (at + 1) ≡ fault n p
      → Reached (b ∷ bs) (m ∷ ns) k at n p
  later m k ns' k' o step q =
      let x = ih ns' k' (at + 1) n p o q in
      record {
        i = suc x.i;
        inside = omega (arith, x.inside);
        here = omega (arith, x.here);
        needs = x.needs;
        made = x.made;
        left = x.left;
        left_is = x.left_is;
        on = λ rest. step (take x.i bs ++ rest) ∙ x.on rest;
        fine = x.fine;
        stop = x.stop;
      }

  on_mark : (m : ℕ) (k : Unit {0} → Rest ns) → Fine (mark m ∷ ns) k → (t : Bool) → eqb b m ≡ t → cond t (scan bs ns (k tt) (at + 1)) (misplaced (kind_of b) at) ≡ fault n p → Reached (b ∷ bs) (mark m ∷ ns) k at n p
  on_mark m k o true e q = later (mark m) k ns (k tt) o.1 (λ l. ap (λ (t : Bool). cond t (scan l ns (k tt) (at + 1)) (misplaced (kind_of b) at)) e) q
  on_mark m k o false e q = go (kind_of b) refl q
    where
      ne : b ≡ m → ⊥
      ne = eqb-false b m e

      go : (κ : SystemKind) → kind_of b ≡ κ → misplaced κ at ≡ fault n p → Reached (b ∷ bs) (mark m ∷ ns) k at n p
      go Nothing u z = at_once (b ∷ bs) (mark m ∷ ns) k at n p 3 o (no_mark ne u) z
      go (Plain f) u z = at_once (b ∷ bs) (mark m ∷ ns) k at n p 4 o (other_mark ne (λ y. let w : ◌≡◌ {A = ℕ} 0 1 = cc in omega arith)) z
      go Next u z = at_once (b ∷ bs) (mark m ∷ ns) k at n p 4 o (other_mark ne (λ y. let w : ◌≡◌ {A = ℕ} 0 1 = cc in omega arith)) z
      go Elsewhere u z = at_once (b ∷ bs) (mark m ∷ ns) k at n p 4 o (other_mark ne (λ y. let w : ◌≡◌ {A = ℕ} 0 1 = cc in omega arith)) z

  on_formula : (x : Bool) (k : Formula → Rest ns) → Fine (formula x ∷ ns) k → (κ : SystemKind) → kind_of b ≡ κ → take_formula κ x (scan bs) ns k at ≡ fault n p → Reached (b ∷ bs) (formula x ∷ ns) k at n p
  on_formula x k o Nothing e q = at_once (b ∷ bs) (formula x ∷ ns) k at n p 3 o (no_formula e) q
  on_formula x k o Elsewhere e q = at_once (b ∷ bs) (formula x ∷ ns) k at n p 4 o (elsewhere e) q
  on_formula false k o Next e q = at_once (b ∷ bs) (formula false ∷ ns) k at n p 4 o (no_next refl e) q
  on_formula true k o Next e q = later (formula true) k (body ∷ ns) (λ i. k (prop (variable_count + i))) (λ i. o (prop (variable_count + i))) (λ l. ap (λ (κ : SystemKind). take_formula κ true (scan l) ns k at) e) q
  on_formula x k o (Plain Proposition) e q = later (formula x) k (body ∷ ns) (λ i. k (prop i)) (λ i. o (prop i)) (λ l. ap (λ (κ : SystemKind). take_formula κ x (scan l) ns k at) e) q
  on_formula x k o (Plain Truth) e q = later (formula x) k ns (k yea) (o yea) (λ l. ap (λ (κ : SystemKind). take_formula κ x (scan l) ns k at) e) q
  on_formula x k o (Plain Falsity) e q = later (formula x) k ns (k nay) (o nay) (λ l. ap (λ (κ : SystemKind). take_formula κ x (scan l) ns k at) e) q
  on_formula x k o (Plain Not) e q = later (formula x) k (formula x ∷ ns) (λ f. k (neg f)) (λ f. o (neg f)) (λ l. ap (λ (κ : SystemKind). take_formula κ x (scan l) ns k at) e) q
  on_formula x k o (Plain (Join j)) e q = later (formula x) k (formula x ∷ formula x ∷ ns) (λ f g. k (join j f g)) (λ f g. o (join j f g)) (λ l. ap (λ (κ : SystemKind). take_formula κ x (scan l) ns k at) e) q

  on_body : (k : ℕ → Rest ns) → Fine (body ∷ ns) k → (t : Bool) → leb b last_variable ≡ t → cond t (scan bs ns (k b) (at + 1)) (fault 5 at) ≡ fault n p → Reached (b ∷ bs) (body ∷ ns) k at n p
  on_body k o true e q = later body k ns (k b) (o b) (λ l. ap (λ (t : Bool). cond t (scan l ns (k b) (at + 1)) (fault 5 at)) e) q
  on_body k o false e q = at_once (b ∷ bs) (body ∷ ns) k at n p 5 o (too_large (leb-false b last_variable e)) q

reached : (l : List ℕ) (ns : List Need) (k : Rest ns) (at n p : ℕ) → Fine ns k → scan l ns k at ≡ fault n p → Reached l ns k at n p
reached [] [] k at n p o q = absurd (no_good (sym q ∙ o.2))
reached [] (m ∷ ns) k at n p o q = at_once [] (m ∷ ns) k at n p 2 o at_end q
reached (b ∷ bs) [] k at n p o q = at_once (b ∷ bs) [] k at n p 6 o over q
reached (b ∷ bs) (mark m ∷ ns) k at n p o q = on_mark b bs (reached bs) ns at n p m k o (eqb b m) refl q
reached (b ∷ bs) (formula x ∷ ns) k at n p o q = on_formula b bs (reached bs) ns at n p x k o (kind_of b) refl q
reached (b ∷ bs) (body ∷ ns) k at n p o q = on_body b bs (reached bs) ns at n p k o (leb b last_variable) refl q

-- ---- what is needed can always be supplied

abbrev fill : List Need → List ℕ
fill [] = []
fill (mark m ∷ ns) = m ∷ fill ns
fill (formula x ∷ ns) = 0x02 ∷ fill ns
fill (body ∷ ns) = 0 ∷ fill ns

filled : (ns : List Need) (k : Rest ns) (at : ℕ) → Fine ns k → (f : Formula) × (g : Formula) × (scan (fill ns) ns k at ≡ good f g)
unfolding kind_of rules.kind_of
filled [] k at o = o
filled (mark m ∷ ns) k at o = rw (eq-eqb m m refl) (filled ns (k tt) (at + 1) o.1)
filled (formula x ∷ ns) k at o = filled ns (k yea) (at + 1) (o yea)
filled (body ∷ ns) k at o = filled ns (k 0) (at + 1) (o 0)

-- ---- beginnings of systems

whole_of : (b : List ℕ) (f g : Formula) → parse b ≡ good f g → Whole b
whole_of b f g q = record { first = f; step = g; spelt = read_is_spelt b f g q }

read_begins : (b rest : List ℕ) (f g : Formula) → parse (b ++ rest) ≡ good f g → Begins b
read_begins b rest f g q = record { first = f; step = g; rest = rest; spelt = read_is_spelt (b ++ rest) f g q }

spelt_read : {b : List ℕ} {f g : Formula} → Spells b f g → parse b ≡ good f g
spelt_read {b} {f} {g} x = ap parse x.whole ∙ spelt_is_read f g x.small_first x.small_step

whole_begins : {b : List ℕ} → Whole b → Begins b
whole_begins {b} x = record { first = x.first; step = x.step; rest = []; spelt = subst (λ (l : List ℕ). Spells l x.first x.step) (sym (append-nil b)) x.spelt }

shorter : (a b : List ℕ) → Begins (a ++ b) → Begins a
shorter a b x = record { first = x.first; step = x.step; rest = b ++ x.rest; spelt = subst (λ (l : List ℕ). Spells l x.first x.step) (append_assoc a b x.rest) x.spelt }

take_shorter : (s : List ℕ) (i j : ℕ) → i ≤ j → Begins (take j s) → Begins (take i s)
take_shorter s i j l x =
    let e : take i s ++ drop i (take j s) ≡ take j s = ap (λ (t : List ℕ). t ++ drop i (take j s)) (sym (take-take i j s l)) ∙ take-append-drop i (take j s) in
    shorter (take i s) (drop i (take j s)) (subst Begins (sym e) x)

whole_shorter : (s : List ℕ) (i : ℕ) → Begins s → Begins (take i s)
whole_shorter s i x = shorter (take i s) (drop i s) (subst Begins (sym (take-append-drop i s)) x)

-- after a whole system nothing goes on
after_whole : {b : List ℕ} (w : Whole b) (x : ℕ) (c : List ℕ) → parse (b ++ (x ∷ c)) ≡ fault 6 (length b)
after_whole {b} w x c =
    let e = w.spelt.whole in
    ap (λ (l : List ℕ). parse (l ++ (x ∷ c))) e ∙ reads w.first w.step w.spelt.small_first w.spelt.small_step (x ∷ c) ∙ ap (λ (l : List ℕ). fault 6 (length l)) (sym e)

goes_on : (b c : List ℕ) (x : ℕ) → Whole b → Begins (b ++ (x ∷ c)) → ⊥
goes_on b c x w y = no_good (sym (after_whole w x (c ++ y.rest)) ∙ ap parse (sym (append_assoc b (x ∷ c) y.rest)) ∙ spelt_read y.spelt)

-- ---- each refusal is as the table says

-- the byte that stands at p
record Byte (s : List ℕ) (p b : ℕ) : Type 0 where
  inside : p < length s
  byte : get_or s p 0 ≡ b
  taken : take (p + 1) s ≡ take p s ++ (b ∷ [])

byte_at : (s : List ℕ) (p b : ℕ) (bs : List ℕ) → drop p s ≡ b ∷ bs → Byte s p b
byte_at s p b bs e =
    let l = ap length e in
    record {
      inside = omega (arith, length-drop p s);
      byte = let z : p + 0 ≡ p = omega arith in ap (λ (j : ℕ). get_or s j 0) (sym z) ∙ sym (get_or-drop p s 0 0) ∙ ap (λ (t : List ℕ). get_or t 0 0) e;
      taken = take-add p 1 s ∙ ap (λ (t : List ℕ). take p s ++ take 1 t) e;
    }

module _ (s : List ℕ) (p : ℕ) (needs : List Need) (made : Rest needs) (fine : Fine needs made) (on : (rest : List ℕ) → parse (take p s ++ rest) ≡ scan rest needs made p) where
  before : Begins (take p s)
  before = let x = filled needs made p fine in read_begins (take p s) (fill needs) x.0 x.1 (on (fill needs) ∙ x.2)

  -- a byte after which nothing is good
  bad_byte : (b : ℕ) → ((rest : List ℕ) (f g : Formula) → scan (b ∷ rest) needs made p ≡ good f g → ⊥) → Begins (take p s ++ (b ∷ [])) → ⊥
  bad_byte b h x = h x.rest x.first x.step (sym (on (b ∷ x.rest)) ∙ ap parse (sym (append_assoc (take p s) (b ∷ []) x.rest)) ∙ spelt_read x.spelt)

  stops : (b : ℕ) → Byte s p b → ((rest : List ℕ) (f g : Formula) → scan (b ∷ rest) needs made p ≡ good f g → ⊥) → ((f g : Formula) → scan [] needs made p ≡ good f g → ⊥) → StopsAt s p
  stops b x h e = record {
    inside = x.inside;
    before = before;
    unfinished = λ w. e w.first w.step (sym (on []) ∙ ap parse (append-nil (take p s)) ∙ spelt_read w.spelt);
    no_further = λ y. bad_byte b h (subst Begins x.taken y);
  }

-- a byte that is not the mark which is needed
never : (κ : SystemKind) (p : ℕ) (f g : Formula) → misplaced κ p ≡ good f g → ⊥
never (Plain k) p f g z = no_good z
never Next p f g z = no_good z
never Elsewhere p f g z = no_good z
never Nothing p f g z = no_good z

mark_refuses : (m b : ℕ) (ns : List Need) (k : Unit {0} → Rest ns) (p : ℕ) → (b ≡ m → ⊥) → (rest : List ℕ) (f g : Formula) → scan (b ∷ rest) (mark m ∷ ns) k p ≡ good f g → ⊥
mark_refuses m b ns k p d rest f g z = never (kind_of b) p f g (sym step ∙ z)
  where
    step : scan (b ∷ rest) (mark m ∷ ns) k p ≡ misplaced (kind_of b) p
    step = rw (ne_eqb b m d)

-- the line of the table, from the needs and the bytes that are left
line : (s : List ℕ) (n p : ℕ) → length s ≤ 255 → parse s ≡ fault n p → (needs : List Need) (made : Rest needs) → Fine needs made → (left : List ℕ) → p ≤ length s → drop p s ≡ left
    → ((rest : List ℕ) → parse (take p s ++ rest) ≡ scan rest needs made p) → Stop needs left n → SystemFault s n p
unfolding kind_of rules.kind_of
line s n p short q (m ∷ ns) made fine left inside e on at_end =
    let l : p ≡ length s = omega (arith, length-drop p s, ap length e) in
    ended short l (subst Begins (take_all p s (omega arith)) (before s p (m ∷ ns) made fine on)) (λ w. no_good (sym q ∙ spelt_read w.spelt))
line s n p short q [] made fine left inside e on (over {b = b} {bs = bs}) =
    left_over short (byte_at s p b bs e).inside (whole_of (take p s) fine.0 fine.1 (ap parse (sym (append-nil (take p s))) ∙ on [] ∙ fine.2))
line s n p short q (mark m ∷ ns) made fine left inside e on (no_mark {b = b} {bs = bs} d u) =
    let x = byte_at s p b bs e in
    stopped short (stops s p (mark m ∷ ns) made fine on b x (mark_refuses m b ns made p d) (λ f g z. no_good z))
    (unknown_kind (bad_byte s p (mark m ∷ ns) made fine on 0 (mark_refuses m 0 ns made p (λ y. fine.0 (sym y)))) (ap kind_of x.byte ∙ u))
line s n p short q (mark m ∷ ns) made fine left inside e on (other_mark {b = b} {bs = bs} d u) =
    let x = byte_at s p b bs e in
    stopped short (stops s p (mark m ∷ ns) made fine on b x (mark_refuses m b ns made p d) (λ f g z. no_good z))
    (wrong_sort (bad_byte s p (mark m ∷ ns) made fine on 0 (mark_refuses m 0 ns made p (λ y. fine.0 (sym y)))) (λ z. u (ap kind_of (sym x.byte) ∙ z)))
line s n p short q (formula y ∷ ns) made fine left inside e on (no_formula {b = b} {bs = bs} u) =
    let x = byte_at s p b bs e in
    stopped short (stops s p (formula y ∷ ns) made fine on b x (λ rest f g z. no_good (sym (ap (λ (κ : SystemKind). take_formula κ y (scan rest) ns made p) u) ∙ z)) (λ f g z. no_good z))
    (unknown_kind (bad_byte s p (formula y ∷ ns) made fine on 0 (λ rest f g z. no_good z)) (ap kind_of x.byte ∙ u))
line s n p short q (formula y ∷ ns) made fine left inside e on (elsewhere {b = b} {bs = bs} u) =
    let x = byte_at s p b bs e in
    stopped short (stops s p (formula y ∷ ns) made fine on b x (λ rest f g z. no_good (sym (ap (λ (κ : SystemKind). take_formula κ y (scan rest) ns made p) u) ∙ z)) (λ f g z. no_good z))
    (wrong_sort (bad_byte s p (formula y ∷ ns) made fine on 0 (λ rest f g z. no_good z)) (λ z. known (sym u ∙ sym (ap kind_of x.byte) ∙ z)))
  where
    known : Elsewhere ≡ Nothing → ⊥
    known z = let w : ◌≡◌ {A = ℕ} 0 1 = cc in omega arith
line s n p short q (formula y ∷ ns) made fine left inside e on (no_next {b = b} {bs = bs} d u) =
    let x = byte_at s p b bs e in
    stopped short (stops s p (formula y ∷ ns) made fine on b x (λ rest f g z. refuses y d rest f g (sym (ap (λ (κ : SystemKind). take_formula κ y (scan rest) ns made p) u) ∙ z)) (λ f g z. no_good z))
    (wrong_sort (bad_byte s p (formula y ∷ ns) made fine on 0 (λ rest f g z. no_good z)) (λ z. known (sym u ∙ sym (ap kind_of x.byte) ∙ z)))
  where
    known : Next ≡ Nothing → ⊥
    known z = let w : ◌≡◌ {A = ℕ} 0 1 = cc in omega arith

    refuses : (y : Bool) → y ≡ false → (rest : List ℕ) (f g : Formula) → take_formula Next y (scan rest) ns made p ≡ good f g → ⊥
    refuses false d rest f g z = no_good z
    refuses true d rest f g z = let w : ◌≡◌ {A = ℕ} 0 1 = cc in omega arith
line s n p short q (body ∷ ns) made fine left inside e on (too_large {b = b} {bs = bs} h) =
    let x = byte_at s p b bs e in
    let t = filled ns (made 0) (p + 1) (fine 0) in
    stopped short (stops s p (body ∷ ns) made fine on b x (λ rest f g z. no_good (sym (ap (λ (t : Bool). cond t (scan rest ns (made b) (p + 1)) (fault 5 p)) (lt-leb b last_variable h)) ∙ z)) (λ f g z. no_good z))
    (no_proposition (read_begins (take p s ++ (0 ∷ [])) (fill ns) t.0 t.1 (ap parse (append_assoc (take p s) (0 ∷ []) (fill ns)) ∙ on (0 ∷ fill ns) ∙ t.2)) (omega (arith, x.byte)))

fault_line : (s : List ℕ) (n p : ℕ) → length s ≤ 255 → parse s ≡ fault n p → SystemFault s n p
fault_line s n p short q =
    let x = reached s parts (λ i f m g. good f g) 0 n p (omega arith, λ f. (omega arith, λ g. (f, g, refl))) q in
    let e : x.i ≡ p = omega (arith, x.here) in
    line s n p short q x.needs x.made x.fine x.left (omega (arith, x.inside)) (ap (λ (j : ℕ). drop j s) (sym e) ∙ x.left_is) (λ rest. ap (λ (j : ℕ). parse (take j s ++ rest)) (sym e) ∙ x.on rest) x.stop

pub refused_line : (s : List ℕ) (n p : ℕ) → answer s ≡ refused n p → SystemFault s n p
refused_line s n p q = by_length (ltb 255 (length s)) refl q
  where
    by_outcome : length s ≤ 255 → (o : Outcome) → parse s ≡ o → placed o ≡ refused n p → SystemFault s n p
    by_outcome short (good f g) e z = absurd (let y : ◌≡◌ {A = ℕ} 0 1 = cc in omega arith)
    by_outcome short (fault m i) e z =
        let a : m ≡ n = cc in
        let b : i ≡ p = cc in
        rw (← a, ← b) (fault_line s m i short e)

    by_length : (t : Bool) → ltb 255 (length s) ≡ t → cond t (refused 9 0) (placed (parse s)) ≡ refused n p → SystemFault s n p
    by_length true e z =
        let a : 9 ≡ n = cc in
        let b : 0 ≡ p = cc in
        rw (← a, ← b) (too_long (ltb-true 255 (length s) e))
    by_length false e z = by_outcome (ltb-false 255 (length s) e) (parse s) refl z

-- ---- and each line of the table is the refusal: at most one fits

wrong_once : {s : List ℕ} {p n m : ℕ} → Wrong s p n → Wrong s p m → n ≡ m
wrong_once (unknown_kind a b) (unknown_kind c d) = refl
wrong_once (unknown_kind a b) (wrong_sort c d) = absurd (d b)
wrong_once (unknown_kind a b) (no_proposition c d) = absurd (a c)
wrong_once (wrong_sort a b) (unknown_kind c d) = absurd (b d)
wrong_once (wrong_sort a b) (wrong_sort c d) = refl
wrong_once (wrong_sort a b) (no_proposition c d) = absurd (a c)
wrong_once (no_proposition a b) (unknown_kind c d) = absurd (c a)
wrong_once (no_proposition a b) (wrong_sort c d) = absurd (c a)
wrong_once (no_proposition a b) (no_proposition c d) = refl

module _ (s : List ℕ) where
  -- a system that ends at i, and bytes that begin one up to p, past i
  past_whole : (i p : ℕ) → i < p → p ≤ length s → Whole (take i s) → Begins (take p s) → ⊥
  past_whole i p l h w b =
      let k : i < length (take p s) = omega (arith, length-take-le p s h) in
      let e : take p s ≡ take i s ++ (get_or (take p s) i 0 ∷ drop (suc i) (take p s)) =
      split_at (take p s) i 0 k ∙ ap (λ (t : List ℕ). t ++ (get_or (take p s) i 0 ∷ drop (suc i) (take p s))) (take-take i p s (omega arith)) in
      goes_on (take i s) (drop (suc i) (take p s)) (get_or (take p s) i 0) w (subst Begins e b)

  module _ (short : length s ≤ 255) where
    ended_same : (m i : ℕ) → Begins s → (Whole s → ⊥) → SystemFault s m i → (m ≡ 2) × (i ≡ length s)
    ended_same m i b nw (too_long l) = absurd (omega arith)
    ended_same m i b nw (ended h l c d) = (refl, l)
    ended_same m i b nw (stopped h y w) = absurd (y.no_further (whole_shorter s (i + 1) b))
    ended_same m i b nw (left_over h l w) = absurd (goes_on (take i s) (drop (suc i) s) (get_or s i 0) w (subst Begins (split_at s i 0 l) b))

    stopped_same : (n p m i : ℕ) → StopsAt s p → Wrong s p n → SystemFault s m i → (m ≡ n) × (i ≡ p)
    stopped_same n p m i x v (too_long l) = absurd (omega arith)
    stopped_same n p m i x v (ended h l b nw) = absurd (x.no_further (whole_shorter s (p + 1) b))
    stopped_same n p m i x v (stopped h y w) = (wrong_once w (subst (λ (j : ℕ). Wrong s j n) (sym same) v), same)
      where
        place : Dec (i < p) → Dec (p < i) → i ≡ p
        place (yes l) d = absurd (y.no_further (take_shorter s (i + 1) p (omega arith) x.before))
        place (no l) (yes k) = absurd (x.no_further (take_shorter s (p + 1) i (omega arith) y.before))
        place (no l) (no k) = omega arith

        same : i ≡ p
        same = place (dec_lt i p) (dec_lt p i)
    stopped_same n p m i x v (left_over h l w) = absurd (go (dec_lt i p) (dec_lt p i))
      where
        go : Dec (i < p) → Dec (p < i) → ⊥
        go (yes k) d = past_whole i p k (let z = x.inside in omega arith) w x.before
        go (no k) (yes j) = x.no_further (take_shorter s (p + 1) i (omega arith) (whole_begins w))
        go (no k) (no j) = let e : i ≡ p = omega arith in x.unfinished (subst (λ (z : ℕ). Whole (take z s)) e w)

    faulted : (n p m i : ℕ) → parse s ≡ fault m i → (m ≡ n) × (i ≡ p) → answer s ≡ refused n p
    faulted n p m i q e = rw (le-ltb 255 (length s) short, q, e.0, e.1)

pub line_refused : (s : List ℕ) (n p : ℕ) → SystemFault s n p → answer s ≡ refused n p
line_refused s n p (too_long l) = rw (lt-ltb 255 (length s) l)
line_refused s n p (left_over short l w) =
    faulted s short 6 p 6 (length (take p s)) (ap parse (split_at s p 0 l) ∙ after_whole w (get_or s p 0) (drop (suc p) s)) (refl, length-take-le p s (omega arith))
line_refused s n p (ended short l b nw) = go (parse s) refl
  where
    go : (o : Outcome) → parse s ≡ o → answer s ≡ refused 2 p
    go (good f g) q = absurd (nw (whole_of s f g q))
    go (fault m i) q = let e = ended_same s short m i b nw (fault_line s m i short q) in faulted s short 2 p m i q (e.0, e.1 ∙ sym l)
line_refused s n p (stopped short x v) = go (parse s) refl
  where
    go : (o : Outcome) → parse s ≡ o → answer s ≡ refused n p
    go (good f g) q = absurd (x.no_further (whole_shorter s (p + 1) (whole_begins (whole_of s f g q))))
    go (fault m i) q = faulted s short n p m i q (stopped_same s short n p m i x v (fault_line s m i short q))
