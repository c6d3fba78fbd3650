-- Where the formulas of an accepted system stand: what a caller of the reader hands to a walk. Assumes nothing.
use Prim.Native.Nat.{ℕ, suc, ◌+◌, ◌-◌, ◌≤◌, ◌<◌}
use native.Mathlib.Omega.{arith}
use native.Mathlib.Numerals.{add-one}
use native.Mathlib.Decide.{dec_lt}
use mathlib.Core.Path.{◌≡◌, refl, sym, ap, subst, ◌∙◌}
use mathlib.Core.Bool.{Bool, true, false, cond}
use mathlib.Core.List.{List, [], ◌∷◌, ◌++◌, append_assoc, append-nil}
use lib.Dec.{eqb}
use lib.ListN.{length, get_or, drop, length-append, length-drop, drop_of_length-le}
use lib.Seq.{drop-cons}
use Rattle.definitions.specs.declared.kinds.FormulaKind.{FormulaKind}
use Rattle.definitions.specs.declared.kinds.Kind as rules-kind
use Rattle.definitions.specs.declared.kinds.Kind.TheVariants.{OfFormula, OfRule, Unknown}
use Rattle.definitions.specs.Kinds as rules
use Rattle.rules.specs.Places as places
use Rattle.definitions.specs.Definition1.{Formula, prop, yea, nay, neg, join}
use Rattle.systems.specs.declared.kinds.SystemKind.{SystemKind}
use Rattle.systems.specs.declared.kinds.SystemKind.TheVariants.{Plain, Next, Elsewhere, Nothing}
use Rattle.systems.specs.Kinds.{initial_mark, step_mark, next_kind, of_rules_of, kind_of}
use Rattle.systems.specs.Reading.{last_variable, variable_count, good, parse}
use Rattle.systems.specs.Spelling.{last_named, spell_variable, spell_f, SmallF}
use Rattle.systems.specs.inner.Places.{Here, BodyHere, FormulaAt, a_prop, a_next, a_yea, a_nay, a_neg, a_join}
use Rattle.systems.specs.inner.Walks.{Stands}
use Rattle.systems.proofs.Scan.{formula_ends}
use Rattle.systems.proofs.Spelled.{junction_kind, spell_now, spell_next, read_is_spelt}

-- ---- a formula ends where its bytes do

pub formula_long : {s : List ℕ} {next : Bool} {at e : ℕ} {f : Formula} → FormulaAt s next at f e → at + length (spell_f f) ≡ e
formula_long (a_prop h b) = let l = ap length (spell_now _ b.small) in let q = b.ends in omega arith
formula_long (a_next {i = i} t h b) = let l = ap length (spell_next i) in let q = b.ends in omega arith
formula_long (a_yea h q) = q
formula_long (a_nay h q) = q
formula_long (a_neg h d) = let l = formula_long d in omega arith
formula_long (a_join {f = f} {g = g} h a b) = let l = formula_long a in let l' = formula_long b in let n = length-append (spell_f f) (spell_f g) in omega arith

-- ---- what is spelled in the bytes stands there

module _ (s : List ℕ) where
  record First (at b : ℕ) (t : List ℕ) : Type 0 where
    inside : at < length s
    byte : get_or s at 0 ≡ b
    rest : drop (at + 1) s ≡ t

  first : (at b : ℕ) (t : List ℕ) → drop at s ≡ b ∷ t → First at b t
  first at b t q = go (dec_lt at (length s))
    where
      go : Dec (at < length s) → First at b t
      go (no h) = let l : length s ≤ at = omega arith in let z : [] ≡ b ∷ t = sym (drop_of_length-le s l) ∙ q in let w : ◌≡◌ {A = ℕ} 0 1 = cc in absurd (omega arith)
      go (yes h) = let z : get_or s at 0 ∷ drop (suc at) s ≡ b ∷ t = sym (drop-cons s at 0 h) ∙ q in record { inside = h; byte = cc; rest = rw add-one (cc) }

  at_kind : {at b : ℕ} {t : List ℕ} {κ : SystemKind} → First at b t → kind_of b ≡ κ → Here s at κ
  at_kind i q = record { inside = i.inside; says = ap kind_of i.byte ∙ q }

  a_body : {at i : ℕ} {t : List ℕ} → First at i t → i ≤ last_variable → BodyHere s at i (at + 1)
  a_body b h = record { inside = b.inside; byte = b.byte; small = h; ends = refl }

  stands_now : (next : Bool) (i : ℕ) → i ≤ last_variable → (at : ℕ) (t : List ℕ) → drop at s ≡ 0x01 ∷ i ∷ t → (e : ℕ) × FormulaAt s next at (prop i) e × (drop e s ≡ t)
  unfolding kind_of rules.kind_of
  stands_now next i h at t q =
      let a = first at 0x01 (i ∷ t) q in
      let b = first (at + 1) i t a.rest in
      (at + 1 + 1, a_prop (at_kind a refl) (a_body b h), b.rest)

  stands_next : (i : ℕ) → i ≤ last_variable → (at : ℕ) (t : List ℕ) → drop at s ≡ next_kind ∷ i ∷ t → (e : ℕ) × FormulaAt s true at (prop (variable_count + i)) e × (drop e s ≡ t)
  unfolding kind_of rules.kind_of
  stands_next i h at t q =
      let a = first at next_kind (i ∷ t) q in
      let b = first (at + 1) i t a.rest in
      (at + 1 + 1, a_next refl (at_kind a refl) (a_body b h), b.rest)

  stands_variable : (next : Bool) (i : ℕ) → i ≤ last_named next → (at : ℕ) (t : List ℕ) → drop at s ≡ spell_variable i ++ t → (e : ℕ) × FormulaAt s next at (prop i) e × (drop e s ≡ t)
  stands_variable next i h at t q = go next h (dec_lt last_variable i)
    where
      go : (next : Bool) → i ≤ last_named next → Dec (last_variable < i) → (e : ℕ) × FormulaAt s next at (prop i) e × (drop e s ≡ t)
      go next h (no l) = let o : i ≤ last_variable = omega arith in stands_now next i o at t (q ∙ ap (λ (l : List ℕ). l ++ t) (spell_now i o))
      go false h (yes l) = absurd (omega arith)
      go true h (yes l) =
          let e : variable_count + (i - variable_count) ≡ i = omega arith in
          let o : i - variable_count ≤ last_variable = omega arith in
          let p : drop at s ≡ next_kind ∷ (i - variable_count) ∷ t = q ∙ ap (λ (j : ℕ). spell_variable j ++ t) (sym e) ∙ ap (λ (l : List ℕ). l ++ t) (spell_next (i - variable_count)) in
          subst (λ (j : ℕ). (e : ℕ) × FormulaAt s true at (prop j) e × (drop e s ≡ t)) e (stands_next (i - variable_count) o at t p)

  stands_f : (next : Bool) (f : Formula) → SmallF next f → (at : ℕ) (t : List ℕ) → drop at s ≡ spell_f f ++ t → (e : ℕ) × FormulaAt s next at f e × (drop e s ≡ t)
  unfolding kind_of rules.kind_of
  stands_f next (prop i) sm at t q = stands_variable next i sm at t q
  stands_f next yea sm at t q = let a = first at 0x02 t q in (at + 1, a_yea (at_kind a refl) refl, a.rest)
  stands_f next nay sm at t q = let a = first at 0x03 t q in (at + 1, a_nay (at_kind a refl) refl, a.rest)
  stands_f next (neg f) sm at t q =
      let a = first at 0x04 (spell_f f ++ t) q in
      let b = stands_f next f sm (at + 1) t a.rest in
      (b.0, a_neg (at_kind a refl) b.1, b.2)
  stands_f next (join j f g) (u, v) at t q =
      let a = first at _ ((spell_f f ++ spell_f g) ++ t) q in
      let x = stands_f next f u (at + 1) (spell_f g ++ t) (a.rest ∙ append_assoc (spell_f f) (spell_f g) t) in
      let y = stands_f next g v x.0 t x.2 in
      (y.0, a_join (at_kind a (junction_kind j)) x.1 y.1, y.2)

-- ---- the formulas of an accepted system

pub stands : (s : List ℕ) (f g : Formula) → parse s ≡ good f g → Stands s f g (1 + length (spell_f f) + 1)
stands s f g q =
    let i = read_is_spelt s f g q in
    let a = first s 0 initial_mark (spell_f f ++ (step_mark ∷ spell_f g)) i.whole in
    let x = stands_f s false f i.small_first 1 (step_mark ∷ spell_f g) a.rest in
    let b = first s x.0 step_mark (spell_f g) x.2 in
    let y = stands_f s true g i.small_step (x.0 + 1) [] (b.rest ∙ sym (append-nil (spell_f g))) in
    let l = formula_long x.1 in
    let k = formula_ends s y.1 in
    let n : y.0 ≡ length s = omega (arith, length-drop y.0 s, ap length y.2) in
    let p : x.0 + 1 ≡ 1 + length (spell_f f) + 1 = omega arith in
    record { m = x.0; first = x.1; second = subst (λ (a : ℕ). FormulaAt s true a g (length s)) p (subst (FormulaAt s true (x.0 + 1) g) n y.1) }

-- ---- the first formula, which names no variable of the next state, stands there for the rules too

abbrev SaysToo : SystemKind → ℕ → Type 0
SaysToo (Plain k) b = rules.kind_of b ≡ OfFormula k
SaysToo Next b = Unit {0}
SaysToo Elsewhere b = Unit {0}
SaysToo Nothing b = Unit {0}

of_rules_too : (b : ℕ) (κ : rules-kind.Kind) → rules.kind_of b ≡ κ → SaysToo (of_rules_of κ) b
of_rules_too b (OfFormula k) q = q
of_rules_too b (OfRule k) q = tt
of_rules_too b Unknown q = tt

says_too : (b : ℕ) → SaysToo (kind_of b) b
unfolding kind_of
says_too b = go (eqb b next_kind) (eqb b initial_mark) (eqb b step_mark)
  where
    go : (t u v : Bool) → SaysToo (cond t Next (cond u Elsewhere (cond v Elsewhere (of_rules_of (rules.kind_of b))))) b
    go true u v = tt
    go false true v = tt
    go false false true = tt
    go false false false = of_rules_too b (rules.kind_of b) refl

module _ {s : List ℕ} where
  here_too : {at : ℕ} {k : FormulaKind} → Here s at (Plain k) → places.Here s at (OfFormula k)
  here_too {at} h = record { inside = h.inside; says = subst (λ (κ : SystemKind). SaysToo κ (get_or s at 0)) h.says (says_too (get_or s at 0)) }

  pub plain_too : {next : Bool} {at e : ℕ} {f : Formula} → next ≡ false → FormulaAt s next at f e → places.FormulaAt s at f e
  plain_too n (a_prop h b) = places.a_prop (here_too h) b.inside b.byte b.small b.ends
  plain_too n (a_next t h b) = absurd (let z : ◌≡◌ {A = Bool} true false = sym t ∙ n in let w : ◌≡◌ {A = ℕ} 0 1 = cc in omega arith)
  plain_too n (a_yea h q) = places.a_yea (here_too h) q
  plain_too n (a_nay h q) = places.a_nay (here_too h) q
  plain_too n (a_neg h d) = places.a_neg (here_too h) (plain_too n d)
  plain_too n (a_join h a b) = places.a_join (here_too h) (plain_too n a) (plain_too n b)
