-- What stands after "(" and after "{", and a formula that stands as a rule: the first operand, and what follows it. Assumes nothing.
use Prim.Native.Nat.{ℕ, ◌+◌, ◌*◌, ◌≤◌, ◌<◌}
use native.Mathlib.Omega.{arith}
use mathlib.Core.Path.{◌≡◌, refl, sym, ap, subst, ◌∙◌}
use mathlib.Core.List.{List, [], ◌∷◌, ◌++◌, append_assoc}
use lib.ListN.{length, drop}
use Rattle.definitions.specs.declared.kinds.Junction.{Junction}
use Rattle.definitions.specs.declared.kinds.Junction.TheVariants.{And, Or}
use Rattle.definitions.specs.declared.kinds.Pair.{Pair}
use Rattle.definitions.specs.Definition1.{Formula, Rule}
use Rattle.definitions.specs.Encoding.{junction_byte, pair_byte, spell_f}
use Rattle.std.specs.Prelude.{Result, Ok, Err}
use Rattle.grammar.specs.declared.words.Fault.{Fault}
use Rattle.grammar.specs.declared.signs.Headed.{Headed}
use Rattle.text_reader.specs.declared.reader.Taken.{Taken}
use Rattle.grammar.specs.Text.{junction_char, pair_sign}
use Rattle.grammar.specs.inner.Reading.{Need, rule, formula, junction, tail, bracket, occurrence, sign, Counts, uncounted, from, Bracket, plus, starred, pair, repeated, Value, Values, Rest, row, bracketed, closed, standing, rows, scan}
use Rattle.grammar.specs.inner.Values.{texts}
use Rattle.grammar.specs.inner.Wide.{head_length, head_bytes, plain_head, bracket_head, standing_head, wide}
use Rattle.writing.specs.Wrote.{Wrote}
use Rattle.grammar.specs.inner.Places.{At, Fails, Passes, HeadedAt, by, unheaded, BracketAt, OccurrenceAt, Operator}
use Rattle.text_reader.specs.inner.Takings.{Took, TakenAs, took, broke, JoinTaken, LetterTaken, BraceTaken}
use Rattle.grammar.proofs.Lengths.{formula_long, formula_lengths, text_long, wide_lengths}
use Rattle.grammar.proofs.Rights.{rights}
use Rattle.grammar.proofs.Standing.{seen, char_part, parts}
use Rattle.grammar.proofs.Passing.{alone, single, then_passes, then_fails, first_fails, row_passes}
use Rattle.writing.proofs.Wrotes.{wrote_more}
use Rattle.text_reader.proofs.Filling.{filled}

junction_on : (s : List ℕ) (at : ℕ) (j : Junction) → At s at (junction_char j) → (ns : List Need) (k : Value junction → Rest ns) → scan (drop at s) (junction ∷ ns) k at ≡ scan (drop (at + 1) s) (formula ∷ sign 41 ∷ ns) (λ g u. k (j, g)) (at + 1)
unfolding rows
junction_on s at And h ns k = ap (λ (l : List ℕ). scan l (junction ∷ ns) k at) (seen s h)
junction_on s at Or h ns k = ap (λ (l : List ℕ). scan l (junction ∷ ns) k at) (seen s h)

-- the head goes before the first operand, and the second operand after it
both_written : (h p q b m n a : List ℕ) (to mid e e' : ℕ) → mid ≤ length b → Wrote p b mid m e → Wrote h m to n mid → Wrote q n e a e' → Wrote (h ++ (p ++ q)) b to a e'
both_written h p q b m n a to mid e e' l x y z =
    subst (λ (t : List ℕ). Wrote t b to a e') (append_assoc h p q) (wrote_more (let i = y.ends in omega arith) (filled h p b m n to mid e l x y) z)

module _ (s : List ℕ) (at : ℕ) where
  pub join_first : (p : ℕ) → Fails s at (formula ∷ []) p → Fails s at (formula ∷ junction ∷ []) p
  join_first p f = first_fails s at formula (junction ∷ []) p f

  pub letter_first : (p : ℕ) → Fails s at (formula ∷ []) p → Fails s at (formula ∷ occurrence ∷ []) p
  letter_first p f = first_fails s at formula (occurrence ∷ []) p f

  pub brace_first : (p : ℕ) → Fails s at (rule ∷ []) p → Fails s at (rule ∷ tail ∷ []) p
  brace_first p f = first_fails s at rule (tail ∷ []) p f

-- a formula was taken, and its bytes written after the place of what stands before it
module _ (s : List ℕ) (at : ℕ) (b : List ℕ) (to : ℕ) (m : List ℕ) (e past : ℕ) (x : Took s at (formula ∷ []) (λ v. spell_f v.0) b to m e past) where
  pub formula_bounds : (at < e) × (e ≤ length s) × (past + at ≤ to + e)
  formula_bounds =
      let l = formula_lengths x.vs.0 in
      let n = formula_long x.vs.0 in
      let u = single s formula x.vs.0 x.there.part in
      let v = u.ends in
      let w = x.wrote.ends in
      let i = u.inside in
      omega arith

module _ (s : List ℕ) (at : ℕ) (b : List ℕ) (to : ℕ) (m : List ℕ) (e past : ℕ) (x : Took s at (formula ∷ []) (λ v. spell_f v.0) b (to + 1) m e past) where
  pub join_none : (p : ℕ) → Fails s e (junction ∷ []) p → Fails s at (formula ∷ junction ∷ []) p
  join_none p f = then_fails s formula (junction ∷ []) x.vs.0 p x.there f

  module _ (j : Junction) (h : At s e (junction_char j)) (n : List ℕ) (to' : ℕ) (y : Wrote (junction_byte j ∷ []) m to n to') (l : to < length b) (a : List ℕ) where
    second_passes : (e' : ℕ) (g : Formula) → Passes s (e + 1) (formula ∷ sign 41 ∷ []) (g, (tt, tt)) e' → Passes s e (junction ∷ []) ((j, g), tt) e'
    second_passes e' g z = record {
      small = (z.small.0, tt);
      part = alone s junction (j, g) (parts s (junction_char j ∷ []) (texts (formula ∷ sign 41 ∷ []) (g, (tt, tt))) (char_part s h) z.part);
      over = λ ms k. junction_on s e j h ms k ∙ z.over ms (λ g u. k (j, g));
    }

    pub join_on : (t : Result Taken Fault) → TakenAs s (e + 1) (formula ∷ sign 41 ∷ []) (λ v. spell_f v.0) n past a t → JoinTaken s at b to a t
    join_on t (took u i z) = took u i (record {
      vs = (x.vs.0, ((j, z.vs.0), tt));
      there = then_passes s formula (junction ∷ []) x.vs.0 ((j, z.vs.0), tt) x.there (second_passes u.end z.vs.0 z.there);
      wrote = both_written (junction_byte j ∷ []) _ _ b m n a to (to + 1) past u.past (omega arith) x.wrote (subst (Wrote (junction_byte j ∷ []) m to n) y.ends y) z.wrote;
    })
    join_on t (broke p i f) = broke p i (then_fails s formula (junction ∷ []) x.vs.0 p.place x.there (λ ms k. junction_on s e j h ms k ∙ f ms (λ g u. k (j, g))))

-- an operand was taken, and what follows it, needs instead of n', asks for its head
module _ (s : List ℕ) (at : ℕ) (n n' : Need) (bytes : Value n → List ℕ) (b : List ℕ) (to : ℕ) (m : List ℕ) (e past : ℕ) (x : Took s at (n ∷ []) (λ v. bytes v.0) b (to + head_length) m e past) (l : to + head_length ≤ length b) (a : List ℕ) (h : Headed) (to' : ℕ) (w : Wrote (head_bytes h.head) m to a to') where
  module _ (e₁ : ℕ) (ns : List Need) (head : Values ns → List ℕ) (f : Values ns → Value n') (up : (vs : Values ns) (e' : ℕ) → Passes s e₁ ns vs e' → Passes s e (n' ∷ []) (f vs, tt) e') (whole : Value n → Value n' → List ℕ) (same : (v : Value n) (vs : Values ns) → head vs ++ bytes v ≡ whole v (f vs)) (long : (vs : Values ns) → length (head vs) ≡ head_length) where
    head_took : (vs : Values ns) → Passes s e₁ ns vs h.end → head_bytes h.head ≡ head vs → Took s at (n ∷ n' ∷ []) (λ v. whole v.0 v.1.0) b to a h.end past
    head_took vs y i = record {
      vs = (x.vs.0, (f vs, tt));
      there = then_passes s n (n' ∷ []) x.vs.0 (f vs, tt) x.there (up vs h.end y);
      wrote =
          subst (λ (p : List ℕ). Wrote p b to a past) (same x.vs.0 vs)
          (filled (head vs) (bytes x.vs.0) b m a to (to + head_length) past l x.wrote
          (subst (λ (p : List ℕ). Wrote p m to a (to + head_length)) i (subst (Wrote (head_bytes h.head) m to a) (w.ends ∙ ap (λ (p : List ℕ). to + length p) i ∙ ap (λ (k : ℕ). to + k) (long vs)) w)));
    }

    head_taken : {r : Result Headed Fault} → HeadedAt s e₁ ns head r → r ≡ Ok h → TakenAs s at (n ∷ n' ∷ []) (λ v. whole v.0 v.1.0) b to a (Ok (record { end = h.end; past = past }))
    head_taken (by h' q vs y i) z =
        let k : h' ≡ h = cc in
        took _ refl (head_took vs (subst (λ (g : Headed). Passes s e₁ ns vs g.end) k y) (ap (λ (g : Headed). head_bytes g.head) (sym k) ∙ i))
    head_taken (unheaded p q g) z = absurd (let y : ◌≡◌ {A = ℕ} 0 1 = cc in omega arith)

-- a formula that stands as a rule
standing_wide : (f : Formula) (c : Counts) → standing_head c ++ spell_f f ≡ wide (standing f c)
standing_wide f uncounted = refl
standing_wide f (from i j) = refl

standing_long : (c : Counts) → length (standing_head c) ≡ head_length
standing_long uncounted = refl
standing_long (from i j) = refl

pub letter_taken : (s : List ℕ) (at : ℕ) (b : List ℕ) (to : ℕ) (m : List ℕ) (e past : ℕ) → Took s at (formula ∷ []) (λ v. spell_f v.0) b (to + head_length) m e past → to + head_length ≤ length b → (a : List ℕ) (h : Headed) (to' : ℕ) → Wrote (head_bytes h.head) m to a to' → {r : Result Headed Fault} → OccurrenceAt s e r → r ≡ Ok h → LetterTaken s at b to a (Ok (record { end = h.end; past = past }))
letter_taken s at b to m e past x l a h to' w o q =
    head_taken s at formula occurrence spell_f b to m e past x l a h to' w e (occurrence ∷ []) (λ v. standing_head v.0) (λ v. v.0) (λ vs e' y. y) (λ f c. wide (standing f c)) (λ f v. standing_wide f v.0) (λ v. standing_long v.0) o q

pub letter_broken : (s : List ℕ) (at : ℕ) (b : List ℕ) (to : ℕ) (m : List ℕ) (e past : ℕ) → Took s at (formula ∷ []) (λ v. spell_f v.0) b (to + head_length) m e past → {r : Result Headed Fault} → OccurrenceAt s e r → (f : Fault) → r ≡ Err f → LetterTaken s at b to m (Err f)
letter_broken s at b to m e past x (by h q vs y i) f z = absurd (let y : ◌≡◌ {A = ℕ} 0 1 = cc in omega arith)
letter_broken s at b to m e past x (unheaded f' q g) f z = let k : f' ≡ f = cc in
    broke f refl (then_fails s formula (occurrence ∷ []) x.vs.0 f.place x.there (subst (λ (h : Fault). Fails s e (occurrence ∷ []) h.place) k g))

-- a rule was taken after "{"
bracketed_wide : (a : Rule) (c : Bracket) → bracket_head c ++ wide a ≡ wide (bracketed c a)
bracketed_wide a plus = refl
bracketed_wide a (starred uncounted) = refl
bracketed_wide a (starred (from i j)) = refl

bracketed_long : (c : Bracket) → length (bracket_head c) ≡ head_length
bracketed_long plus = refl
bracketed_long (starred uncounted) = refl
bracketed_long (starred (from i j)) = refl

module _ (s : List ℕ) (at : ℕ) (b : List ℕ) (to : ℕ) (m : List ℕ) (e past : ℕ) (x : Took s at (rule ∷ []) (λ v. wide v.0) b (to + head_length) m e past) where
  pub rule_bounds : (at < e) × (e ≤ length s) × (past + 3 * at ≤ to + head_length + 3 * e)
  rule_bounds =
      let l = wide_lengths x.vs.0 in
      let n = text_long x.vs.0 in
      let u = single s rule x.vs.0 x.there.part in
      let v = u.ends in
      let w = x.wrote.ends in
      let i = u.inside in
      omega arith

  pub brace_broken : (f : Fault) → Fails s e (tail ∷ []) f.place → BraceTaken s at b to m (Err f)
  brace_broken f g = broke f refl (then_fails s rule (tail ∷ []) x.vs.0 f.place x.there g)

  module _ (l : to + head_length ≤ length b) (a : List ℕ) where
    pub brace_repeat : (h : Headed) (to' : ℕ) → Wrote (head_bytes h.head) m to a to' → At s e 125 → BracketAt s (e + 1) (Ok h) → BraceTaken s at b to a (Ok (record { end = h.end; past = past }))
    unfolding rows
    brace_repeat h to' w z o =
        head_taken s at rule tail wide b to m e past x l a h to' w (e + 1) (sign 91 ∷ bracket ∷ []) (λ v. bracket_head v.1.0) (λ v. repeated v.1.0)
        (λ vs e' y. row_passes s e tail 125 (row 125 (sign 91 ∷ bracket ∷ []) (λ v. repeated v.1.0)) (λ on ns k p other. refl) z (rights tail 125).1.1.1.1.0 refl vs y)
        (λ r c. wide (closed r c))
        (λ r v. bracketed_wide r v.1.0)
        (λ v. bracketed_long v.1.0)
        o
        refl

    -- an operator, and the second operand
    module _ (p : Pair) (e₁ : ℕ) (o : Operator s e p e₁) where
      operand_passes : (e' : ℕ) (r : Rule) → Passes s e₁ (rule ∷ sign 125 ∷ []) (r, (tt, tt)) e' → Passes s e (tail ∷ []) (pair p r, tt) e'
      operand_passes e' r z = record {
        small = (z.small.0, tt);
        part = alone s tail (pair p r) (parts s (pair_sign p) (texts (rule ∷ sign 125 ∷ []) (r, (tt, tt))) o.part z.part);
        over = λ ms k. o.on ms k ∙ z.over ms (λ v u. k (pair p v));
      }

      pub brace_pair : (n : List ℕ) (to' : ℕ) → Wrote (plain_head (pair_byte p)) m to n to' → (t : Result Taken Fault) → TakenAs s e₁ (rule ∷ sign 125 ∷ []) (λ v. wide v.0) n past a t → BraceTaken s at b to a t
      brace_pair n to' y t (took u i z) = took u i (record {
        vs = (x.vs.0, (pair p z.vs.0, tt));
        there = then_passes s rule (tail ∷ []) x.vs.0 (pair p z.vs.0, tt) x.there (operand_passes u.end z.vs.0 z.there);
        wrote = both_written (plain_head (pair_byte p)) (wide x.vs.0) (wide z.vs.0) b m n a to (to + head_length) past u.past l x.wrote (subst (Wrote (plain_head (pair_byte p)) m to n) y.ends y) z.wrote;
      })
      brace_pair n to' y t (broke r i f) = broke r i (then_fails s rule (tail ∷ []) x.vs.0 r.place x.there (λ ms k. o.on ms k ∙ f ms (λ v u. k (pair p v))))
