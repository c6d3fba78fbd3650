-- What was taken after a character, as the character's row has it, is taken from the character on. Assumes nothing.
use Prim.Native.Nat.{ℕ, ◌+◌, ◌≤◌}
use native.Mathlib.Omega.{arith}
use mathlib.Core.Path.{◌≡◌, refl, subst}
use mathlib.Core.List.{List, [], ◌∷◌}
use lib.ListN.{length}
use Rattle.definitions.specs.Definition1.{prop}
use Rattle.definitions.specs.Encoding.{spell_f}
use Rattle.std.specs.Prelude.{Result, Ok, Err}
use Rattle.grammar.specs.declared.words.Fault.{Fault}
use Rattle.text_reader.specs.declared.reader.Taken.{Taken}
use Rattle.grammar.specs.inner.Reading.{Need, digit, sign, Value, Values, Row, rows}
use Rattle.writing.specs.Wrote.{Wrote}
use Rattle.grammar.specs.inner.Places.{At, Fails, Part, signs}
use Rattle.text_reader.specs.inner.Takings.{Took, TakenAs, took, broke, Closes, there, not_there}
use Rattle.grammar.proofs.Rights.{Right}
use Rattle.grammar.proofs.Picking.{Opens}
use Rattle.grammar.proofs.Complete.{over_digit}
use Rattle.grammar.proofs.Standing.{other_sign, absent, char_part}
use Rattle.grammar.proofs.Passing.{units, word_passes, value_passes, sign_passes, then_passes, then_fails, first_fails, row_passes, row_fails}
use Rattle.writing.proofs.Wrotes.{wrote_more}

module _ (s : List ℕ) where
  module _ (at : ℕ) (b : List ℕ) (to : ℕ) (a : List ℕ) where
    -- by a row of the table
    module _ (n : Need) (c : ℕ) (r : Row n) (o : Opens n (rows n c) c r) (g : Right n r) (q : c ≡ r.char) (h : At s at c) (bytes : Values r.needs → List ℕ) (bytes' : Value n → List ℕ) (same : (vs : Values r.needs) → bytes vs ≡ bytes' (r.made vs)) where
      pub by_row : (t : Result Taken Fault) → TakenAs s (at + 1) r.needs bytes b to a t → TakenAs s at (n ∷ []) (λ v. bytes' v.0) b to a t
      by_row t (took u z x) = took u z (record {
        vs = (r.made x.vs, tt);
        there = row_passes s at n c r o h g q x.vs x.there;
        wrote = subst (λ (l : List ℕ). Wrote l b to a u.past) (same x.vs) x.wrote;
      })
      by_row t (broke p z f) = broke p z (row_fails s at n c r o h p.place f)

    -- a byte before the others
    pub put_before : (ns : List Need) (bytes : Values ns → List ℕ) (x : ℕ) (m : List ℕ) (to' : ℕ) → to ≤ length b → Wrote (x ∷ []) b to m to' → (t : Result Taken Fault) → TakenAs s at ns bytes m to' a t → TakenAs s at ns (λ v. x ∷ bytes v) b to a t
    put_before ns bytes x m to' l w t (took u z i) = took u z (record { vs = i.vs; there = i.there; wrote = wrote_more l w i.wrote })
    put_before ns bytes x m to' l w t (broke p z f) = broke p z f

    -- a very character after the others
    pub then_first : (n : Need) (bytes : Value n → List ℕ) (c : ℕ) (f : Fault) → Fails s at (n ∷ []) f.place → TakenAs s at (n ∷ sign c ∷ []) (λ v. bytes v.0) b to a (Err f)
    then_first n bytes c f x = broke f refl (first_fails s at n (sign c ∷ []) f.place x)

    pub then_sign : (n : Need) (bytes : Value n → List ℕ) (c : ℕ) (t : Taken) (r : Result Taken Fault) → Took s at (n ∷ []) (λ v. bytes v.0) b to a t.end t.past → Closes s c t r → TakenAs s at (n ∷ sign c ∷ []) (λ v. bytes v.0) b to a r
    then_sign n bytes c t r x (there h q) = took _ q (record { vs = (x.vs.0, (tt, tt)); there = then_passes s n (sign c ∷ []) x.vs.0 (tt, tt) x.there (sign_passes s h); wrote = x.wrote })
    then_sign n bytes c t r x (not_there h q) = broke _ q (then_fails s n (sign c ∷ []) x.vs.0 t.end x.there (other_sign s t.end c h))

  -- the digit of a proposition
  module _ (at : ℕ) where
    pub no_digit : ((c : ℕ) → 48 ≤ c → c ≤ 53 → At s at c → ⊥) → Fails s at (digit ∷ []) at
    unfolding rows
    no_digit h = absent s digit refl at (away 48 (omega arith) (omega arith), (away 49 (omega arith) (omega arith), (away 50 (omega arith) (omega arith), (away 51 (omega arith) (omega arith), (away 52 (omega arith) (omega arith), (away 53 (omega arith) (omega arith), tt))))))
      where
        away : (c : ℕ) → 48 ≤ c → c ≤ 53 → At s at c → ⊥
        away c l u = h c l u

    pub a_digit : (b : List ℕ) (to : ℕ) (m : List ℕ) (x : ℕ) (a : List ℕ) (y d : ℕ) → d ≤ 5 → At s at (48 + d) → to ≤ length b → Wrote (1 ∷ []) b to m x → Wrote (d ∷ []) m x a y → Took s at (digit ∷ []) (λ v. spell_f (prop v.0)) b to a (at + 1) y
    a_digit b to m x a y d l h r w w' = record { vs = (d, tt); there = value_passes s digit d l (over_digit d l) (char_part s h); wrote = wrote_more r w w' }

-- the answer's variant is known
module _ {s : List ℕ} {at : ℕ} {ns : List Need} {bytes : Values ns → List ℕ} {b : List ℕ} {to : ℕ} {a : List ℕ} {r : Result Taken Fault} where
  pub as_taken : TakenAs s at ns bytes b to a r → (t : Taken) → r ≡ Ok t → Took s at ns bytes b to a t.end t.past
  as_taken (took t' q x) t z = let i : t' ≡ t = cc in subst (λ (u : Taken). Took s at ns bytes b to a u.end u.past) i x
  as_taken (broke f q x) t z = absurd (let y : ◌≡◌ {A = ℕ} 0 1 = cc in omega arith)

  pub as_broken : TakenAs s at ns bytes b to a r → (f : Fault) → r ≡ Err f → Fails s at ns f.place
  as_broken (took t q x) f z = absurd (let y : ◌≡◌ {A = ℕ} 0 1 = cc in omega arith)
  as_broken (broke f' q x) f z = let i : f' ≡ f = cc in subst (λ (g : Fault). Fails s at ns g.place) i x

-- a word, for which one byte was written
pub took_word : (s w : List ℕ) (at kind : ℕ) (b : List ℕ) (to : ℕ) (a : List ℕ) (end past : ℕ) → Part s at w end → Wrote (kind ∷ []) b to a past → Took s at (signs w) (λ v. kind ∷ []) b to a end past
took_word s w at kind b to a end past x y = record { vs = units w; there = word_passes s w x; wrote = y }
