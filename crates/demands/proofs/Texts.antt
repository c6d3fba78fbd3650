-- What request 2026-01 asks of reading and writing texts. Assumes nothing.
use Prim.Native.Nat.{ℕ, ◌≤◌, ◌<◌}
use native.Mathlib.Omega.{arith}
use mathlib.Core.Path.{◌≡◌, refl, sym, ap, subst, ◌∙◌}
use mathlib.Core.List.{List, ◌++◌}
use lib.ListN.{length, take, drop}
use lib.Seq.{take_at}
use Rattle.rules.specs.declared.Known.{Known}
use Rattle.definitions.specs.Definition1.{Rule}
use Rattle.rules.specs.Weight.{weight_of}
use Rattle.definitions.specs.Encoding.{spell}
use Rattle.rules.specs.Answer.{known_of}
use Rattle.rules.specs.Answer as rules
use Rattle.rules.proofs.Faulting.{refused_line, line_refused}
use Rattle.grammar.specs.Text.{text}
use Rattle.texts.specs.Answer as answer
use Rattle.texts.specs.Answer.{Result, given, refused, told, Gives, ReadRight, WriteRight}
use Rattle.grammar.proofs.Lengths.{text_lengths}
use Rattle.texts.proofs.Sharing.{one_rule, one_place, text_injective}
use Rattle.texts.proofs.BackAndForth as back_and_forth
use Rattle.texts.proofs.Once as once
use Rattle.texts.proofs.Held.{places_right}
use Rattle.text_lines.proofs.Once as line-once
use Rattle.text_lines.proofs.Beginning.{beginning}
use Rattle.demands.specs.Terms.{Spells}
use Rattle.demands.specs.Texts.{TextOf, Holds, ReadAs, AcceptedAreTexts, TextsAreAccepted, WrittenAs, WrittenAreTexts, RulesAreWritten, ReadsBack, WritesBack, FiveForAByte, ReadFault, WriteFault, ReadRefusedExactly, WriteRefusedExactly, RefusedReadKeeps, RefusedWriteKeeps, OneRead, OneWrite, Texts}
use Rattle.demands.specs.Texts as faults
use Rattle.demands.proofs.Spellings.{accepted_as, spells_of, same_rule, never_refused}

not_given : {n p m : ℕ} {k : Known} → refused n p ≡ given m k → ⊥
not_given q = let z : ◌≡◌ {A = ℕ} 0 1 = cc in omega arith

-- ---- what is given

-- what is written to an output, where something is
given_holds : {part before after : List ℕ} {k : Known} {n : ℕ} {k' : Known} → Gives part k before after (given n k') → Holds part before after n × (k' ≡ k)
given_holds (answer.short_output l p e) = absurd (not_given (sym e))
given_holds {part} {before} {after} {k} {n} {k'} (answer.written l w e) =
    let c : n ≡ length part = cc in
    (record { room = l; count = c; content = w.content ∙ ap (λ (i : ℕ). part ++ drop i before) (sym c) }, cc)

-- with room, something is
room_given : {part before after : List ℕ} {k : Known} {x : Result} → length part ≤ length before → Gives part k before after x
    → (x ≡ given (length part) k) × Holds part before after (length part)
room_given h (answer.short_output l p e) = absurd (omega arith)
room_given h (answer.written l w e) = (e, record { room = l; count = refl; content = w.content })

-- what the output then begins with
begins : {part before after : List ℕ} {n : ℕ} → Holds part before after n → take n after ≡ part
begins {part} {before} {after} {n} h = ap (take n) h.content ∙ take_at part (drop n before) n (sym h.count)

-- ---- what is accepted

read_as : (s before after : List ℕ) (n : ℕ) (k : Known) {x : Result} → x ≡ given n k → ReadRight s before after x → (r : Rule) × ReadAs s before after n k r
read_as s before after n k q (answer.too_long l p e) = absurd (not_given (sym e ∙ q))
read_as s before after n k q (answer.no_text l t z h p e) = absurd (not_given (sym e ∙ q))
read_as s before after n k q (answer.many_bytes l r i m p e) = absurd (not_given (sym e ∙ q))
read_as s before after n k q (answer.heavy l r i m w p e) = absurd (not_given (sym e ∙ q))
read_as s before after n k q (answer.read l r i m w g) =
    let h = given_holds (subst (λ (y : Result). Gives (spell r) (known_of r) before after y) q g) in
    (r, record { text_of = record { is_text = i; short = l; few_bytes = m; light = w }; holds = h.0; known = h.1 })

pub accepted_are_texts : AcceptedAreTexts
accepted_are_texts s before after n k x = read_as s before after n k refl x

-- what reading a text of the grammar gives
read_given : (s before after : List ℕ) (x : Result) (r : Rule) → TextOf s r → ReadRight s before after x → Gives (spell r) (known_of r) before after x
read_given s before after x r t (answer.too_long l p e) = let u = t.short in absurd (omega arith)
read_given s before after x r t (answer.no_text l f z y p e) = absurd (f r t.is_text)
read_given s before after x r t (answer.many_bytes l r' i m p e) =
    let u = ap (λ (v : Rule). length (spell v)) (one_rule s r r' t.is_text i) in
    let y = t.few_bytes in
    absurd (omega arith)
read_given s before after x r t (answer.heavy l r' i m y p e) = let u = ap weight_of (one_rule s r r' t.is_text i) in let z = t.light in absurd (omega arith)
read_given s before after x r t (answer.read l r' i m y g) =
    subst (λ (v : Rule). Gives (spell v) (known_of v) before after x) (sym (one_rule s r r' t.is_text i)) g

pub texts_are_accepted : TextsAreAccepted
texts_are_accepted s before after x r t h a = (room_given h (read_given s before after x r t a)).0

written_as : (s before after : List ℕ) (n : ℕ) (k : Known) {x : Result} → x ≡ given n k → WriteRight s before after x → (r : Rule) × WrittenAs s before after n k r
written_as s before after n k q (answer.not_a_rule m p e a z) = absurd (not_given (sym z ∙ q))
written_as s before after n k q (answer.wrote r a g) =
    let h = given_holds (subst (λ (y : Result). Gives (text r) (known_of r) before after y) q g) in
    (r, record { spelt = spells_of a; holds = h.0; known = h.1 })

pub written_are_texts : WrittenAreTexts
written_are_texts s before after n k x = written_as s before after n k refl x

write_given : (s before after : List ℕ) (x : Result) (r : Rule) → Spells s r → WriteRight s before after x → Gives (text r) (known_of r) before after x
write_given s before after x r t (answer.not_a_rule n p e a z) = absurd (never_refused t e)
write_given s before after x r t (answer.wrote r' a g) =
    subst (λ (v : Rule). Gives (text v) (known_of v) before after x) (sym (same_rule t a)) g

pub rules_are_written : RulesAreWritten
rules_are_written s before after x r t h a = (room_given h (write_given s before after x r t a)).0

-- ---- back and forth

pub reads_back : ReadsBack
reads_back s before after n k w out out' x h a =
    let o = written_are_texts s before after n k w in
    let r = o.0 in
    let b = o.1.spelt in
    let a' : ReadRight (text r) out out' x = subst (λ (t : List ℕ). ReadRight t out out' x) (begins o.1.holds) a in
    let g = back_and_forth.reads_back s r (accepted_as b) out out' x a' in
    subst (λ (z : Known). (x ≡ given (length s) z) × Holds s out out' (length s)) (sym o.1.known) (room_given h g)

pub writes_back : WritesBack
writes_back s before after n k w out out' x h a =
    let o = accepted_are_texts s before after n k w in
    let r = o.0 in
    let t = o.1.text_of in
    let a' : WriteRight (spell r) out out' x = subst (λ (b : List ℕ). WriteRight b out out' x) (begins o.1.holds) a in
    let g = back_and_forth.writes_back s r t.is_text t.few_bytes t.light out out' x a' in
    subst (λ (z : Known). (x ≡ given (length s) z) × Holds s out out' (length s)) (sym o.1.known) (room_given h g)

pub five_for_a_byte : FiveForAByte
five_for_a_byte s before after n k w =
    let o = written_are_texts s before after n k w in
    let l = text_lengths o.0 o.1.spelt.propositions in
    let e = ap length o.1.spelt.bytes in
    let c = o.1.holds.count in
    let h = o.1.spelt.short in
    (omega arith, omega arith)

-- ---- refusals

short_fault : {part before after : List ℕ} {k : Known} {x : Result} {n p : ℕ} → Gives part k before after x → x ≡ refused n p → (length before < length part) × (32 ≡ n) × (0 ≡ p)
short_fault (answer.short_output l a e) q = (l, cc, cc)
short_fault (answer.written l w e) q = absurd (not_given (sym q ∙ e))

short_refused : {part before after : List ℕ} {k : Known} {x : Result} → Gives part k before after x → length before < length part → x ≡ refused 32 0
short_refused (answer.short_output l a e) h = e
short_refused (answer.written l w e) h = absurd (omega arith)

pub read_refused_exactly : ReadRefusedExactly
read_refused_exactly s before after x n p a = (out a, back a)
  where
    out : {x : Result} → ReadRight s before after x → x ≡ refused n p → ReadFault s before n p
    out (answer.too_long l a e) q = let u : 30 ≡ n = cc in let v : 0 ≡ p = cc in rw (← u, ← v) (faults.too_long l)
    out (answer.no_text l f i h a e) q = let u : 31 ≡ n = cc in let v : i ≡ p = cc in rw (← u, ← v) (faults.no_text l f h)
    out (answer.many_bytes l r i m a e) q = let u : 1 ≡ n = cc in let v : 0 ≡ p = cc in rw (← u, ← v) (faults.many_bytes r l i m)
    out (answer.heavy l r i m w a e) q = let u : 7 ≡ n = cc in let v : 0 ≡ p = cc in rw (← u, ← v) (faults.too_heavy r l i m w)
    out (answer.read l r i m w g) q =
        let f = short_fault g q in
        let u = f.1 in
        let v = f.2 in
        rw (← u, ← v) (faults.short_output r (record { is_text = i; short = l; few_bytes = m; light = w }) f.0)

    back : {x : Result} {n p : ℕ} → ReadRight s before after x → ReadFault s before n p → x ≡ refused n p
    back (answer.too_long l a e) (faults.too_long h) = e
    back (answer.too_long l a e) (faults.no_text h f t) = absurd (omega arith)
    back (answer.too_long l a e) (faults.many_bytes r h i m) = absurd (omega arith)
    back (answer.too_long l a e) (faults.too_heavy r h i m w) = absurd (omega arith)
    back (answer.too_long l a e) (faults.short_output r t h) = let u = t.short in absurd (omega arith)
    back (answer.no_text l f i h a e) (faults.too_long k) = absurd (omega arith)
    back (answer.no_text l f i h a e) (faults.no_text k f' t) = e ∙ ap (refused 31) (one_place s _ _ h t)
    back (answer.no_text l f i h a e) (faults.many_bytes r k j m) = absurd (f r j)
    back (answer.no_text l f i h a e) (faults.too_heavy r k j m w) = absurd (f r j)
    back (answer.no_text l f i h a e) (faults.short_output r t k) = absurd (f r t.is_text)
    back (answer.many_bytes l r i m a e) (faults.too_long h) = absurd (omega arith)
    back (answer.many_bytes l r i m a e) (faults.no_text h f t) = absurd (f r i)
    back (answer.many_bytes l r i m a e) (faults.many_bytes r' h j k) = e
    back (answer.many_bytes l r i m a e) (faults.too_heavy r' h j k w) = let u = ap (λ (v : Rule). length (spell v)) (one_rule s r r' i j) in absurd (omega arith)
    back (answer.many_bytes l r i m a e) (faults.short_output r' t h) =
        let u = ap (λ (v : Rule). length (spell v)) (one_rule s r r' i t.is_text) in
        let k = t.few_bytes in
        absurd (omega arith)
    back (answer.heavy l r i m w a e) (faults.too_long h) = absurd (omega arith)
    back (answer.heavy l r i m w a e) (faults.no_text h f t) = absurd (f r i)
    back (answer.heavy l r i m w a e) (faults.many_bytes r' h j k) = let u = ap (λ (v : Rule). length (spell v)) (one_rule s r r' i j) in absurd (omega arith)
    back (answer.heavy l r i m w a e) (faults.too_heavy r' h j k y) = e
    back (answer.heavy l r i m w a e) (faults.short_output r' t h) = let u = ap weight_of (one_rule s r r' i t.is_text) in let k = t.light in absurd (omega arith)
    back (answer.read l r i m w g) (faults.too_long h) = absurd (omega arith)
    back (answer.read l r i m w g) (faults.no_text h f t) = absurd (f r i)
    back (answer.read l r i m w g) (faults.many_bytes r' h j k) = let u = ap (λ (v : Rule). length (spell v)) (one_rule s r r' i j) in absurd (omega arith)
    back (answer.read l r i m w g) (faults.too_heavy r' h j k y) = let u = ap weight_of (one_rule s r r' i j) in absurd (omega arith)
    back (answer.read l r i m w g) (faults.short_output r' t h) =
        let u = ap (λ (v : Rule). length (spell v)) (one_rule s r r' i t.is_text) in
        short_refused g (omega arith)

pub write_refused_exactly : WriteRefusedExactly
write_refused_exactly s before after x n p a = (out a, back a)
  where
    out : {x : Result} → WriteRight s before after x → x ≡ refused n p → WriteFault s before n p
    out (answer.not_a_rule m i e a z) q = let u : m ≡ n = cc in let v : i ≡ p = cc in rw (← u, ← v) (faults.of_rule (refused_line s m i e))
    out (answer.wrote r a g) q =
        let f = short_fault g q in
        let u = f.1 in
        let v = f.2 in
        rw (← u, ← v) (faults.short_output r (spells_of a) f.0)

    back : {x : Result} {n p : ℕ} → WriteRight s before after x → WriteFault s before n p → x ≡ refused n p
    back {n = n} {p = p} (answer.not_a_rule m i e a z) (faults.of_rule f) =
        let w : rules.refused m i ≡ rules.refused n p = sym e ∙ line_refused s n p f in
        let u : m ≡ n = cc in
        let v : i ≡ p = cc in
        z ∙ ap (λ (j : ℕ). refused j i) u ∙ ap (refused n) v
    back (answer.not_a_rule m i e a z) (faults.short_output r t h) = absurd (never_refused t e)
    back {n = n} {p = p} (answer.wrote r a g) (faults.of_rule f) = absurd (never_refused (spells_of a) (line_refused s n p f))
    back (answer.wrote r a g) (faults.short_output r' t h) =
        let u = ap (λ (v : Rule). length (text v)) (same_rule t a) in
        short_refused g (omega arith)

kept_gift : {part before after : List ℕ} {k : Known} {x : Result} {n p : ℕ} → Gives part k before after x → x ≡ refused n p → after ≡ before
kept_gift (answer.short_output l a e) q = a
kept_gift (answer.written l w e) q = absurd (not_given (sym q ∙ e))

pub refused_read_keeps : RefusedReadKeeps
refused_read_keeps s before after n p a = go a refl
  where
    go : {x : Result} → ReadRight s before after x → x ≡ refused n p → after ≡ before
    go (answer.too_long l a e) q = a
    go (answer.no_text l f i h a e) q = a
    go (answer.many_bytes l r i m a e) q = a
    go (answer.heavy l r i m w a e) q = a
    go (answer.read l r i m w g) q = kept_gift g q

pub refused_write_keeps : RefusedWriteKeeps
refused_write_keeps s before after n p a = go a refl
  where
    go : {x : Result} → WriteRight s before after x → x ≡ refused n p → after ≡ before
    go (answer.not_a_rule m i e a z) q = a
    go (answer.wrote r a g) q = kept_gift g q

-- ---- one answer

pub one_read : OneRead
one_read s before u v a b x y = let o = once.one_read s before u v (told a) (told b) x y in (once.one_answer a b o.0, o.1)

pub one_write : OneWrite
one_write s before u v a b x y = let o = once.one_write s before u v (told a) (told b) x y in (once.one_answer a b o.0, o.1)

pub texts : Texts
texts = record {
  accepted_are_texts = accepted_are_texts;
  texts_are_accepted = texts_are_accepted;
  written_are_texts = written_are_texts;
  rules_are_written = rules_are_written;
  one_reading = text_injective;
  reads_back = reads_back;
  writes_back = writes_back;
  five_for_a_byte = five_for_a_byte;
  read_refused_exactly = read_refused_exactly;
  write_refused_exactly = write_refused_exactly;
  refused_read_keeps = refused_read_keeps;
  refused_write_keeps = refused_write_keeps;
  one_read = one_read;
  one_write = one_write;
  first_bytes_decide = beginning;
  one_text_line = line-once.one_answer;
  places_held = places_right;
}
