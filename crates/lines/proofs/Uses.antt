-- Laws of the text of a set: one number more, and how long it gets. Assumes nothing.
use Prim.Native.Nat.{ℕ, zero, suc, ◌+◌, ◌*◌, ◌≤◌, ◌<◌}
use native.Mathlib.Omega.{arith}
use native.Mathlib.Numerals.{add-one}
use mathlib.Core.Path.{◌≡◌, sym, subst}
use mathlib.Core.Bool.{Bool, true, false, cond}
use mathlib.Core.List.{List, []}
use lib.ListN.{length, length-append}
use borrow.Author.Tests.{eq-eqb, ne_eqb}
use Rattle.bits.specs.Word.{bit}
use Rattle.rules.specs.Named.{proposition_count}
use Rattle.lines.specs.Text.{no_member_text, uses_word, entry_text, member_text, members_text, set_text, uses_text}
use Rattle.lines.specs.Room.{uses_room}
use Rattle.writing.specs.Wrote.{Wrote}
use Rattle.writing.proofs.Wrotes.{wrote_none, wrote_more}
use Rattle.writing.proofs.Decimals.{few_short}

member_short : (w i : ℕ) → i < 10 → length (member_text w i) ≤ 2
member_short w i h = go (bit w i)
  where
    go : (b : Bool) → length (cond b (entry_text i) []) ≤ 2
    go true = let d = few_short i h in omega arith
    go false = omega arith

members_short : (w n : ℕ) → n ≤ 10 → length (members_text n w) ≤ 2 * n
unfolding members_text
members_short w zero h = omega arith
members_short w (suc n) h =
    let l = length-append (members_text n w) (member_text w n) in
    let a = members_short w n (omega arith) in
    let b = member_short w n (omega arith) in
    omega arith

-- writing it number by number
module _ (w at : ℕ) (b : List ℕ) (i : ℕ) {o : List ℕ} {e : ℕ} (room : at + 2 * proposition_count ≤ length b) (x : Wrote (members_text i w) b at o e) where
  pub member_room : i < proposition_count → e + length (member_text w i) ≤ length o
  member_room h =
      let l = members_short w i (omega arith) in
      let m = member_short w i (omega arith) in
      let u = x.ends in
      let v = x.size in
      omega arith

  pub member_turn : {o' : List ℕ} {e' : ℕ} → Wrote (member_text w i) o e o' e' → Wrote (members_text (i + 1) w) b at o' e'
  unfolding members_text
  member_turn {o'} {e'} y = subst (λ (k : ℕ). Wrote (members_text k w) b at o' e') (sym (add-one i)) (wrote_more (omega arith) x y)

  pub members_whole : i ≡ proposition_count → Wrote (members_text proposition_count w) b at o e
  members_whole h = subst (λ (k : ℕ). Wrote (members_text k w) b at o e) h x

pub members_none : (w at : ℕ) (b : List ℕ) → Wrote (members_text 0 w) b at b at
unfolding members_text
members_none w at b = wrote_none b at

-- a number that is in the set, and one that is not
pub member_in : (w i at : ℕ) (b : List ℕ) {o : List ℕ} {e : ℕ} → bit w i ≡ true → Wrote (entry_text i) b at o e → Wrote (member_text w i) b at o e
member_in w i at b {o} {e} q x = subst (λ (t : Bool). Wrote (cond t (entry_text i) []) b at o e) (sym q) x

pub member_out : (w i at : ℕ) (b : List ℕ) → bit w i ≡ false → Wrote (member_text w i) b at b at
member_out w i at b q = subst (λ (t : Bool). Wrote (cond t (entry_text i) []) b at b at) (sym q) (wrote_none b at)

pub entry_fits : (w i at : ℕ) (b : List ℕ) → bit w i ≡ true → at + length (member_text w i) ≤ length b → at + length (entry_text i) ≤ length b
entry_fits w i at b q h = subst (λ (t : Bool). at + length (cond t (entry_text i) []) ≤ length b) q h

-- a set with members, and one without
module _ (w at : ℕ) (b : List ℕ) {o : List ℕ} {e : ℕ} where
  pub set_none : w ≡ 0 → Wrote no_member_text b at o e → Wrote (set_text w) b at o e
  unfolding set_text
  set_none q x = subst (λ (t : Bool). Wrote (cond t no_member_text (members_text proposition_count w)) b at o e) (sym (eq-eqb w 0 q)) x

  pub set_some : (w ≡ 0 → ⊥) → Wrote (members_text proposition_count w) b at o e → Wrote (set_text w) b at o e
  unfolding set_text
  set_some q x = subst (λ (t : Bool). Wrote (cond t no_member_text (members_text proposition_count w)) b at o e) (sym (ne_eqb w 0 q)) x

-- the word, and then the set
pub uses_says : (w at : ℕ) (b : List ℕ) {m o : List ℕ} {p e : ℕ} → at + uses_room ≤ length b → Wrote uses_word b at m p → Wrote (set_text w) m p o e → Wrote (uses_text w) b at o e
unfolding uses_text
uses_says w at b h x y = wrote_more (omega arith) x y

pub set_room : (at : ℕ) (b : List ℕ) {m : List ℕ} {p : ℕ} → at + uses_room ≤ length b → Wrote uses_word b at m p → p + 2 * proposition_count ≤ length m
set_room at b h x = let u = x.ends in let v = x.size in omega arith
