-- Laws of a run's text: one state more, and how long it gets. Assumes nothing.
use Prim.Native.Nat.{ℕ, ◌+◌, ◌-◌, ◌*◌, ◌≤◌, ◌<◌}
use native.Mathlib.Omega.{arith}
use native.Mathlib.Numerals.{add-one}
use mathlib.Core.Path.{◌≡◌, refl, sym, ap, subst, ◌∙◌}
use mathlib.Core.Bool.{Bool}
use mathlib.Core.List.{List, [], ◌∷◌, ◌++◌, append_assoc, append-nil}
use lib.ListN.{length, get_or, take, drop, length-append}
use lib.Seq.{take-suc}
use Rattle.std.proofs.lemmas.List.{take_all, take-append-drop}
use Rattle.models.specs.Model.{Model, Walk}
use Rattle.lines.specs.Text.{entry_text, states_text}
use Rattle.writing.specs.Wrote.{Wrote}
use Rattle.writing.proofs.Wrotes.{wrote_none, wrote_more}
use Rattle.writing.proofs.Decimals.{decimal_short}

states_append : (r q : List ℕ) → states_text (r ++ q) ≡ states_text r ++ states_text q
unfolding states_text
states_append [] q = refl
states_append (s ∷ r) q = ap (λ (t : List ℕ). entry_text s ++ t) (states_append r q) ∙ sym (append_assoc (entry_text s) (states_text r) (states_text q))

states_single : (s : ℕ) → states_text (s ∷ []) ≡ entry_text s
unfolding states_text
states_single s = append-nil (entry_text s)

-- one state more
pub states_one : (r : List ℕ) (i : ℕ) → i < length r → states_text (take i r) ++ entry_text (get_or r i 0) ≡ states_text (take (i + 1) r)
states_one r i h =
    ap (λ (t : List ℕ). states_text (take i r) ++ t) (sym (states_single (get_or r i 0)))
    ∙ sym (states_append (take i r) (get_or r i 0 ∷ []))
    ∙ ap states_text (sym (take-suc r i 0 h) ∙ ap (λ (k : ℕ). take k r) (sym (add-one i)))

-- what is written by then is a part of the whole
states_room : (r : List ℕ) (i : ℕ) → length (states_text (take i r)) ≤ length (states_text r)
states_room r i =
    let l : length (states_text (take i r)) + length (states_text (drop i r)) ≡ length (states_text r) =
    sym (length-append (states_text (take i r)) (states_text (drop i r)))
    ∙ ap length (sym (states_append (take i r) (drop i r)))
    ∙ ap (λ (z : List ℕ). length (states_text z)) (take-append-drop i r) in
    omega arith

-- a part of a run is no longer, and all of it is the run
pub states_part : (r : List ℕ) (n m : ℕ) → length (states_text (take n (drop m r))) ≤ length (states_text r)
states_part r n m =
    let l : length (states_text (take m r)) + length (states_text (drop m r)) ≡ length (states_text r) =
    sym (length-append (states_text (take m r)) (states_text (drop m r)))
    ∙ ap length (sym (states_append (take m r) (drop m r)))
    ∙ ap (λ (z : List ℕ). length (states_text z)) (take-append-drop m r) in
    let p = states_room (drop m r) n in
    omega arith

pub states_all : (r : List ℕ) (n m : ℕ) → n ≡ length r → m ≡ 0 → states_text (take n (drop m r)) ≡ states_text r
states_all r n m e z = ap (λ (k : ℕ). states_text (take n (drop k r))) z ∙ ap states_text (take_all n r (omega arith))

-- a blank and at most two digits for each state
pub states_short : (M : Model) → M.states ≤ 64 → (ok : ℕ → Bool) (r : List ℕ) → Walk M ok r → length (states_text r) ≤ 3 * length r
unfolding states_text
states_short M few ok [] w = omega arith
states_short M few ok (s ∷ r) w =
    let d = decimal_short 1 s (omega arith) in
    let l = length-append (entry_text s) (states_text r) in
    let i = states_short M few (M.next s) r w.2 in
    omega arith

-- writing them state by state
module _ (r b : List ℕ) (at i : ℕ) {o : List ℕ} {e : ℕ} (room : at + length (states_text r) ≤ length b) (x : Wrote (states_text (take i r)) b at o e) where
  pub state_room : i < length r → e + length (entry_text (get_or r i 0)) ≤ length o
  state_room h =
      let l : length (states_text (take i r)) + length (entry_text (get_or r i 0)) ≡ length (states_text (take (i + 1) r)) =
      sym (length-append (states_text (take i r)) (entry_text (get_or r i 0))) ∙ ap length (states_one r i h) in
      let m = states_room r (i + 1) in
      let u = x.ends in
      let v = x.size in
      omega arith

  pub state_turn : {o' : List ℕ} {e' : ℕ} → i < length r → Wrote (entry_text (get_or r i 0)) o e o' e' → Wrote (states_text (take (i + 1) r)) b at o' e'
  state_turn {o'} {e'} h y = subst (λ (p : List ℕ). Wrote p b at o' e') (states_one r i h) (wrote_more (omega arith) x y)

pub states_none : (r b : List ℕ) (at : ℕ) → Wrote (states_text (take 0 r)) b at b at
unfolding states_text
states_none r b at = wrote_none b at

pub states_whole : (r b : List ℕ) (at i : ℕ) {o : List ℕ} {e : ℕ} → length r ≤ i → Wrote (states_text (take i r)) b at o e → Wrote (states_text r) b at o e
states_whole r b at i {o} {e} h x = subst (λ (z : List ℕ). Wrote (states_text z) b at o e) (take_all i r h) x

-- what is written is the text of all of it
pub states_as : (r : List ℕ) {p b o : List ℕ} {at e : ℕ} → Wrote p b at o e → p ≡ states_text r → Wrote (states_text r) b at o e
states_as r {p} {b} {o} {at} {e} x q = subst (λ (z : List ℕ). Wrote z b at o e) q x
