-- What a state accepts, and what every construction keeps. Assumes nothing.
use Prim.Native.Nat.{ℕ, ◌+◌, ◌<◌}
use native.Mathlib.Omega.{arith}
use mathlib.Core.Path.{◌≡◌, refl}
use mathlib.Core.Logic.{◌↔◌}
use mathlib.Core.Bool.{Bool}
use mathlib.Core.List.{List, [], ◌∷◌}
use Rattle.automata.specs.Auto.{Auto, Leads, Takes}
use Rattle.automata.specs.Build.{empty_a, letter_a, the_label, Up}

-- w leads from p to some final state
abbrev pub Acc : Auto → ℕ → List ℕ → Type 0
Acc A p [] = A.final p
Acc A p (x ∷ w) = (q : ℕ) × A.step p x q × Acc A q w

pub acc_of : (A : Auto) (p q : ℕ) (w : List ℕ) → Leads A p w q → A.final q → Acc A p w
unfolding Leads
acc_of A p q [] r f = rw r f
acc_of A p q (x ∷ w) r f = (r.0, r.1, acc_of A r.0 q w r.2 f)

pub of_acc : (A : Auto) (p : ℕ) (w : List ℕ) → Acc A p w → (q : ℕ) × Leads A p w q × A.final q
unfolding Leads
of_acc A p [] a = (p, refl, a)
of_acc A p (x ∷ w) a = let r = of_acc A a.0 w a.2 in (r.0, (a.0, a.1, r.1), r.2)

pub takes_acc : (A : Auto) (w : List ℕ) → Takes A w ↔ Acc A 0 w
unfolding Takes
takes_acc A w = (λ a. acc_of A 0 a.0 w a.1 a.2, of_acc A 0 w)

-- what a construction keeps: its steps and finals lie below its size, and no step enters 0
pub record Edge (n p q : ℕ) : Type 0 where
  pub lo : p < n
  pub hi : q < n
  pub no0 : 0 < q

pub record Good (A : Auto) : Type 0 where
  pub pos : 0 < A.size
  pub edge : (p x q : ℕ) → A.step p x q → Edge A.size p q
  pub fin : (q : ℕ) → A.final q → q < A.size

pub good_empty : Good empty_a
good_empty = record { pos = omega arith; edge = λ p x q. elim [ ]; fin = λ q e. omega arith }

pub good_letter : (f : ℕ → Bool) → Good (letter_a f)
good_letter f = record { pos = omega arith; edge = λ p x q. elim [ the_label a b c ↦ omega arith ]; fin = λ q e. omega arith }

-- a copy of S moved up by k lies above k
pub up_edge : (k n : ℕ) (S : ℕ → ℕ → ℕ → Type 0) → ((i x j : ℕ) → S i x j → Edge n i j) → (p x q : ℕ) → Up k S p x q → Edge (k + n) p q
up_edge k n S h p x q (Up.up i j e e' s) = let d = h i x j s in omega arith

-- b's states stand in C moved up by k, and what leaves them there is what leaves them in b: they accept the same there
module _ (B C : Auto) (gB : Good B) (k : ℕ)
    (fin : (i : ℕ) → i < B.size → C.final (k + i) ↔ B.final i)
    (row : (i x q : ℕ) → i < B.size → C.step (k + i) x q ↔ ((j : ℕ) × (q ≡ k + j) × B.step i x j)) where
  pub copy_out : (i : ℕ) → i < B.size → (w : List ℕ) → Acc C (k + i) w → Acc B i w
  copy_out i l [] a = (fin i l).0 a
  copy_out i l (x ∷ w) (q, s, a) =
      let h = (row i x q l).0 s in
      (h.0, h.2, copy_out h.0 (gB.edge i x h.0 h.2).hi w (rw h.1 at a))

  pub copy_in : (i : ℕ) → i < B.size → (w : List ℕ) → Acc B i w → Acc C (k + i) w
  copy_in i l [] a = (fin i l).1 a
  copy_in i l (x ∷ w) (j, s, a) = (k + j, (row i x (k + j) l).1 (j, refl, s), copy_in j (gB.edge i x j s).hi w a)
