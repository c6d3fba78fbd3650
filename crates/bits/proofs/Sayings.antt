-- Laws of `Says`: what follows from a test's answer, and for it. Assumes nothing.
use mathlib.Core.Path.{◌≡◌, refl, sym, ◌∙◌}
use mathlib.Core.Logic.{◌≢◌}
use mathlib.Core.Bool.{Bool, true, false, not, false≢true}
use Prim.Native.Nat.{ℕ, ◌≤◌, ◌<◌}
use native.Mathlib.Omega.{arith}
use lib.Dec.{T, eqb, leb}
use borrow.Author.Tests.{eqb-true, eqb-false, leb-true, leb-false, not-true, not-false}
use Rattle.bits.specs.Says.{Says}
use Rattle.bits.proofs.Truths.{true_T, false_no}

clash : {x : Bool} → x ≡ true → x ≡ false → ⊥
clash p q = false≢true (sym q ∙ p)

-- an answer that is yes, with the reason, and one that is no
pub said_yes : {b : Bool} {P : Type 0} → b ≡ true → P → Says b P
said_yes e p = record { yes_holds = λ _. p; no_fails = λ q _. clash e q }

pub said_no : {b : Bool} {P : Type 0} → b ≡ false → (P → ⊥) → Says b P
said_no e n = record { yes_holds = λ q. absurd (clash q e); no_fails = λ _. n }

pub say_yes : {P : Type 0} → P → Says true P
say_yes p = said_yes refl p

pub say_no : {P : Type 0} → (P → ⊥) → Says false P
say_no n = said_no refl n

-- what is answered yes of P is answered yes of what is true with it
pub says_map : {b : Bool} {P Q : Type 0} → (P → Q) → (Q → P) → Says b P → Says b Q
says_map f g s = record { yes_holds = λ q. f (s.yes_holds q); no_fails = λ q y. s.no_fails q (g y) }

-- where P holds, the answer is yes
pub says_in : {b : Bool} {P : Type 0} → Says b P → P → b ≡ true
says_in {b} {P} s p = go b refl
  where
    go : (x : Bool) → b ≡ x → b ≡ true
    go true q = q
    go false q = absurd (s.no_fails q p)

-- two answers to one question are the same
pub says_once : {b c : Bool} {P : Type 0} → Says b P → Says c P → b ≡ c
says_once {b} {c} {P} s t = go c refl
  where
    go : (x : Bool) → c ≡ x → b ≡ x
    go true q = says_in s (t.yes_holds q)
    go false q = go' b refl
      where
        go' : (y : Bool) → b ≡ y → b ≡ false
        go' true z = absurd (t.no_fails q (s.yes_holds z))
        go' false z = z

-- ---- the tests of the code

-- a test answers whether it is true
pub says_test : {b t : Bool} → b ≡ t → Says b (t ≡ true)
says_test {b} {t} e = record { yes_holds = λ q. sym e ∙ q; no_fails = λ q p. clash p (sym e ∙ q) }

pub says_T : {b t : Bool} → b ≡ t → Says b (T t)
says_T e = record { yes_holds = λ q. true_T (sym e ∙ q); no_fails = λ q. false_no (sym e ∙ q) }

pub says_eq : (a b : ℕ) → Says (eqb a b) (a ≡ b)
says_eq a b = record { yes_holds = eqb-true a b; no_fails = eqb-false a b }

pub says_le : (a b : ℕ) → Says (leb a b) (a ≤ b)
says_le a b = record { yes_holds = leb-true a b; no_fails = λ e h. let l : b < a = leb-false a b e in omega arith }

pub says_some : (a : ℕ) → Says (not (eqb a 0)) (a ≢ 0)
says_some a = record { yes_holds = λ t. eqb-false a 0 (not-true (eqb a 0) t); no_fails = λ t n. n (eqb-true a 0 (not-false (eqb a 0) t)) }

-- a test that came out true, and one that came out false
pub on : {x y : Bool} → x ≡ y → x ≡ true → y ≡ true
on e q = sym e ∙ q

pub off : {x y : Bool} → x ≡ y → x ≡ false → y ≡ true → ⊥
off e q p = clash (e ∙ p) q
