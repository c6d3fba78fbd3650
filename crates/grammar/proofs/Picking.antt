-- One character where something is needed: it has a row, or nothing can be made of it. Assumes nothing.
use Prim.Native.Nat.{ℕ, ◌+◌}
use mathlib.Core.Path.{◌≡◌, refl, ◌∙◌}
use mathlib.Core.Bool.{Bool, true, false, cond}
use mathlib.Core.List.{List, [], ◌∷◌, ◌++◌}
use lib.Dec.{eqb}
use borrow.Author.Tests.{eqb-true}
use Rattle.grammar.specs.inner.Reading.{Need, Value, Rest, Row, rows, Outcome, On, feed, pick}
use Rattle.grammar.proofs.Rights.{Right, Rights, rights}

-- no row has the character
abbrev pub Closes : (n : Need) → List (Row n) → ℕ → Type 0
Closes n rs c = (on : On) (ns : List Need) (k : Value n → Rest ns) (at : ℕ) (other : Outcome) → pick n rs c on ns k at other ≡ other

-- this row has it
abbrev pub Opens : (n : Need) → List (Row n) → ℕ → Row n → Type 0
Opens n rs c r = (on : On) (ns : List Need) (k : Value n → Rest ns) (at : ℕ) (other : Outcome) → pick n rs c on ns k at other ≡ on (r.needs ++ ns) (feed n r.needs ns r.made k) (at + 1)

pub data Picked (n : Need) (rs : List (Row n)) (c : ℕ) : Type 0 where
  none : Closes n rs c → Picked n rs c
  some : (r : Row n) → Right n r → c ≡ r.char → Opens n rs c r → Picked n rs c

pub at_once : (t : Bool) (a b : Outcome) → t ≡ true → cond t a b ≡ a
at_once true a b q = refl
at_once false a b q = cc

pub later : (t : Bool) (a b : Outcome) → t ≡ false → cond t a b ≡ b
later true a b q = cc
later false a b q = refl

pick_from : (n : Need) (rs : List (Row n)) (c : ℕ) → Rights n rs → Picked n rs c
pick_from n [] c h = none (λ on ns k at other. refl)
pick_from n (r ∷ rs) c (h, hs) = go (eqb c r.char) refl (pick_from n rs c hs)
  where
    go : (t : Bool) → eqb c r.char ≡ t → Picked n rs c → Picked n (r ∷ rs) c
    go true e p = some r h (eqb-true c r.char e) (λ on ns k at other. at_once (eqb c r.char) _ _ e)
    go false e (none f) = none (λ on ns k at other. later (eqb c r.char) _ _ e ∙ f on ns k at other)
    go false e (some r' h' q f) = some r' h' q (λ on ns k at other. later (eqb c r.char) _ _ e ∙ f on ns k at other)

pub picked : (n : Need) (c : ℕ) → Picked n (rows n c) c
picked n c = pick_from n (rows n c) c (rights n c)
