-- Writing a number: its last digit after those of its tenth. Assumes nothing.
use Prim.Native.Nat.{ℕ, ◌+◌, ◌/◌, ◌%◌, ◌≤◌, ◌<◌}
use native.Mathlib.Omega.{arith}
use mathlib.Core.Path.{◌≡◌, sym, ap, subst, ◌∙◌}
use mathlib.Core.List.{List, [], ◌∷◌, ◌++◌}
use lib.ListN.{length}
use Rattle.writing.specs.Decimal.{digit, decimal}
use Rattle.writing.specs.Wrote.{Wrote}
use Rattle.writing.proofs.Wrotes.{wrote_more}
use Rattle.writing.proofs.Decimals.{decimal_few, decimal_more, few_short, more_short}

-- a number below 10
module _ (n at : ℕ) (b : List ℕ) (few : n < 10) (room : at + length (decimal n) ≤ length b) where
  pub few_room : at < length b
  few_room = let l = few_short n few in omega arith

  pub few_wrote : {d e : ℕ} {a : List ℕ} → d ≡ digit n → Wrote (d ∷ []) b at a e → Wrote (decimal n) b at a e
  few_wrote {d} {e} {a} q x = subst (λ (p : List ℕ). Wrote p b at a e) (ap (λ (k : ℕ). k ∷ []) q ∙ sym (decimal_few n few)) x

-- any other
module _ (n at : ℕ) (b : List ℕ) (more : 10 ≤ n) (room : at + length (decimal n) ≤ length b) where
  pub tenth_room : at + length (decimal (n / 10)) ≤ length b
  tenth_room = let l = more_short n more in omega arith

  module _ {m : List ℕ} {e : ℕ} (x : Wrote (decimal (n / 10)) b at m e) where
    pub last_room : e < length m
    last_room = let l = more_short n more in let u = x.ends in let v = x.size in omega arith

    pub last_wrote : {d e' : ℕ} {a : List ℕ} → d ≡ digit (n % 10) → Wrote (d ∷ []) m e a e' → Wrote (decimal n) b at a e'
    last_wrote {d} {e'} {a} q y =
        subst (λ (p : List ℕ). Wrote p b at a e') (ap (λ (k : ℕ). decimal (n / 10) ++ (k ∷ [])) q ∙ sym (decimal_more n more)) (wrote_more (omega arith) x y)
