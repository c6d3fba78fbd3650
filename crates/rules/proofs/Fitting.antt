-- The test of two counts, true or false, and what it says. Assumes nothing.
use Prim.Native.Nat.{ℕ}
use native.Mathlib.Omega.{arith}
use mathlib.Core.Path.{◌≡◌, refl}
use mathlib.Core.Bool.{Bool, true, false, ◌&&◌}
use lib.Dec.{leb}
use borrow.Author.Tests.{le-leb, leb-true}
use Rattle.definitions.specs.Encoding.{largest_count, CountsFit, counts_do_fit}

module _ (i j : ℕ) where
  pub fit_true : CountsFit i j → counts_do_fit i j ≡ true
  fit_true f = rw (le-leb i j f.rising, le-leb j largest_count f.small)

  pub true_fit : counts_do_fit i j ≡ true → CountsFit i j
  true_fit e = go (leb i j) refl (leb j largest_count) refl e
    where
      go : (a : Bool) → leb i j ≡ a → (b : Bool) → leb j largest_count ≡ b → a && b ≡ true → CountsFit i j
      go true p true q e = record { rising = leb-true i j p; small = leb-true j largest_count q }
      go true p false q e = let z : ◌≡◌ {A = ℕ} 0 1 = cc in absurd (omega arith)
      go false p b q e = let z : ◌≡◌ {A = ℕ} 0 1 = cc in absurd (omega arith)

  pub false_unfit : counts_do_fit i j ≡ false → CountsFit i j → ⊥
  false_unfit e f = let t = fit_true f in let z : ◌≡◌ {A = ℕ} 0 1 = cc in omega arith

  pub unfit_false : (CountsFit i j → ⊥) → counts_do_fit i j ≡ false
  unfit_false n = go (counts_do_fit i j) refl
    where
      go : (b : Bool) → counts_do_fit i j ≡ b → b ≡ false
      go true e = absurd (n (true_fit e))
      go false e = refl
