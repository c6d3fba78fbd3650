-- What `any` over the cuts of a part says: whether some cut in the range passes the test. Assumes nothing.
use mathlib.Core.Path.{◌≡◌, refl, sym, subst, ◌∙◌}
use mathlib.Core.Bool.{Bool, true, false, ◌&&◌, false≢true}
use mathlib.Core.List.{List}
use Prim.Native.Nat.{ℕ, ◌+◌, ◌-◌, ◌≤◌, ◌<◌}
use native.Mathlib.Omega.{arith}
use lib.ListN.{length, get_or}
use denote.Param.Members.{Mut}
use Rattle.std.specs.declared.ops.Range.{Range}
use Rattle.std.specs.declared.option.Option.{Option}
use Rattle.std.specs.Iterator.{YieldsThen}
use Rattle.std.specs.List.{FoldsTo, range_with_len, AllWithin, HoldsAt}
use Rattle.std.specs.Fn.{Called}
use Rattle.std.specs.Option.{MatchOption}
use Rattle.std.specs.Bool.{MatchBool}
use Rattle.std.proofs.iter.Yields.{nat_range_steps}
use Rattle.std.proofs.lemmas.Iterator.{cases_from_any, YieldsList-from_range}
use Rattle.std.proofs.lemmas.List.FromFn.{length-range_with_len, get_or-range_with_len}
use Rattle.bits.specs.Says.{Says}
use Rattle.bits.proofs.Sayings.{say_yes, say_no}

-- some number from i on and below e passes the test
pub record Some (test : ℕ → Bool) (i e : ℕ) : Type 0 where
  pub cut : ℕ
  pub from : i ≤ cut
  pub to : cut < e
  pub passes : test cut ≡ true

module _ {F : Type 0} {g : Mut F (ℕ × Unit {0}) Bool} (test : ℕ → Bool) (s u : Range ℕ) (f : F) (r : Bool)
    (ran : (xs : List ℕ) × (o : Option ℕ) × (j : F) × YieldsThen nat_range_steps s xs o u × FoldsTo (λ p x q. Called g p (x, tt) false q) f xs j × MatchOption o (r ≡ false) (λ x. (r ≡ true) × ((h : F) × Called g j (x, tt) true h)))
    (computes : (x : ℕ) (b : Bool) (q : F) → Called g f (x, tt) b q → (q ≡ f) × (b ≡ test x)) where
  abbrev cuts : List ℕ
  cuts = range_with_len s.start (s.end - s.start)

  long : length cuts ≡ s.end - s.start
  long = length-range_with_len s.start (s.end - s.start)

  at : (k d : ℕ) → k < length cuts → get_or cuts k d ≡ s.start + k
  at k d l = get_or-range_with_len s.start (s.end - s.start) k d (omega (arith, long))

  ends : (b : Bool) → MatchBool b ((k : ℕ) × (k < length cuts) × HoldsAt (λ x. true ≡ test x) cuts k) (AllWithin (λ x. false ≡ test x) cuts 0 (length cuts)) → Says b (Some test s.start s.end)
  ends true h = say_yes (record { cut = s.start + h.0; from = omega arith; to = omega (arith, long, h.1); passes = sym (subst (λ (x : ℕ). true ≡ test x) (at h.0 0 h.1) (h.2 0)) })
  ends false h = say_no (λ t.
      let k : ℕ = t.cut - s.start in
      let l : k < length cuts = omega (arith, long, t.from, t.to) in
      let back : s.start + k ≡ t.cut = omega (arith, t.from) in
      false≢true (subst (λ (x : ℕ). false ≡ test x) (at k 0 l ∙ back) (h k 0 (omega arith) l) ∙ t.passes))

  pub says_some : Says r (Some test s.start s.end)
  says_some =
      ends r
      (cases_from_any u f r (λ x. true ≡ test x) (λ x. false ≡ test x) ran (YieldsList-from_range s.start s.end _ refl refl) (λ x q c. (computes x true q c).1) (λ x q c. computes x false q c))

pub both : (x y : Bool) → x ≡ true → y ≡ true → (x && y) ≡ true
both true y p q = q
both false y p q = p

pub first : (x y : Bool) → (x && y) ≡ true → x ≡ true
first true y p = refl
first false y p = p

pub second : (x y : Bool) → (x && y) ≡ true → y ≡ true
second true y p = p
second false y p = absurd (false≢true p)
