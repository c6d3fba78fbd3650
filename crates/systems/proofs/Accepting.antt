-- What it is that bytes are accepted as a system: the answer says so, at most one system fits, and the accepted strings of bytes are exactly the
-- spellings of systems within the limit. Assumes nothing.
use Prim.Native.Nat.{ℕ, ◌+◌, ◌<◌, ◌≤◌}
use native.Mathlib.Omega.{arith}
use mathlib.Core.Path.{◌≡◌, refl, sym, ap, ◌∙◌}
use mathlib.Core.Bool.{Bool, true, false, cond}
use mathlib.Core.Logic.{◌↔◌}
use mathlib.Core.List.{List}
use lib.Dec.{ltb}
use lib.ListN.{length}
use borrow.Author.Tests.{le-ltb, ltb-false, ltb-true}
use Rattle.definitions.specs.Definition1.{Formula}
use Rattle.systems.specs.Reading.{Outcome, good, fault, parse}
use Rattle.systems.specs.Spelling.{spell_f, Spells}
use Rattle.systems.specs.Answer.{longest_system, Result, accepted, refused, placed, answer, AcceptedAs}
use Rattle.systems.proofs.Spelled.{spelt_is_read, read_is_spelt}

-- accepted exactly if spelled, within the limit
pub accepted_spelling : (s : List ℕ) (f g : Formula) → AcceptedAs s f g ↔ (Spells s f g × (length s ≤ longest_system))
accepted_spelling s f g = (
  λ a. (read_is_spelt s f g a.read, a.short),
  λ x. record { short = x.1; read = ap parse x.0.whole ∙ spelt_is_read f g x.0.small_first x.0.small_step },
)

-- as one system and no other
pub accepted_once : (s : List ℕ) (f g f' g' : Formula) → AcceptedAs s f g → AcceptedAs s f' g' → (f ≡ f') × (g ≡ g')
accepted_once s f g f' g' a b = let p = a.read in let q = b.read in let e : good f g ≡ good f' g' = sym p ∙ q in (cc, cc)

-- what the answer says: that the bytes are too long, that they have a fault, or that they are a system
pub data Answered (s : List ℕ) : Result → Type 0 where
  too_long : longest_system < length s → Answered s (refused 9 0)
  faulty : {n p : ℕ} → length s ≤ longest_system → parse s ≡ fault n p → Answered s (refused n p)
  a_system : {f g : Formula} → AcceptedAs s f g → Answered s (accepted (1 + length (spell_f f) + 1))

pub answered : (s : List ℕ) → Answered s (answer s)
answered s = go (ltb longest_system (length s)) refl (parse s) refl
  where
    go : (t : Bool) → ltb longest_system (length s) ≡ t → (o : Outcome) → parse s ≡ o → Answered s (cond t (refused 9 0) (placed o))
    go true e o q = too_long (ltb-true longest_system (length s) e)
    go false e (good f g) q = a_system (record { short = ltb-false longest_system (length s) e; read = q })
    go false e (fault n p) q = faulty (ltb-false longest_system (length s) e) q

-- an accepted answer is of a system, whose formula for the step begins at the place
pub as_a_system : (s : List ℕ) (p : ℕ) → accepted p ≡ answer s → (f : Formula) × (g : Formula) × AcceptedAs s f g × (p ≡ 1 + length (spell_f f) + 1)
as_a_system s p q = go (answer s) (answered s) q
  where
    go : (r : Result) → Answered s r → accepted p ≡ r → (f : Formula) × (g : Formula) × AcceptedAs s f g × (p ≡ 1 + length (spell_f f) + 1)
    go _ (too_long h) q = absurd (let z : ◌≡◌ {A = ℕ} 0 1 = cc in omega arith)
    go _ (faulty h e) q = absurd (let z : ◌≡◌ {A = ℕ} 0 1 = cc in omega arith)
    go _ (a_system {f} {g} a) q = (f, g, a, (cc))

-- and a system's answer is that
pub system_answer : {s : List ℕ} {f g : Formula} → AcceptedAs s f g → answer s ≡ accepted (1 + length (spell_f f) + 1)
system_answer {s} {f} {g} a = rw (le-ltb longest_system (length s) a.short) (ap placed a.read)
