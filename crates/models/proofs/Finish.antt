-- From what the two passes and the columns promise to the answer of the whole. Assumes nothing.
use Prim.Native.Nat.{ℕ, ◌<◌, zero-le}
use native.Mathlib.Omega.{arith}
use mathlib.Core.Path.{◌≡◌, refl, sym, ap, subst, ◌∙◌}
use mathlib.Core.List.{List}
use lib.ListN.{get_or}
use Rattle.models.specs.declared.ModelData.{ModelData}
use Rattle.models.specs.declared.ModelRead.{ModelRead}
use Rattle.models.specs.Reading.{Outcome, good, fault, records, then_linked, reading, Whole}
use Rattle.models.specs.Stored.{stored, Held}
use Rattle.models.specs.Answer.{Result, accepted, given, answer, told}
use Rattle.models.proofs.Passes.{counts, linked_good}
use Rattle.models.proofs.Soundness.{answer_held}
use Rattle.models.specs.Model.{model_states}

-- what the second pass asks for, of a first that is in order
pub told_whole : (s : List ℕ) (n : ℕ) → good n ≡ records model_states s 0 → Whole s n
told_whole s n e = let k = counts s 64 0 n (sym e) in record { few = omega (arith, k.few); long = k.long zero-le }

module _ (s : List ℕ) (n : ℕ) (e : good n ≡ reading s) where
  -- what the columns ask for, of a model that both passes find in order
  pub read_whole : Whole s n
  read_whole = go (records model_states s 0) refl
    where
      go : (o : Outcome) → records model_states s 0 ≡ o → Whole s n
      go (good m) q =
          let f = linked_good s m m 0 n (sym (e ∙ ap (then_linked s) q)) in
          subst (Whole s) (sym f.0) (told_whole s m (sym q))
      go (fault number place) q = let f : good n ≡ fault number place = e ∙ ap (then_linked s) q in let z : ◌≡◌ {A = ℕ} 0 1 = cc in absurd (omega arith)

  -- such a model is the answer
  pub told_good : (m : ModelData) → m ≡ stored s n → ◌≡◌ {A = Result} (record { verdict = accepted; model = m }) (answer s)
  told_good m h = ap (λ (m : ModelData). record { verdict = accepted; model = m }) h ∙ ap (given s) e

-- an answer that is the right one comes with a sound model
pub right : (s : List ℕ) → ((i : ℕ) → get_or s i 0 < 256) → (r : ModelRead) → told r ≡ answer s → Held r.model
right s bytes r e = subst (λ (x : Result). Held x.model) (sym e) (answer_held s bytes)
