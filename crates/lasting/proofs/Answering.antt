-- From what the reader and the rounds promise to what the call promises. Assumes nothing.
use Prim.Native.Nat.{ℕ}
use mathlib.Core.Path.{◌≡◌, sym, ap, subst, ◌∙◌}
use mathlib.Core.List.{List}
use Rattle.std.specs.Prelude.{⊤, Ok, Err}
use Rattle.models.specs.declared.ModelRead.{ModelRead}
use Rattle.models.specs.declared.Refusal.{Refusal}
use Rattle.models.specs.Stored.{model_of}
use Rattle.models.specs.Answer as models
use Rattle.lasting.specs.Endless.{LastingSet}
use Rattle.lasting.specs.Answer.{lasts, refused, LastingRight, model_refused, lasting}

module _ (g : List ℕ) (r : ModelRead) (e : models.told r ≡ models.answer g) where
  -- the reader's case is the verdict
  pub verdict : {v : models.Verdict} → models.verdict_of r.answer ≡ v → (models.answer g).verdict ≡ v
  verdict h = sym (ap (λ (x : models.Result). x.verdict) e) ∙ h

  pub model_no : (x : Refusal) → r.answer ≡ Err x → LastingRight g (refused (models.number x) (models.place x))
  model_no x h = model_refused (verdict (ap models.verdict_of h))

  pub model_yes : {w : ℕ} {y : ⊤} → r.answer ≡ Ok y → LastingSet (model_of r.model) w → LastingRight g (lasts r.model.states w)
  model_yes {w} h s =
      lasting (verdict (ap models.verdict_of h)) (ap (λ (x : models.Result). x.model.states) e) (subst (λ (x : models.Result). LastingSet (model_of x.model) w) e s)
