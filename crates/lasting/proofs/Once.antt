-- No second set and no second answer fit. Assumes nothing.
use Prim.Native.Nat.{ℕ}
use native.Mathlib.Omega.{arith}
use mathlib.Core.Path.{◌≡◌, refl, sym, ap, ap₂, ◌∙◌}
use mathlib.Core.Bool.{Bool}
use mathlib.Core.List.{List}
use Rattle.bits.specs.Word.{bit}
use Rattle.bits.proofs.Laws.{ext}
use Rattle.bits.proofs.Truths.{same_truth}
use Rattle.models.specs.declared.Refusal.TheVariants.{TooMany, WrongKind, CutShort, LetterTooLarge, WrongFlag, NoSuchState}
use Rattle.models.specs.declared.ModelData.{ModelData}
use Rattle.models.proofs.Once as models-once
use Rattle.models.specs.declared.Refusal.{Refusal}
use Rattle.std.specs.Prelude.{Ok, Err}
use Rattle.std.specs.Prelude as std
use Rattle.lasting.specs.declared.LastingStates.{LastingStates}
use Rattle.lasting.specs.Endless.{EndlessSet}
use Rattle.lasting.specs.Stored.{alive_data, WithoutDeadEnds}
use Rattle.lasting.specs.Answer.{Result, lasts, refused, told, LastingRight, model_refused, lasting}

pub one_set : {n : ℕ} {next : ℕ → ℕ → Bool} (w v : ℕ) → EndlessSet n next w → EndlessSet n next v → w ≡ v
one_set w v x y =
    ext 64 w v x.small y.small (λ s l. same_truth (bit w s) (bit v s) (λ b. y.members.has s (x.members.holds s b)) (λ b. x.members.has s (y.members.holds s b)))

-- there is one model without dead ends, as it is stored
pub one_alive : (m r r' : ModelData) → WithoutDeadEnds m r → WithoutDeadEnds m r' → r ≡ r'
one_alive m r r' x y = x.stored ∙ ap (alive_data m) (one_set x.set y.set x.exactly y.exactly) ∙ sym y.stored

one_result : (g : List ℕ) {x y : Result} → LastingRight g x → LastingRight g y → x ≡ y
one_result g (model_refused v) (model_refused v') = cc
one_result g (model_refused v) (lasting v' n s) = absurd (let z : ◌≡◌ {A = ℕ} 0 1 = cc in omega arith)
one_result g (lasting v n s) (model_refused v') = absurd (let z : ◌≡◌ {A = ℕ} 0 1 = cc in omega arith)
one_result g (lasting v n s) (lasting v' n' s') = ap₂ lasts (n ∙ sym n') (one_set _ _ s s')

-- `told` has a left inverse
abbrev meant : Result → std.Result LastingStates Refusal
meant (lasts n w) = Ok (record { states = n; set = w })
meant (refused n p) = Err (models-once.named n p)

meant_told : (x : std.Result LastingStates Refusal) → meant (told x) ≡ x
meant_told (Ok l) = refl
meant_told (Err TooMany) = refl
meant_told (Err (WrongKind p)) = refl
meant_told (Err (CutShort p)) = refl
meant_told (Err (LetterTooLarge p)) = refl
meant_told (Err (WrongFlag p)) = refl
meant_told (Err (NoSuchState p)) = refl

pub one_answer : (g : List ℕ) (a b : std.Result LastingStates Refusal) → LastingRight g (told a) → LastingRight g (told b) → a ≡ b
one_answer g a b x y = sym (meant_told a) ∙ ap meant (one_result g x y) ∙ meant_told b
