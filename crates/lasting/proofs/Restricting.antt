-- The stored form of a model without the states from which no endless run leaves. Assumes nothing.
use Prim.Native.Nat.{ℕ}
use mathlib.Core.Path.{◌≡◌, refl, sym, ap, ap₂, subst, fun_ext, ◌∙◌}
use mathlib.Core.Logic.{⊎_elim}
use mathlib.Core.Bool.{Bool, true, false, ◌&&◌}
use mathlib.Core.List.{List}
use lib.Bits.{bit_and}
use lib.Dec.{T}
use lib.ListN.{get_or}
use native.Mathlib.Omega.{arith}
use Rattle.bits.specs.Word.{bit}
use Rattle.bits.proofs.Laws.{lt_or_ge, bit_of_and, bit_zero}
use Rattle.bits.proofs.Truths.{T_true, and_T, no_false, same_truth}
use Rattle.models.specs.declared.ModelData.{ModelData}
use Rattle.models.specs.Model.{Model}
use Rattle.models.specs.Stored.{column, model_of, Sound, Held}
use Rattle.models.proofs.Columns.{column_long, column_at, column_past}
use Rattle.lasting.specs.Endless.{EndlessSet, LastingSet}
use Rattle.lasting.specs.Alive.{alive}
use Rattle.lasting.specs.inner.Kept.{follows}
use Rattle.lasting.specs.Stored.{kept_ways_of, alive_data, WithoutDeadEnds}
use Rattle.lasting.proofs.Ways.{endless_from}

and_left : (a b : Bool) → a && b ≡ true → a ≡ true
and_left true b e = refl
and_left false b e = e

-- soundness carries over
sound_alive : (M : Model) (w : ℕ) → Sound M → Sound (alive M w)
sound_alive M w h = record {
  few = h.few;
  letter_small = h.letter_small;
  initial_exists = λ s e. h.initial_exists s (and_left (M.initial s) (bit w s) e);
  next_from = λ s t e. h.next_from s t (and_left (M.next s t) (bit w s && bit w t) e);
  next_exists = λ s t e. h.next_exists s t (and_left (M.next s t) (bit w s && bit w t) e);
}

-- the model M with other initial states and successors
with_both : Model → (ℕ → Bool) → (ℕ → ℕ → Bool) → Model
with_both M initial next = record { states = M.states; letter = M.letter; initial = initial; next = next }

module _ (m : ModelData) (w : ℕ) (h : Held m) (lasts : LastingSet (model_of m) w) where
  -- a step into the set leaves a state of the set
  from_inside : (s t : ℕ) → T (follows m.successors s t) → T (bit w t) → T (bit w s)
  from_inside s t n b = lasts.members.has s (endless_from (h.sound.next_from s t (T_true (follows m.successors s t) n)) n (lasts.members.holds t b))

  next_both : (s t : ℕ) → follows m.successors s t && bit w t ≡ follows m.successors s t && (bit w s && bit w t)
  next_both s t = go (follows m.successors s t) (from_inside s t)
    where
      go : (n : Bool) → (T n → T (bit w t) → T (bit w s)) → n && bit w t ≡ n && (bit w s && bit w t)
      go false h = refl
      go true h = same_truth (bit w t) (bit w s && bit w t) (λ b. (and_T (bit w s) (bit w t)).1 (h tt b, b)) (λ b. ((and_T (bit w s) (bit w t)).0 b).1)

  next_at : (s t : ℕ) → bit (get_or (column m.states (kept_ways_of w m.successors)) s 0) t ≡ follows m.successors s t && (bit w s && bit w t)
  next_at s t =
      ⊎_elim (λ l. ap (λ (x : ℕ). bit x t) (column_at m.states (kept_ways_of w m.successors) s h.sound.few l) ∙ bit_of_and (get_or m.successors s 0) w t ∙ next_both s t)
      (λ l. ap (λ (x : ℕ). bit x t) (column_past m.states (kept_ways_of w m.successors) s l) ∙ bit_zero t
      ∙ ap (λ (b : Bool). b && (bit w s && bit w t)) (sym (no_false (follows m.successors s t) (λ b. let i = h.sound.next_from s t (T_true (follows m.successors s t) b) in omega arith))))
      (lt_or_ge s m.states)

  -- masking the stored sets takes the states out
  stored_alive : model_of (alive_data m w) ≡ alive (model_of m) w
  unfolding with_both
  stored_alive = ap₂ (with_both (model_of m)) (fun_ext (λ s. bit_of_and m.initial w s)) (fun_ext (λ s. fun_ext (λ t. next_at s t)))

  alive_held : Held (alive_data m w)
  alive_held = record {
    letters_long = h.letters_long;
    successors_long = column_long m.states (kept_ways_of w m.successors);
    sound = subst Sound (sym stored_alive) (sound_alive (model_of m) w h.sound);
  }

  without_all : (r : ModelData) → r ≡ alive_data m w → WithoutDeadEnds m r
  without_all r e = record { set = w; exactly = lasts; stored = e; held = subst Held (sym e) alive_held; is_alive = ap model_of e ∙ stored_alive }

-- as the code makes it
pub without_made : (m : ModelData) (w : ℕ) → Held m → (ways : List ℕ) → EndlessSet m.states (follows m.successors) w → ways ≡ column m.states (kept_ways_of w m.successors)
    → WithoutDeadEnds m (record { states = m.states; letters = m.letters; initial = bit_and m.initial w; successors = ways })
without_made m w h ways x e =
    without_all m w h x (record { states = m.states; letters = m.letters; initial = bit_and m.initial w; successors = ways })
    (ap (λ (l : List ℕ). record { states = m.states; letters = m.letters; initial = bit_and m.initial w; successors = l }) e)
