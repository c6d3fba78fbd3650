-- The sets of a level in place of those of the level before. Assumes nothing.
use Prim.Native.Nat.{ℕ, ◌<◌}
use mathlib.Core.Path.{◌≡◌, refl, sym, ap, subst, ◌∙◌}
use mathlib.Core.Logic.{⊎_elim}
use mathlib.Core.List.{List}
use native.Mathlib.Decide.{ℕ_discrete}
use lib.Dec.{T}
use lib.ListN.{length, get_or, set, length-set}
use lib.Seq.{get_or-set_same, get_or-set_other}
use Rattle.bits.specs.Word.{word_bits, bit, remove, Lowest}
use Rattle.bits.specs.Sets.{In}
use Rattle.bits.proofs.Resting.{Done, Rest, done_older, done_newest, done_split, done_all}
use Rattle.levels.specs.inner.Waves.{Carried, Fronts}

pub carried_begun : {w r : ℕ} → r ≡ w → (after front : List ℕ) → Carried (Done w r) after front front
carried_begun e after front = record { size = refl; these = λ s d. absurd (d.gone (subst (λ (y : ℕ). T (bit y s)) (sym e) d.was)); others = λ s n. refl }

-- one turn: state t has its set
pub carried_turn : {w r r' t : ℕ} {after front now : List ℕ} → Rest w r → Lowest word_bits r t → r' ≡ remove word_bits r t → t < length now → Carried (Done w r) after front now
    → Carried (Done w r') after front (set now t (get_or after t 0))
carried_turn {w} {r} {r'} {t} {after} {front} {now} x l e room c = record { size = length-set now t (get_or after t 0) ∙ c.size; these = λ s d. these s d (ℕ_discrete s t); others = others }
  where
    these : (s : ℕ) → Done w r' s → Dec (s ≡ t) → get_or (set now t (get_or after t 0)) s 0 ≡ get_or after s 0
    these s d (yes z) = ap (λ (y : ℕ). get_or (set now t (get_or after t 0)) y 0) z ∙ get_or-set_same now t (get_or after t 0) 0 room ∙ ap (λ (y : ℕ). get_or after y 0) (sym z)
    these s d (no z) = get_or-set_other now t s (get_or after t 0) 0 z ∙ c.these s (⊎_elim (λ k. k) (λ k. absurd (z k)) (done_split x l e s d))

    others : (s : ℕ) → (Done w r' s → ⊥) → get_or (set now t (get_or after t 0)) s 0 ≡ get_or front s 0
    others s n = get_or-set_other now t s (get_or after t 0) 0 (λ z. n (subst (Done w r') (sym z) (done_newest x l e))) ∙ c.others s (λ d. n (done_older x l e s d))

pub carried_end : {w r : ℕ} {after front now : List ℕ} → r ≡ 0 → Carried (Done w r) after front now → Carried (In w) after front now
carried_end e c = record { size = c.size; these = λ s t. c.these s (done_all e s t); others = λ s n. c.others s (λ d. n d.was) }

-- so they are a level's sets
pub carried_fronts : {m after front now : List ℕ} {states j fresh : ℕ} → Carried (In fresh) after front now → Fronts m states j fresh after → Fronts m states j fresh now
carried_fronts c f = record {
  holds = λ s q t u. f.holds s q t (subst (λ (y : ℕ). T (bit y q)) (c.these s t) u);
  inside = f.inside;
  has = λ s q hs hq e. let o = f.has s q hs hq e in (o.0, subst (λ (y : ℕ). T (bit y q)) (sym (c.these s o.0)) o.1);
}
