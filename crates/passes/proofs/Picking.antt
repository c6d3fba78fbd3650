-- The turns of the loop that writes the run. Assumes nothing.
use Prim.Native.Nat.{ℕ, suc, ◌+◌, ◌-◌, ◌≤◌, ◌<◌}
use mathlib.Core.Path.{◌≡◌, ap, sym, subst, ◌∙◌}
use mathlib.Core.Bool.{Bool}
use mathlib.Core.Logic.{◌≢◌}
use mathlib.Core.List.{List, [], ◌∷◌, ◌++◌}
use native.Mathlib.Omega.{arith}
use native.Mathlib.Numerals.{add-one}
use lib.Dec.{T}
use lib.ListN.{length, get_or, set, take}
use lib.Seq.{take-suc-set, length-take-le}
use Rattle.bits.specs.Word.{bit, Lowest}
use Rattle.bits.specs.Sets.{Members}
use Rattle.bits.proofs.Members.{members_first, not_zero, lowest_is, lowest_least}
use Rattle.automata.specs.Table.{Table}
use Rattle.automata.proofs.TableOf.{edge_out}
use Rattle.models.specs.Model.{Model}
use Rattle.levels.specs.inner.Passes.{Under, view, Left, Pickable, Onward, CanNext, Picked}
use Rattle.levels.proofs.SearchInput.{SearchInput, model_for, table_for, labels_for, fair}
use Rattle.levels.proofs.Useful.{Nearest, nearest}
use Rattle.levels.proofs.Pick.{Chosen, Can, Held, begin, can_some, picked, done}
use Rattle.passes.proofs.Choice.{tested, can_of, of_can}

chosen_same : {M : Model} {A : Table} {k d : ℕ} {r : List ℕ} {ok : ℕ → Bool} {Q : ℕ → Type 0} (Q' : ℕ → Type 0) → Chosen M A k d r ok Q
    → ((q : ℕ) → Q q → Q' q) → ((q : ℕ) → Q' q → Q q) → Chosen M A k d r ok Q'
chosen_same Q' c f g = record {
  size = c.size;
  walk = c.walk;
  next_ok = c.next_ok;
  sound = λ q h. c.sound q (g q h);
  complete = λ q x l. f q (c.complete q x l);
  some = (c.some.0, f c.some.0 c.some.1, c.some.2);
  first = c.first;
}

-- at the head of the loop: the first `level` states are written
pub record Written (M : Model) (A : Table) (k : ℕ) (run : List ℕ) (held next level : ℕ) : Type 0 where
  pub chosen : Chosen M A k (k - level) (take level run) (λ t. bit next t) (λ q. T (bit held q))

-- before the first state only table state 0 is held
pub write_start : {M : Model} {A : Table} (k initial : ℕ) (run : List ℕ) → M.initial ≡ (λ t. bit initial t) → Left M A M.initial k 0 → Written M A k run 1 initial 0
write_start {M} {A} k initial run e h =
    let z : k ≡ k - 0 = omega arith in
    let b : Chosen M A k (k - 0) [] (λ t. bit initial t) (λ q. 0 ≡ q) = subst (λ (o : ℕ → Bool). Chosen M A k (k - 0) [] o (λ q. 0 ≡ q)) e (subst (λ (d : ℕ). Chosen M A k d [] M.initial (λ q. 0 ≡ q)) z (begin M A k h)) in
    record { chosen = chosen_same (λ q. T (bit 1 q)) b members_first.has members_first.holds }

-- after the last state the run is picked
pub write_end : {M : Model} {A : Table} {k held next level : ℕ} {run : List ℕ} → level ≤ k → k ≤ level → Written M A k run held next level → Picked M A k (take k run)
write_end {M} {A} {k} {held} {next} {level} {run} h l w =
    let e : level ≡ k = omega arith in
    let z : k - level ≡ 0 = omega arith in
    subst (λ (i : ℕ). Picked M A k (take i run)) e (done M A (subst (λ (d : ℕ). Chosen M A k d (take level run) (λ t. bit next t) (λ q. T (bit held q))) z w.chosen))

module _ (G : SearchInput) where
  abbrev A : Table
  A = table_for G

  abbrev M : Model
  M = model_for G

  module _ (k : ℕ) (m u : List ℕ) (x : Pickable M A k m u) (run : List ℕ) (long : k ≤ length run) (held next level : ℕ) (lt : level < k) (w : Written M A k run held next level) where
    abbrev Q : ℕ → Type 0
    Q = λ q. T (bit held q)

    abbrev ok : ℕ → Bool
    ok = λ t. bit next t

    abbrev d : ℕ
    d = k - (level + 1)

    near : Nearest M A k (view m)
    near = nearest M A (fair G) k x.count m x.marked

    size : length (take level run) ≡ level
    size = length-take-le level run (omega arith)

    chosen : Chosen M A k (suc d) (take level run) ok Q
    chosen = let e : k - level ≡ suc d = omega arith in subst (λ (i : ℕ). Chosen M A k i (take level run) ok Q) e w.chosen

    abbrev CN : ℕ → Type 0
    CN = CanNext (labels_for G) G.letters next Q m u (level + 1)

    -- what the code tests, and that the state can be next, are one
    can_next : (t : ℕ) → Can M A ok Q d t → Under CN G.sizes.states t
    can_next t y =
        let z = of_can M A (fair G) k (view m) near (view u) x.useful d (take level run) ok Q chosen t y in
        record {
          below = y.state;
          is = (
            y.allowed,
            (
              y.new,
              (
                record { from = y.old; held = y.held; reads = y.reads },
                record { below = (edge_out G.labels G.sizes.weight G.sizes.finals y.old (get_or G.letters t 0) y.new y.reads).1; is = record { on = z.0 ∙ ap suc size ∙ sym (add-one level); useful = z.1 } },
              ),
            ),
          );
        }

    next_can : (t : ℕ) → Under CN G.sizes.states t → Can M A ok Q d t
    next_can t y =
        let p = y.is.1.0 in
        let i = y.is.1.1.0 in
        let v = y.is.1.1.1.is in
        can_of M A (fair G) k (view m) near (view u) x.useful d (take level run) ok Q chosen
        t i.from p y.below y.is.0 i.held i.reads (v.on ∙ add-one level ∙ ap suc (sym size)) v.useful

    module _ (mask : ℕ) (choices : Members mask (Under CN G.sizes.states)) where
      pub mask_some : 0 < mask
      mask_some =
          let y = can_some M A chosen in
          let z : mask ≢ 0 = not_zero y.0 (can_next y.0 y.1) choices in
          omega arith

      module _ (s : ℕ) (low : Lowest 64 mask s) where
        pub state_below : s < G.sizes.states
        state_below = (lowest_is low choices).below

        pub write_turn : (after : ℕ) → Members after (Onward (labels_for G) G.letters Q m u (level + 1) s) → Written M A k (set run level s) after (get_or G.successors s 0) (level + 1)
        write_turn after onward =
            record {
              chosen = subst (λ (r : List ℕ). Chosen M A k d r (λ t. bit (get_or G.successors s 0) t) (λ q. T (bit after q))) (sym written)
                  (chosen_same (λ q. T (bit after q)) (picked M A k d (take level run) ok Q chosen s can (λ t y. lowest_least low choices t (can_next t y)))
                  (λ p h. onward.has p (there p h)) (λ p t. back p (onward.holds p t)));
            }
          where
            under : Under CN G.sizes.states s
            under = lowest_is low choices

            can : Can M A ok Q d s
            can = next_can s under

            written : take (level + 1) (set run level s) ≡ take level run ++ s ∷ []
            written = ap (λ (i : ℕ). take i (set run level s)) (add-one level) ∙ take-suc-set run level s (omega arith)

            test : (q p : ℕ) → Q q → T (A.edge q (get_or G.letters s 0) p) → (((view m s p ≡ suc (length (take level run))) × (view u s p ≢ 0)) → Left M A (M.next s) d p) × (Left M A (M.next s) d p → ((view m s p ≡ suc (length (take level run))) × (view u s p ≢ 0)))
            test q p h e =
                tested M A (fair G) k (view m) near (view u) x.useful d (take level run) ok Q chosen
                s q p under.below under.is.0 h e

            there : (p : ℕ) → Held M A Q d s p → Onward (labels_for G) G.letters Q m u (level + 1) s p
            there p h =
                let z = (test h.old p h.held h.reads).1 h.on in (
                  record { from = h.old; held = h.held; reads = h.reads },
                  record { below = (edge_out G.labels G.sizes.weight G.sizes.finals h.old (get_or G.letters s 0) p h.reads).1; is = record { on = z.0 ∙ ap suc size ∙ sym (add-one level); useful = z.1 } },
                )

            back : (p : ℕ) → Onward (labels_for G) G.letters Q m u (level + 1) s p → Held M A Q d s p
            back p y =
                record {
                  old = y.0.from;
                  held = y.0.held;
                  reads = y.0.reads;
                  on = (test y.0.from p y.0.held y.0.reads).0 (y.1.is.on ∙ add-one level ∙ ap suc (sym size), y.1.is.useful);
                }
