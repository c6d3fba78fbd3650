-- What comes to the states from arrays of sets is what the table leads to. Assumes nothing.
use Prim.Native.Nat.{ℕ, zero, suc, ◌+◌, ◌<◌, ◌≤◌}
use mathlib.Core.Path.{◌≡◌, refl, sym, subst}
use mathlib.Core.List.{List, [], ◌∷◌}
use native.Mathlib.Omega.{arith}
use lib.Bits.{bit_and}
use lib.Dec.{T, ltb→lt, lt→ltb}
use lib.ListN.{get_or}
use Rattle.bits.specs.Word.{bit, all}
use Rattle.bits.specs.Sets.{Members, Below, Over, In}
use Rattle.bits.proofs.Laws.{bit_all}
use Rattle.bits.proofs.Members.{members_first, members_and, members_bits, members_same}
use Rattle.automata.specs.Table.{table_of}
use Rattle.automata.proofs.TableOf.{edge_out}
use Rattle.steps.specs.Rows.{Rowed}
use Rattle.levels.specs.Right.{Count, none, passed}
use Rattle.levels.specs.Lent.{LentTable, LentLetters, pair_count}
use Rattle.levels.specs.inner.Passes.{Used, Along, FromAll, Nz}
use Rattle.levels.specs.inner.Waves.{Queued, Lands, Fronts}
use Rattle.levels.proofs.UsedLetters.{used_by}

-- the members of w below n
pub members_below : {w b : ℕ} {P : ℕ → Type 0} (n : ℕ) → Members w P → b ≡ all n → Members (bit_and w b) (λ t. P t × (t < n))
members_below {w} {b} n m e =
    members_same (members_and m (members_bits b))
    (λ t h. (h.0, ltb→lt t n (subst T (bit_all n t) (subst (λ (y : ℕ). T (bit y t)) e h.1))))
    (λ t h. (h.0, subst (λ (y : ℕ). T (bit y t)) (sym e) (subst T (sym (bit_all n t)) (lt→ltb t n h.1))))

-- no marks, no queue
pub queued_none : (m queue : List ℕ) → ((i : ℕ) → i < pair_count → get_or m i 0 ≡ 0) → Queued 0 m queue 0
queued_none m queue z = record {
  counted = count pair_count (omega arith);
  low = λ i h. let e = z i h in omega arith;
  listed = λ i h n. absurd (n (z i h));
  marked = λ k h. absurd (omega arith);
  rising = λ k l h g. absurd (omega arith);
}
  where
    count : (n : ℕ) → n ≤ pair_count → Count (Nz m) n 0
    count zero h = none
    count (suc n) h = passed (λ x. x (z n (omega arith))) (count n (omega arith))

module _ (table letters rows : List ℕ) (n states : ℕ) (lent : LentTable table n) (L : LentLetters letters states) (R : Rowed (table_of table n 0) (Used letters states) rows) where
  -- the first level
  module _ (initial live : ℕ) (l : Members live (λ t. In initial t × (t < states))) where
    pub begin_lands : (i : ℕ) → Over (In live) (λ t. Lands rows letters (initial ∷ []) (1 ∷ []) 1 t i) → Below (Along (table_of table n 0) letters initial (λ q. 0 ≡ q)) states i
    begin_lands i o =
        let t = o.at in
        let h = l.holds t o.inside in
        let a = o.holds.inside in
        let s = a.held in
        let z : 0 ≡ s.at = members_first.holds s.at s.inside in
        let q : 0 ≡ a.from = members_first.holds a.from (subst (λ (y : ℕ). In (get_or (1 ∷ []) y 0) a.from) (sym z) s.holds.held) in
        let e = R.sound (get_or letters t 0) a.from o.holds.at (used_by letters t h.1) (omega arith) a.reads in
        record {
          at = t;
          below = h.1;
          holds = (
            h.0,
            record {
              at = o.holds.at;
              below = (edge_out table n 0 a.from (get_or letters t 0) o.holds.at e).1;
              holds = record { is = record { from = a.from; held = q; reads = e }; place = o.holds.holds };
            },
          );
        }

    pub lands_begin : (i : ℕ) → Below (Along (table_of table n 0) letters initial (λ q. 0 ≡ q)) states i → Over (In live) (λ t. Lands rows letters (initial ∷ []) (1 ∷ []) 1 t i)
    lands_begin i b =
        let t = b.at in
        let d = b.holds.1 in
        let a = d.holds.is in
        record {
          at = t;
          inside = l.has t (b.holds.0, b.below);
          holds = record {
            at = d.at;
            inside = record {
              from = a.from;
              held = record { at = 0; inside = members_first.has 0 refl; holds = record { steps = b.holds.0; held = members_first.has a.from a.held } };
              reads = R.complete (get_or letters t 0) a.from d.at (used_by letters t b.below) a.reads;
            };
            holds = d.holds.place;
          };
        }

  -- a later level
  module _ (successors front m : List ℕ) (fresh live j : ℕ) (f : Fronts m states j fresh front)
      (l : Members live (λ t. Over (In fresh) (λ s. In (get_or successors (0 + s) 0) t) × (t < states))) where
    pub round_lands : (i : ℕ) → Over (In live) (λ t. Lands rows letters successors front fresh t i) → FromAll (table_of table n 0) letters states successors j m i
    round_lands i o =
        let t = o.at in
        let h = l.holds t o.inside in
        let a = o.holds.inside in
        let s = a.held in
        let v = f.holds s.at a.from s.inside s.holds.held in
        let e = R.sound (get_or letters t 0) a.from o.holds.at (used_by letters t h.1) v.1 a.reads in
        let g = edge_out table n 0 a.from (get_or letters t 0) o.holds.at e in
        record {
          at = s.at;
          below = v.0;
          holds = record {
            at = t;
            below = h.1;
            holds = (
              s.holds.steps,
              record {
                at = o.holds.at;
                below = g.1;
                holds = record { is = record { from = a.from; held = record { below = g.0; is = v.2 }; reads = e }; place = o.holds.holds };
              },
            );
          };
        }

    pub lands_round : (i : ℕ) → FromAll (table_of table n 0) letters states successors j m i → Over (In live) (λ t. Lands rows letters successors front fresh t i)
    lands_round i b =
        let s = b.at in
        let t = b.holds.at in
        let d = b.holds.holds.1 in
        let a = d.holds.is in
        let v = f.has s a.from (omega (arith, b.below, L.few)) (omega (arith, a.held.below, lent.small)) a.held.is in
        let e : s ≡ 0 + s = omega arith in
        record {
          at = t;
          inside = l.has t (record { at = s; inside = v.0; holds = subst (λ (y : ℕ). In (get_or successors y 0) t) e b.holds.holds.0 }, b.holds.below);
          holds = record {
            at = d.at;
            inside = record {
              from = a.from;
              held = record { at = s; inside = v.0; holds = record { steps = b.holds.holds.0; held = v.1 } };
              reads = R.complete (get_or letters t 0) a.from d.at (used_by letters t b.holds.below) a.reads;
            };
            holds = d.holds.place;
          };
        }
