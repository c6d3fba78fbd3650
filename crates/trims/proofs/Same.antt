-- The trimmed table accepts what the table accepts, and serves the rule that it serves. Assumes nothing.
use Prim.Native.Nat.{ℕ, ◌<◌, ◌≤◌}
use native.Mathlib.Omega.{arith}
use mathlib.Core.Path.{◌≡◌, refl, sym, ap, subst, ◌∙◌}
use mathlib.Core.Logic.{◌↔◌}
use mathlib.Core.List.{List, [], ◌∷◌}
use lib.Dec.{T}
use Rattle.bits.specs.Word.{bit}
use Rattle.bits.proofs.Laws.{bit_zero}
use Rattle.bits.proofs.Truths.{false_no}
use Rattle.bits.proofs.Ranks.{rank_le}
use Rattle.definitions.specs.Definition1.{Rule}
use Rattle.automata.specs.Table.{table_states, Table, cell, table_of, Goes, Accepts}
use Rattle.automata.specs.Promise.{Serves}
use Rattle.automata.proofs.TableOf.{edge_out, edge_in, final_out, final_in}
use Rattle.trims.specs.Paths.{Link, Reach, first, next, Ends, here, on}
use Rattle.trims.specs.Kept.{start}
use Rattle.trims.specs.Stands.{Stands}
use Rattle.trims.specs.Trimmed.{Trimmed}
use Rattle.trims.proofs.Numbers.{number_zero, number_onto}
use Rattle.trims.proofs.Ways.{new, member_inside, new_inside, stays}

-- a letter of a label makes it a link
link : (t : List ℕ) (n p q x : ℕ) → p < n → q < n → T (bit (cell t p q) x) → Link t n p q
link t n p q x hp hq b = record { from = hp; to = hq; label = λ e. false_no (ap (λ (c : ℕ). bit c x) e ∙ bit_zero x) b }

module _ {t t' : List ℕ} {n f n' f' : ℕ} (s : Stands t n f) (z : Trimmed t t' n f n' f') where
  abbrev A : Table
  A = table_of t n f

  abbrev B : Table
  B = table_of t' n' f'

  -- a way to a final, from a state that is reached
  goes_new : (w : List ℕ) (p q : ℕ) → Reach t n p → Goes A p w q → T (A.final q) → Ends t n f p × Goes B (new s z p) w (new s z q) × T (B.final (new s z q))
  goes_new [] p q r e h =
      let k = final_out n f q h in
      let d : Ends t n f q = here k.0 k.1 in
      let m : T (bit z.kept q) = stays s z (subst (λ (x : ℕ). Reach t n x) e r) d in
      (subst (λ (x : ℕ). Ends t n f x) (sym e) d, ap (new s z) e, final_in n' f' (new s z q) (new_inside s z q m) (rw (z.finals q m) k.1))
  goes_new (x ∷ w) p q r (m, g, d) h =
      let k = edge_out t n f p x m g in
      let l : Link t n p m = link t n p m x k.0 k.1 k.2 in
      let i = goes_new w m q (next r l) d h in
      let kp : T (bit z.kept p) = stays s z r (on l i.0) in
      let km : T (bit z.kept m) = stays s z (next r l) i.0 in (
        on l i.0,
        (new s z m, edge_in t' n' f' (new s z p) x (new s z m) (new_inside s z p kp) (new_inside s z m km) (rw (z.labels p m kp km) k.2), i.1),
        i.2,
      )

  -- a way of the trimmed table from a kept state
  goes_old : (w : List ℕ) (i j p : ℕ) → i ≡ new s z p → T (bit z.kept p) → Goes B i w j → T (B.final j) → (q : ℕ) × Goes A p w q × T (A.final q)
  goes_old [] i j p e k g h =
      let o = final_out n' f' j h in
      let b : T (bit f' (new s z p)) = subst (λ (x : ℕ). T (bit f' x)) (sym g ∙ e) o.1 in
      (p, refl, final_in n f p (member_inside s z p k) (rw (z.finals p k) at b))
  goes_old (x ∷ w) i j p e k (m, g, d) h =
      let o = edge_out t' n' f' i x m g in
      let c = number_onto z.kept m (omega (arith, o.1, z.weight)) in
      let b : T (bit (cell t' (new s z p) (new s z c.0)) x) = rw (← e, c.2) o.2 in
      let r = goes_old w m j c.0 (sym c.2) c.1 d h in (
        r.0,
        (c.0, edge_in t n f p x c.0 (member_inside s z p k) (member_inside s z c.0 c.1) (rw (z.labels p c.0 k c.1) at b), r.1),
        r.2,
      )

  pub zero_kept : T (bit z.kept 0)
  zero_kept = z.states.states.has 0 (start refl)

  zero_new : new s z 0 ≡ 0
  zero_new = number_zero z.kept

  -- the same sequences, of every length
  pub accepts_same : (w : List ℕ) → Accepts A w ↔ Accepts B w
  accepts_same w = (
    λ (q, g, h). let i = goes_new w 0 q (first refl) g h in (new s z q, subst (λ (p : ℕ). Goes B p w (new s z q)) zero_new i.1, i.2),
    λ (q, g, h). goes_old w 0 q 0 (sym zero_new) zero_kept g h,
  )

  pub weight_some : 1 ≤ n'
  weight_some = omega (arith, new_inside s z 0 zero_kept)

  pub weight_small : n' ≤ table_states
  weight_small = omega (arith, z.weight, rank_le (bit z.kept) table_states)

  -- what serves a rule serves it when trimmed
  pub serves_same : (r : Rule) → Serves A r → Serves B r
  serves_same r v = record {
    some = weight_some;
    small = weight_small;
    sound = λ w h a. v.sound w h ((accepts_same w).1 a);
    complete = λ w h a. (accepts_same w).0 (v.complete w h a);
    inside = λ p x q g. let o = edge_out t' n' f' p x q g in (o.0, o.1);
    unentered = λ p x g. enters p x g;
  }
    where
      enters : (p x : ℕ) → T (B.edge p x 0) → ⊥
      enters p x g =
          let o = edge_out t' n' f' p x 0 g in
          let c = number_onto z.kept p (omega (arith, o.0, z.weight)) in
          let b : T (bit (cell t' (new s z c.0) (new s z 0)) x) = rw (c.2, zero_new) o.2 in
          v.unentered c.0 x (edge_in t n f c.0 x 0 (member_inside s z c.0 c.1) s.some (rw (z.labels c.0 0 c.1 zero_kept) at b))
