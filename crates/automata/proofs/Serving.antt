-- The table of a rule: it is determined, it is 0 outside the rule's states, and it serves the rule. Assumes nothing.
use Prim.Native.Nat.{ℕ, ◌+◌, ◌*◌, ◌^◌, ◌<◌, ◌≤◌}
use native.Mathlib.Omega.{arith}
use mathlib.Core.Path.{◌≡◌, refl}
use mathlib.Core.Logic.{◌⊎◌, inl, inr}
use mathlib.Core.List.{List, [], ◌∷◌}
use lib.Dec.{T}
use Rattle.bits.specs.Word.{bit}
use Rattle.bits.proofs.Laws.{ext, bit_none, bit_above, lt_or_ge}
use Rattle.definitions.specs.Definition1.{Rule}
use Rattle.rules.specs.Weight.{weight_of}
use Rattle.rules.proofs.Weighing.{weight_pos}
use Rattle.automata.specs.Build.{auto}
use Rattle.automata.specs.Table.{table_states, Table, cell, table_of, Goes}
use Rattle.automata.specs.IsTable.{IsTable, Words}
use Rattle.automata.specs.Promise.{Letters, Serves}
use Rattle.bits.proofs.Truths.{same_truth, no_false, false_no}
use Rattle.automata.proofs.TableOf.{edge_out, edge_in, final_out, final_in}
use Rattle.automata.proofs.language.Lang.{Acc, Edge}
use Rattle.automata.proofs.language.Language.{good, sound, complete, size_weight}
use Rattle.definitions.specs.Definition2.{letter_count}

-- a step of the rule's automaton stays inside the weight and does not enter 0; a final state is inside it
pub step_inside : (r : Rule) (p x q : ℕ) → (auto r).step p x q → Edge (weight_of r) p q
step_inside r p x q s = let e = (good r).edge p x q s in omega (arith, size_weight r)

pub final_inside : (r : Rule) (q : ℕ) → (auto r).final q → q < weight_of r
final_inside r q f = omega (arith, (good r).fin q f, size_weight r)

module _ (r : Rule) (t : List ℕ) (f : ℕ) (is : IsTable r t f) where
  -- outside the rule's states, and into state 0, there is no label
  no_label : (p q x : ℕ) → p < table_states → q < table_states → x < letter_count → (weight_of r ≤ p) ⊎ (weight_of r ≤ q) ⊎ (q ≡ 0) → T (bit (cell t p q) x) → ⊥
  no_label p q x hp hq hx o s = off o (step_inside r p x q ((is.label p q x hp hq hx).0 s))
    where
      off : (weight_of r ≤ p) ⊎ (weight_of r ≤ q) ⊎ (q ≡ 0) → Edge (weight_of r) p q → ⊥
      off (inl h) e = omega arith
      off (inr (inl h)) e = omega arith
      off (inr (inr h)) e = omega arith

  pub outside : Words t → (p q : ℕ) → p < table_states → q < table_states → (weight_of r ≤ p) ⊎ (weight_of r ≤ q) ⊎ (q ≡ 0) → cell t p q ≡ 0
  outside words p q hp hq o = bit_none letter_count (cell t p q) (words (table_states * p + q)) (λ x hx. no_false (bit (cell t p q) x) (no_label p q x hp hq hx o))

-- two tables of one rule agree in each of the 4,096 entries, and so do two sets of finals
module _ (r : Rule) (t u : List ℕ) (f g : ℕ) (is : IsTable r t f) (js : IsTable r u g) where
  pub one_table : Words t → Words u → (p q : ℕ) → p < table_states → q < table_states → cell t p q ≡ cell u p q
  one_table ht hu p q hp hq =
      ext letter_count (cell t p q) (cell u p q) (ht (table_states * p + q)) (hu (table_states * p + q))
      (λ x h. same_truth (bit (cell t p q) x) (bit (cell u p q) x)
      (λ a. (js.label p q x hp hq h).1 ((is.label p q x hp hq h).0 a)) (λ a. (is.label p q x hp hq h).1 ((js.label p q x hp hq h).0 a)))

  pub one_finals : f < 2 ^ 64 → g < 2 ^ 64 → f ≡ g
  one_finals hf hg =
      ext table_states f g hf hg (λ q h. same_truth (bit f q) (bit g q) (λ a. (js.ends q h).1 ((is.ends q h).0 a)) (λ a. (is.ends q h).1 ((js.ends q h).0 a)))

-- as many states as the rule weighs, or more up to 64, of which the others have no label
module _ (r : Rule) (t : List ℕ) (f : ℕ) (is : IsTable r t f) (n : ℕ) (light : weight_of r ≤ n) (small : n ≤ table_states) where
  abbrev A : Table
  A = table_of t n f

  -- what the table accepts from a state, the rule's automaton accepts there, and back
  goes_acc : (p q : ℕ) (w : List ℕ) → Letters w → Goes A p w q → T (A.final q) → Acc (auto r) p w
  goes_acc p q [] h e s = let k = final_out n f q s in rw e ((is.ends q (omega arith)).0 k.1)
  goes_acc p q (x ∷ w) h g s =
      let k = edge_out t n f p x g.0 g.1 in
      (g.0, (is.label p g.0 x (omega arith) (omega arith) h.0).0 k.2, goes_acc g.0 q w h.1 g.2 s)

  acc_goes : (p : ℕ) (w : List ℕ) → Letters w → Acc (auto r) p w → (q : ℕ) × Goes A p w q × T (A.final q)
  acc_goes p [] h a = let l = final_inside r p a in (p, refl, final_in n f p (omega arith) ((is.ends p (omega arith)).1 a))
  acc_goes p (x ∷ w) h (m, s, a) =
      let e = step_inside r p x m s in let g = acc_goes m w h.1 a in
      (g.0, (m, edge_in t n f p x m (omega arith) (omega arith) ((is.label p m x (omega arith) (omega arith) h.0).1 s), g.1), g.2)

  unentered : Words t → (p x : ℕ) → T (A.edge p x 0) → ⊥
  unentered words p x s = let h = edge_out t n f p x 0 s in go (lt_or_ge x letter_count) h.0 h.2
    where
      go : (x < letter_count) ⊎ (letter_count ≤ x) → p < n → T (bit (cell t p 0) x) → ⊥
      go (inl l) k b = no_label r t f is p 0 x (omega arith) (omega arith) l (inr (inr refl)) b
      go (inr l) k b = false_no (bit_above letter_count (cell t p 0) x (words (table_states * p + 0)) l) b

  -- the table of a rule that weighs at most 64 serves it
  pub serves : Words t → Serves (table_of t n f) r
  serves words = record {
    some = let h = weight_pos r in omega arith;
    small = small;
    sound = λ w h a. sound r w (goes_acc 0 a.0 w h a.1 a.2);
    complete = λ w h s. acc_goes 0 w h (complete r w s);
    inside = λ p x q s. let h = edge_out t n f p x q s in (h.0, h.1);
    unentered = unentered words;
  }
