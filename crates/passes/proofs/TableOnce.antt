-- No second answer is right. Assumes nothing.
use Prim.Native.Nat.{ℕ, suc, ◌/◌, ◌%◌, ◌≤◌}
use mathlib.Core.Path.{◌≡◌, refl, ap, ap₂, sym, subst, ◌∙◌}
use mathlib.Core.Logic.{◌⊎◌}
use mathlib.Core.List.{List, []}
use native.Mathlib.Omega.{arith}
use Rattle.std.specs.Prelude.{Option, Some, None}
use lib.ListN.{length, get_or, take}
use lib.Seq.{get_or-take, length-take-le}
use Rattle.definitions.specs.Definition1.{Rule}
use Rattle.automata.specs.Table.{Table}
use Rattle.automata.specs.Promise.{Serves}
use Rattle.models.specs.Model.{Model}
use Rattle.tables.specs.Beyond.{Beyond}
use Rattle.tables.proofs.promise.Beyonds.{beyond_once}
use Rattle.passes.specs.declared.inner.Searched.{Searched}
use Rattle.levels.specs.Lent.{pair_count, Cleared}
use Rattle.passes.specs.Told.{answer_for, answer_of, RunKept, SearchedTable}
use Rattle.levels.specs.Right.{RunKind, Before, here, there, Count, none, counted, passed, Reached, Shown, Answer, found, nothing, Right}

-- the order turned round fails, with the runs that it speaks of apart
apart : {r u v w : List ℕ} → Before r u → Before v w → v ≡ u → w ≡ r → ⊥
apart (here {s = s} {t = t} l) (here {s = s'} {t = t'} m) e d = let a : s' ≡ t = cc in let b : t' ≡ s = cc in omega arith
apart (here {s = s} {t = t} l) (there {s = s'} m) e d = let a : s' ≡ t = cc in let b : s' ≡ s = cc in omega arith
apart (there {s = s} l) (here {s = s'} {t = t'} m) e d = let a : s' ≡ s = cc in let b : t' ≡ s = cc in omega arith
apart (there {r = r} {u = u} l) (there {r = r'} {u = u'} m) e d = let a : r' ≡ u = cc in let b : u' ≡ r = cc in apart l m a b

pub before_not_both : {r u : List ℕ} → Before r u → Before u r → ⊥
before_not_both b d = apart b d refl refl

pub count_same : {P Q : ℕ → Type 0} → ((i : ℕ) → P i → Q i) → ((i : ℕ) → Q i → P i) → {n c d : ℕ} → Count P n c → Count Q n d → c ≡ d
count_same f g none none = refl
count_same f g (counted p a) (counted q b) = ap suc (count_same f g a b)
count_same f g (counted {n = n} p a) (passed q b) = absurd (q (f n p))
count_same f g (passed {n = n} p a) (counted q b) = absurd (p (g n q))
count_same f g (passed p a) (passed q b) = count_same f g a b

pub shown_same : {Runs : RunKind} {M : Model} {f : Rule} {r u : List ℕ} → Shown Runs M f r → Shown Runs M f u → r ≡ u
shown_same {r = r} {u = u} a b = go (a.first u b.matches (sym same)) (b.first r a.matches same)
  where
    same : length r ≡ length u
    same =
        let h : length r ≤ length u = a.shortest u b.matches in
        let k : length u ≤ length r = b.shortest r a.matches in
        omega arith

    go : (r ≡ u) ⊎ Before r u → (u ≡ r) ⊎ Before u r → r ≡ u
    go (◌⊎◌.inl p) e = p
    go (◌⊎◌.inr p) (◌⊎◌.inl q) = sym q
    go (◌⊎◌.inr p) (◌⊎◌.inr q) = absurd (before_not_both p q)

-- two right answers are one
pub one_answer : (Runs : RunKind) (M : Model) (A : Table) (f : Rule) (a b : Answer) → Right Runs M A f a → Right Runs M A f b → a ≡ b
one_answer Runs M A f (found r c) (found u d) x y =
    let e : r ≡ u = shown_same x.0 y.0 in
    let k : c ≡ d = count_same (λ i w. subst (λ (v : List ℕ). Reached Runs M A (λ k. k ≤ length v) (i / 64) (i % 64)) e w) (λ i w. subst (λ (v : List ℕ). Reached Runs M A (λ k. k ≤ length v) (i / 64) (i % 64)) (sym e) w) x.1 y.1 in
    ap₂ found e k
one_answer Runs M A f (found r c) (nothing d) x y = absurd (y.0 r x.0.matches)
one_answer Runs M A f (nothing c) (found u d) x y = absurd (x.0 u y.0.matches)
one_answer Runs M A f (nothing c) (nothing d) x y = ap nothing (count_same (λ i w. w) (λ i w. w) x.1 y.1)

-- ---- and what was lent is left in one way

pub cleared_same : (n : ℕ) (a b d : List ℕ) → Cleared n a b → Cleared n a d → b ≡ d
cleared_same n a b d x y = beyond_once n a b d x.beyond y.beyond (λ i h. x.zeros i h ∙ sym (y.zeros i h))

pub runs_same : (n : ℕ) (a b d : List ℕ) → Beyond n a b → Beyond n a d → take n b ≡ take n d → b ≡ d
runs_same n a b d x y e = beyond_once n a b d x y (λ i h. sym (get_or-take n b i 0 h) ∙ ap (λ (l : List ℕ). get_or l i 0) e ∙ get_or-take n d i 0 h)

the_searched : Option ℕ → ℕ → Searched
the_searched l c = record { found = l; pairs = c }

run_of : Answer → List ℕ
run_of (found r c) = r
run_of (nothing c) = []

pairs_of : Answer → ℕ
pairs_of (found r c) = c
pairs_of (nothing c) = c

found_same : (a b : Option ℕ) (c d : ℕ) (run run₁ run₂ : List ℕ) → answer_for a c run₁ ≡ answer_for b d run₂ → RunKept a run run₁ → RunKept b run run₂ → (a ≡ b) × (run₁ ≡ run₂)
unfolding run_of
found_same (Some l) (Some k) c d run run₁ run₂ e x y =
    let r : take l run₁ ≡ take k run₂ = ap run_of e in
    let h : l ≡ k = sym (length-take-le l run₁ x.0) ∙ ap length r ∙ length-take-le k run₂ y.0 in
    (ap Some h, runs_same l run run₁ run₂ x.1 (subst (λ (i : ℕ). Beyond i run run₂) (sym h) y.1) (r ∙ ap (λ (i : ℕ). take i run₂) (sym h)))
found_same (Some l) None c d run run₁ run₂ e x y = absurd (let z : ◌≡◌ {A = ℕ} 0 1 = cc in omega arith)
found_same None (Some k) c d run run₁ run₂ e x y = absurd (let z : ◌≡◌ {A = ℕ} 0 1 = cc in omega arith)
found_same None None c d run run₁ run₂ e x y = (refl, x ∙ sym y)

pairs_given : (a : Option ℕ) (c : ℕ) (run : List ℕ) → pairs_of (answer_for a c run) ≡ c
unfolding pairs_of
pairs_given (Some l) c run = refl
pairs_given None c run = refl

answers_same : (a b : Searched) (run run₁ run₂ : List ℕ) → answer_of a run₁ ≡ answer_of b run₂ → RunKept a.found run run₁ → RunKept b.found run run₂ → (a ≡ b) × (run₁ ≡ run₂)
unfolding the_searched
answers_same a b run run₁ run₂ e x y =
    let f = found_same a.found b.found a.pairs b.pairs run run₁ run₂ e x y in
    let p : a.pairs ≡ b.pairs = sym (pairs_given a.found a.pairs run₁) ∙ ap pairs_of e ∙ pairs_given b.found b.pairs run₂ in
    (ap₂ the_searched f.0 p, f.1)

module _ (Runs : RunKind) (M : Model) (A : Table) (f : Rule) (serves : Serves A f) (marks marks₁ marks₂ useful useful₁ useful₂ run run₁ run₂ : List ℕ) where
  -- the search over a table that serves a rule: one answer, and one content of everything that is lent
  pub one_search : (a b : Searched) → SearchedTable Runs M A a marks marks₁ useful useful₁ run run₁ → SearchedTable Runs M A b marks marks₂ useful useful₂ run run₂
      → (a ≡ b) × (marks₁ ≡ marks₂) × (useful₁ ≡ useful₂) × (run₁ ≡ run₂)
  one_search a b x y =
      let e : answer_of a run₁ ≡ answer_of b run₂ = one_answer Runs M A f (answer_of a run₁) (answer_of b run₂) (x.answers.right f serves) (y.answers.right f serves) in
      let r = answers_same a b run run₁ run₂ e x.answers.run_kept y.answers.run_kept in
      (r.0, cleared_same pair_count marks marks₁ marks₂ x.marks_clear y.marks_clear, cleared_same pair_count useful useful₁ useful₂ x.useful_clear y.useful_clear, r.1)
