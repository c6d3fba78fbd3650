-- What is asked of trimming, and of the search over the trimmed table, holds. Assumes nothing.
use Prim.Native.Nat.{ℕ}
use native.Mathlib.Omega.{arith}
use mathlib.Core.Path.{◌≡◌, refl, sym, ap, subst, ◌∙◌}
use mathlib.Core.List.{List}
use lib.ListN.{take}
use Rattle.rules.specs.declared.Known.{Known}
use Rattle.definitions.specs.Definition1.{Rule}
use Rattle.rules.specs.Answer.{known_of}
use Rattle.tables.specs.Answer as tables
use Rattle.tables.specs.Beyond.{Beyond}
use Rattle.trims.specs.Answer as trims
use Rattle.trims.proofs.Same.{accepts_same}
use Rattle.trims.proofs.Again.{all_kept}
use Rattle.trims.proofs.Lone.{alone_if_none}
use Rattle.trims.proofs.Built.{built_stands, trimmed_serves}
use Rattle.trims.proofs.Once as trims-once
use Rattle.tables.proofs.promise.Beyonds.{beyond_then}
use Rattle.levels.specs.Right.{Answer, found, nothing}
use Rattle.search.specs.Answer.{Slices, Result, answered, length_of, refusal, searched}
use Rattle.search.proofs.Once.{not_searched}
use Rattle.trimmed_search.specs.Answer.{TrimmedSearches, TrimmedSearchRight}
use Rattle.trimmed_search.proofs.Once.{one_trimmed_answer}
use Rattle.trimmed_search.proofs.Alike.{search_alike}
use Rattle.demands.specs.Terms.{model_in_of}
use Rattle.demands.specs.Trimming.{SameSequences, AgainNothing, AllWork, NothingIsOneState, TrimLeaves, RefusedTrimKeeps, RuleTablesTrimmed, RunAndRefusalsSame, TrimmedSearch, EveryTrimmedAnswered, TrimmedFindExactly, TrimmedRunIsFirst, TrimmedFindCounts, TrimmedNoneCounts, TrimmedRefusedExactly, RefusedTrimmedKeeps, TrimmedLeaves, Trimming}
use Rattle.demands.proofs.Spellings.{accepted_as, same_rule}
use Rattle.demands.proofs.CallFaults.{trim_fault, call_fault}
use Rattle.demands.proofs.Demand2.{is}

-- ---- trimming

pub same_sequences : SameSequences
same_sequences t t' n f n' f' (trims.the_trimmed l s z) w = accepts_same s z w

pub again_nothing : AgainNothing
again_nothing t t' t'' n f n' f' a x y = trims-once.same_again x y

pub all_work : AllWork
all_work t t' n f n' f' (trims.the_trimmed l s z) q h = all_kept s z q h

pub nothing_is_one_state : NothingIsOneState
nothing_is_one_state t t' n f n' f' words (trims.the_trimmed l s z) none = alone_if_none t n f words s z none

pub trim_leaves : TrimLeaves
trim_leaves t t' n f n' f' (trims.the_trimmed l s z) = (z.no_label, z.rest)

pub refused_trim_keeps : RefusedTrimKeeps
refused_trim_keeps t t' n f k p (trims.short_table l e) = e
refused_trim_keeps t t' n f k p (trims.no_table l x e) = e

pub rule_tables_trimmed : RuleTablesTrimmed
rule_tables_trimmed r t t' f a b (trims.short_table l e) = absurd (omega (arith, (is b).long))
rule_tables_trimmed r t t' f a b (trims.no_table l x e) = absurd (trims-once.no_fault (built_stands r t f (is b).table (is b).light b.words) x)
rule_tables_trimmed r t t' f a b (trims.the_trimmed {n' = m} {f' = g} l s z) =
    let v = trimmed_serves r t f (is b).table (is b).light b.words z in
    (m, g, refl, v, λ w h. (v.sound w h, v.complete w h))

-- ---- the search over the trimmed table

pub run_and_refusals_same : RunAndRefusalsSame
run_and_refusals_same s g b a d x y p q = search_alike p q

-- what the promise of `search_trimmed` says of a search that was answered
record Is (s g : List ℕ) (f : Rule) (before after : Slices) (n : ℕ) (a : Answer) : Type 0 where
  searches : TrimmedSearches s f (model_in_of g) before after a
  length_is : n ≡ length_of a

is_trimmed : {g : List ℕ} {f : Rule} {after : Slices} {n : ℕ} {a : Answer} (b : TrimmedSearch g f after n a) → Is b.bytes g f b.before after n a
is_trimmed {g} {f} {after} {n} {a} b = go b.right refl
  where
    go : {x : Result} → TrimmedSearchRight b.bytes g b.before after x → x ≡ answered b.known n a → Is b.bytes g f b.before after n a
    go (refusal q e) z = absurd (let y : ◌≡◌ {A = ℕ} 0 1 = cc in omega arith)
    go (searched {f = f'} {n = n'} {r = a'} k v l y) z =
        let e : f ≡ f' = same_rule b.spells y.accepted in
        let p : a' ≡ a = cc in
        let q : n ≡ length_of a = let m : n' ≡ n = cc in sym m ∙ k ∙ ap length_of p in
        record {
          searches = subst (λ (x : Rule). TrimmedSearches b.bytes x (model_in_of g) b.before after a) (sym e) (subst (λ (x : Answer). TrimmedSearches b.bytes f' (model_in_of g) b.before after x) p y);
          length_is = q;
        }

pub every_trimmed_answered : EveryTrimmedAnswered
every_trimmed_answered s g f b a x h m l (refusal q e) = absurd (not_searched s g b q (accepted_as h) m l)
every_trimmed_answered s g f b a x h m l (searched {n = n} {r = r} k v w y) = (n, r, ap (λ (z : Rule). answered (known_of z) n r) (sym (same_rule h y.accepted)))

pub trimmed_find_exactly : TrimmedFindExactly
trimmed_find_exactly g f after n (found r c) b =
    let i = (is_trimmed b).searches.done.right.0.matches in
    ((λ x. (r, i), λ x. (r, c, refl)), (λ x. absurd (let y : ◌≡◌ {A = ℕ} 0 1 = cc x.1 in omega arith), λ x. absurd (x r i)))
trimmed_find_exactly g f after n (nothing c) b =
    let i = (is_trimmed b).searches.done.right.0 in
    ((λ x. absurd (let y : ◌≡◌ {A = ℕ} 0 1 = cc x.2 in omega arith), λ x. absurd (i x.0 x.1)), (λ x. i, λ x. (c, refl)))

pub trimmed_run_is_first : TrimmedRunIsFirst
trimmed_run_is_first g f after n r c b =
    let i = is_trimmed b in
    (i.searches.done.right.0, i.length_is, ap (λ (k : ℕ). take k after.run) i.length_is ∙ i.searches.done.output.0)

pub trimmed_find_counts : TrimmedFindCounts
trimmed_find_counts g f after n r c b =
    let y = (is_trimmed b).searches in
    record { bytes = b.bytes; before = b.before.table; weight = y.weight; finals = y.finals; spells = b.spells; table = y.table; pairs = y.done.right.1; bounded = y.done.bounded.1 }

pub trimmed_none_counts : TrimmedNoneCounts
trimmed_none_counts g f after n c b =
    let y = (is_trimmed b).searches in
    record { bytes = b.bytes; before = b.before.table; weight = y.weight; finals = y.finals; spells = b.spells; table = y.table; pairs = y.done.right.1; bounded = y.done.bounded }

pub trimmed_refused_exactly : TrimmedRefusedExactly
trimmed_refused_exactly s g b a x n p y = call_fault (TrimmedSearches s) (λ f M r z. z.accepted) x n p y

pub refused_trimmed_keeps : RefusedTrimmedKeeps
refused_trimmed_keeps s g b a n p (refusal q e) = e

-- building and trimming both leave what is past the table
past : {s t u v : List ℕ} {k : Known} {n f m g h : ℕ} → tables.BuildRight s t u (tables.tabled k h) → trims.TrimRight u v n f (trims.trimmed m g) → Beyond 4096 t v
past (tables.the_table a l lf i p) (trims.the_trimmed l' s z) = beyond_then p z.rest

pub trimmed_leaves : TrimmedLeaves
trimmed_leaves s g b a k n r (searched e v l y) =
    record { table = past y.table.build y.table.trim; marks = y.done.marks_clear; useful = y.done.useful_clear; output = y.done.output }

pub trimming_holds : Trimming
trimming_holds = record {
  same_sequences = same_sequences;
  again_nothing = again_nothing;
  all_work = all_work;
  nothing_is_one_state = nothing_is_one_state;
  trim_leaves = trim_leaves;
  trim_refused_exactly = trim_fault;
  refused_trim_keeps = refused_trim_keeps;
  rule_tables_trimmed = rule_tables_trimmed;
  one_trim = trims-once.one_answer;
  run_and_refusals_same = run_and_refusals_same;
  every_trimmed_answered = every_trimmed_answered;
  trimmed_find_exactly = trimmed_find_exactly;
  trimmed_run_is_first = trimmed_run_is_first;
  trimmed_find_counts = trimmed_find_counts;
  trimmed_none_counts = trimmed_none_counts;
  trimmed_refused_exactly = trimmed_refused_exactly;
  refused_trimmed_keeps = refused_trimmed_keeps;
  trimmed_leaves = trimmed_leaves;
  one_trimmed_search = one_trimmed_answer;
}
