-- No second answer and no second content of the lent slices fit the promise of `search_trimmed`. Assumes nothing.
use Prim.Native.Nat.{ℕ}
use mathlib.Core.Path.{◌≡◌, sym, ap, subst}
use mathlib.Core.List.{List}
use Rattle.definitions.specs.Definition1.{Rule}
use Rattle.rules.specs.Weight.{weight_of}
use Rattle.rules.specs.Answer.{known_of}
use Rattle.std.specs.Prelude.{Ok}
use Rattle.tables.specs.Answer.{TableAnswer}
use Rattle.automata.specs.Table.{table_of}
use Rattle.tables.proofs.promise.Once as tables-once
use Rattle.trims.specs.Answer.{TrimRight, trimmed}
use Rattle.trims.proofs.Once as trims-once
use Rattle.models.specs.Model.{Model}
use Rattle.search.specs.Answer.{SearchAnswer}
use Rattle.levels.specs.Right.{Answer}
use Rattle.search.specs.Answer.{Slices, LongEnough, told, SearchDone}
use Rattle.search.proofs.Once.{done_once, finals_of, one_call_answer}
use Rattle.trimmed_search.specs.Answer.{TrimmedFor, TrimmedSearches, TrimmedSearchRight}

-- building and trimming leave one table
module _ {s : List ℕ} {f : Rule} {t u v : List ℕ} {n m g h : ℕ} (x : TrimmedFor s f t u n g) (y : TrimmedFor s f t v m h) where
  built_same : (◌≡◌ {A = TableAnswer} (Ok (record { rule = known_of f; finals = x.finals })) (Ok (record { rule = known_of f; finals = y.finals }))) × (x.built ≡ y.built)
  built_same =
      tables-once.one_answer s t x.built y.built (Ok (record { rule = known_of f; finals = x.finals })) (Ok (record { rule = known_of f; finals = y.finals })) x.words y.words x.build y.build

  finals_same : x.finals ≡ y.finals
  finals_same = ap finals_of built_same.0

  trim_same : TrimRight x.built v (weight_of f) x.finals (trimmed m h)
  trim_same =
      subst (λ (z : List ℕ). TrimRight z v (weight_of f) x.finals (trimmed m h)) (sym built_same.1)
      (subst (λ (z : ℕ). TrimRight y.built v (weight_of f) z (trimmed m h)) (sym finals_same) y.trim)

  pub one_trimmed : (n ≡ m) × (g ≡ h) × (u ≡ v)
  one_trimmed = let o = trims-once.one_result x.trim trim_same in let e = o.0 in (cc, cc, o.1)

searches_once : (s : List ℕ) (b a d : Slices) (f : Rule) (M : Model) (r r' : Answer) → LongEnough b → TrimmedSearches s f M b a r → TrimmedSearches s f M b d r' → (r ≡ r') × (a ≡ d)
searches_once s b a d f M r r' long x y =
    let o = one_trimmed x.table y.table in
    done_once o.2 x.done
    (subst (λ (t : List ℕ). SearchDone M (table_of t x.weight x.finals) f b d r') (sym o.2)
    (subst (λ (z : ℕ). SearchDone M (table_of d.table z x.finals) f b d r') (sym o.0)
    (subst (λ (z : ℕ). SearchDone M (table_of d.table y.weight z) f b d r') (sym o.1) y.done)))

pub one_trimmed_answer : (s g : List ℕ) (b a d : Slices) (x y : SearchAnswer) → TrimmedSearchRight s g b a (told x a.run) → TrimmedSearchRight s g b d (told y d.run) → (x ≡ y) × (a ≡ d)
one_trimmed_answer s g b a d x y p q = one_call_answer (TrimmedSearches s) s g b a d (λ f M e r z. z.accepted) (searches_once s b a d) x y p q
