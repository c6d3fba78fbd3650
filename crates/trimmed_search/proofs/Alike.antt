-- The search over the trimmed table gives the run and the refusals of `search`. Assumes nothing.
use Prim.Native.Nat.{ℕ}
use mathlib.Core.Path.{◌≡◌, sym, ap₂, subst}
use mathlib.Core.List.{List}
use Rattle.definitions.specs.Definition1.{Rule}
use Rattle.rules.specs.Answer.{known_of}
use Rattle.rules.proofs.Accepting.{accepted_once}
use Rattle.automata.specs.Table.{Table, table_of}
use Rattle.models.specs.Model.{Model}
use Rattle.models.specs.Stored.{model_of}
use Rattle.models.specs.Answer as models
use Rattle.lasting.specs.Endless.{LastingRun}
use Rattle.levels.specs.Right.{Answer, found, nothing, Right}
use Rattle.search.specs.Answer.{Slices, Result, answered, refused, length_of, refusal, searched, SearchRight}
use Rattle.passes.proofs.TableOnce.{shown_same}
use Rattle.search.proofs.Once.{refused_once, not_searched}
use Rattle.trimmed_search.specs.Answer.{TrimmedSearchRight}
use Rattle.trimmed_search.specs.Alike.{Alike, run, none}
use Rattle.trimmed_search.specs.Alike as alike_of

-- right answers over two tables
answers_alike : (M : Model) (A B : Table) (f : Rule) (a b : Answer) → Right LastingRun M A f a → Right LastingRun M B f b → Alike (answered (known_of f) (length_of a) a) (answered (known_of f) (length_of b) b)
answers_alike M A B f (found r c) (found u d) x y =
    subst (λ (z : List ℕ). Alike (answered (known_of f) (length_of (found r c)) (found r c)) (answered (known_of f) (length_of (found z d)) (found z d))) (shown_same x.0 y.0) run
answers_alike M A B f (found r c) (nothing d) x y = absurd (y.0 r x.0.matches)
answers_alike M A B f (nothing c) (found u d) x y = absurd (x.0 u y.0.matches)
answers_alike M A B f (nothing c) (nothing d) x y = none

pub search_alike : {s g : List ℕ} {b a d : Slices} {x y : Result} → SearchRight s g b a x → TrimmedSearchRight s g b d y → Alike x y
search_alike {s} {g} {b} (refusal {n} {p} q e) (refusal q' e') =
    let z = refused_once s g b q q' in
    subst (λ (w : Result). Alike (refused n p) w) (ap₂ refused z.0 z.1) alike_of.refusal
search_alike {s} {g} {b} (refusal q e) (searched k v l z) = absurd (not_searched s g b q z.accepted v l)
search_alike {s} {g} {b} (searched k v l z) (refusal q e) = absurd (not_searched s g b q z.accepted v l)
search_alike {s} {g} {d = d} (searched {f = f} {n = n} {r = r} k v l z) (searched {f = f'} {n = n'} {r = r'} k' v' l' z') =
    let M : Model = model_of (models.answer g).model in
    let e : f ≡ f' = accepted_once s f f' z.accepted z'.accepted in
    let right : Right LastingRun M (table_of d.table z'.weight z'.finals) f r' = subst (λ (h : Rule). Right LastingRun M (table_of d.table z'.weight z'.finals) h r') (sym e) z'.done.right in
    subst (λ (h : Rule). Alike (answered (known_of f) n r) (answered (known_of h) n' r')) e
    (subst (λ (i : ℕ). Alike (answered (known_of f) i r) (answered (known_of f) n' r')) (sym k)
    (subst (λ (i : ℕ). Alike (answered (known_of f) (length_of r) r) (answered (known_of f) i r')) (sym k') (answers_alike M _ _ f r r' z.done.right right)))
