-- The proof of the cycle of calls {rows_at}. The measure is what is left of the slice from `at` on. Assumes nothing.
use mathlib.Core.Path.{◌≡◌, sym, ap, ◌∙◌}
use mathlib.Core.Bool.{true}
use native.Mathlib.Omega.{arith}
use lib.ListN.{get_or}
use Rattle.definitions.specs.declared.kinds.FormulaKind.TheVariants.{Proposition, Truth, Falsity, Not, Join}
use Rattle.systems.specs.declared.kinds.SystemKind.TheVariants.{Plain, Next, Elsewhere, Nothing}
use Rattle.systems.specs.Kinds.{kind_of}
use Rattle.systems.proofs.Inversion.{formula_here, not_elsewhere, not_nothing, good_next, good_body, good_neg, good_left, good_right}
use Rattle.formula_models.proofs.Walking.{r_next, r_prop, r_yea, r_nay, r_neg, r_join}
use Rattle.formula_models.proofs.rows.+rows_at.Goals as goal

pub bounds-system-at : goal.bounds-system-at
bounds-system-at t c = let s = c.args.system.now in
    let at = c.args.at in
    let base = c.args.base in
    let g = c.requires in
    let l = formula_here s true at g.stands in
    l

pub overflow_add-body : goal.overflow_add-body
overflow_add-body t c = let s = c.args.system.now in
    let at = c.args.at in
    let base = c.args.base in
    let g = c.requires in
    let l = formula_here s true at g.stands in
    omega arith

pub bounds-system-body : goal.bounds-system-body
bounds-system-body t c = let s = c.args.system.now in
    let at = c.args.at in
    let base = c.args.base in
    let g = c.requires in
    let l = formula_here s true at g.stands in
    let q : kind_of (get_or s at 0) ≡ Next = sym c.kind_of.ensures ∙ c.in-Next.is in
    let b = good_next s true at g.stands q in
    b.inside

pub variable-requires : goal.variable-requires
variable-requires t c = let s = c.args.system.now in
    let at = c.args.at in
    let base = c.args.base in
    let g = c.requires in
    let l = formula_here s true at g.stands in
    let q : kind_of (get_or s at 0) ≡ Next = sym c.kind_of.ensures ∙ c.in-Next.is in
    let b = good_next s true at g.stands q in
    b.small

pub same-requires : goal.same-requires
same-requires t c = let s = c.args.system.now in
    let at = c.args.at in
    let base = c.args.base in
    let g = c.requires in
    let l = formula_here s true at g.stands in
    let n = g.long in
    let r = g.room in
    omega arith

pub overflow_add-result : goal.overflow_add-result
overflow_add-result t c = let s = c.args.system.now in
    let at = c.args.at in
    let base = c.args.base in
    let g = c.requires in
    let l = formula_here s true at g.stands in
    let q : kind_of (get_or s at 0) ≡ Next = sym c.kind_of.ensures ∙ c.in-Next.is in
    let b = good_next s true at g.stands q in
    let i = b.inside in
    omega arith

pub overflow_add-body-in-Proposition : goal.overflow_add-body-in-Proposition
overflow_add-body-in-Proposition t c = let s = c.args.system.now in
    let at = c.args.at in
    let base = c.args.base in
    let g = c.requires in
    let l = formula_here s true at g.stands in
    omega arith

pub bounds-system-body-in-Proposition : goal.bounds-system-body-in-Proposition
bounds-system-body-in-Proposition t c = let s = c.args.system.now in
    let at = c.args.at in
    let base = c.args.base in
    let g = c.requires in
    let l = formula_here s true at g.stands in
    let q : kind_of (get_or s at 0) ≡ Plain Proposition = sym c.kind_of.ensures ∙ c.in-Plain.is ∙ ap Plain c.in-Proposition.is in
    let b = good_body s true at g.stands q in
    b.inside

pub overflow_cast-system : goal.overflow_cast-system
overflow_cast-system t c = let s = c.args.system.now in
    let at = c.args.at in
    let base = c.args.base in
    let g = c.requires in
    let l = formula_here s true at g.stands in
    let q : kind_of (get_or s at 0) ≡ Plain Proposition = sym c.kind_of.ensures ∙ c.in-Plain.is ∙ ap Plain c.in-Proposition.is in
    let b = good_body s true at g.stands q in
    let i = b.small in
    omega arith

pub by_bit-requires : goal.by_bit-requires
by_bit-requires t c = let s = c.args.system.now in
    let at = c.args.at in
    let base = c.args.base in
    let g = c.requires in
    let l = formula_here s true at g.stands in
    let q : kind_of (get_or s at 0) ≡ Plain Proposition = sym c.kind_of.ensures ∙ c.in-Plain.is ∙ ap Plain c.in-Proposition.is in
    let b = good_body s true at g.stands q in
    let n = g.long in
    let r = g.room in
    let i = b.small in
    (omega arith, omega arith)

pub overflow_add-result-in-Proposition : goal.overflow_add-result-in-Proposition
overflow_add-result-in-Proposition t c = let s = c.args.system.now in
    let at = c.args.at in
    let base = c.args.base in
    let g = c.requires in
    let l = formula_here s true at g.stands in
    let q : kind_of (get_or s at 0) ≡ Plain Proposition = sym c.kind_of.ensures ∙ c.in-Plain.is ∙ ap Plain c.in-Proposition.is in
    let b = good_body s true at g.stands q in
    let i = b.inside in
    omega arith

pub same-requires-in-Truth : goal.same-requires-in-Truth
same-requires-in-Truth t c = let s = c.args.system.now in
    let at = c.args.at in
    let base = c.args.base in
    let g = c.requires in
    let l = formula_here s true at g.stands in
    let n = g.long in
    let r = g.room in
    omega arith

pub overflow_add-result-in-Truth : goal.overflow_add-result-in-Truth
overflow_add-result-in-Truth t c = let s = c.args.system.now in
    let at = c.args.at in
    let base = c.args.base in
    let g = c.requires in
    let l = formula_here s true at g.stands in
    omega arith

pub same-requires-in-Falsity : goal.same-requires-in-Falsity
same-requires-in-Falsity t c = let s = c.args.system.now in
    let at = c.args.at in
    let base = c.args.base in
    let g = c.requires in
    let l = formula_here s true at g.stands in
    let n = g.long in
    let r = g.room in
    omega arith

pub overflow_add-result-in-Falsity : goal.overflow_add-result-in-Falsity
overflow_add-result-in-Falsity t c = let s = c.args.system.now in
    let at = c.args.at in
    let base = c.args.base in
    let g = c.requires in
    let l = formula_here s true at g.stands in
    omega arith

pub overflow_add-at : goal.overflow_add-at
overflow_add-at t c = let s = c.args.system.now in
    let at = c.args.at in
    let base = c.args.base in
    let g = c.requires in
    let l = formula_here s true at g.stands in
    omega arith

pub rows_at-end-requires : goal.rows_at-end-requires
rows_at-end-requires t c = let s = c.args.system.now in
    let at = c.args.at in
    let base = c.args.base in
    let g = c.requires in
    let l = formula_here s true at g.stands in
    let q : kind_of (get_or s at 0) ≡ Plain Not = sym c.kind_of.ensures ∙ c.in-Plain.is ∙ ap Plain c.in-Not.is in
    let n = g.long in
    let r = g.room in
    (omega arith, record { stands = good_neg s true at g.stands q; long = n; room = omega arith })

pub flip-requires : goal.flip-requires
flip-requires t c = let s = c.args.system.now in
    let at = c.args.at in
    let base = c.args.base in
    let g = c.requires in
    let l = formula_here s true at g.stands in
    let n = g.long in
    let r = g.room in
    let o = c.rows_at-end.ensures.size in
    omega arith

pub overflow_add-at-in-Join : goal.overflow_add-at-in-Join
overflow_add-at-in-Join t c = let s = c.args.system.now in
    let at = c.args.at in
    let base = c.args.base in
    let g = c.requires in
    let l = formula_here s true at g.stands in
    omega arith

pub rows_at-m-requires : goal.rows_at-m-requires
rows_at-m-requires t c = let s = c.args.system.now in
    let at = c.args.at in
    let base = c.args.base in
    let g = c.requires in
    let l = formula_here s true at g.stands in
    let q : kind_of (get_or s at 0) ≡ Plain (Join c.in-Join.j) = sym c.kind_of.ensures ∙ c.in-Plain.is ∙ ap Plain c.in-Join.is in
    let n = g.long in
    let r = g.room in
    (omega arith, record { stands = good_left s true at g.stands _ q; long = n; room = omega arith })

pub overflow_add-base : goal.overflow_add-base
overflow_add-base t c = let s = c.args.system.now in
    let at = c.args.at in
    let base = c.args.base in
    let g = c.requires in
    let l = formula_here s true at g.stands in
    let r = g.room in
    omega arith

pub rows_at-end-requires-in-Join : goal.rows_at-end-requires-in-Join
rows_at-end-requires-in-Join t c = let s = c.args.system.now in
    let at = c.args.at in
    let base = c.args.base in
    let g = c.requires in
    let l = formula_here s true at g.stands in
    let q : kind_of (get_or s at 0) ≡ Plain (Join c.in-Join.j) = sym c.kind_of.ensures ∙ c.in-Plain.is ∙ ap Plain c.in-Join.is in
    let o = c.rows_at-m.ensures in
    let r = good_right s true at g.stands _ q c.rows_at-m.result (λ f e d. o.ends f e d) in
    let u = o.size in
    let n = g.long in
    let k = g.room in
    let p = r.1 in
    (omega arith, record { stands = r.0; long = omega arith; room = omega arith })

pub join_rows-requires : goal.join_rows-requires
join_rows-requires t c = let s = c.args.system.now in
    let at = c.args.at in
    let base = c.args.base in
    let g = c.requires in
    let l = formula_here s true at g.stands in
    let q : kind_of (get_or s at 0) ≡ Plain (Join c.in-Join.j) = sym c.kind_of.ensures ∙ c.in-Plain.is ∙ ap Plain c.in-Join.is in
    let o = c.rows_at-m.ensures in
    let r = good_right s true at g.stands _ q c.rows_at-m.result (λ f e d. o.ends f e d) in
    let u = o.size in
    let v = c.rows_at-end-in-Join.ensures.size in
    let n = g.long in
    let k = g.room in
    let h = formula_here s true c.rows_at-m.result r.0 in
    let p = r.1 in
    omega arith

pub returns-in-Nothing : goal.returns-in-Nothing
returns-in-Nothing t c = let s = c.args.system.now in
    let at = c.args.at in
    let base = c.args.base in
    let g = c.requires in
    let l = formula_here s true at g.stands in
    let q : kind_of (get_or s at 0) ≡ Nothing = sym c.kind_of.ensures ∙ c.in-Nothing.is in
    absurd (not_nothing s true at g.stands q)

pub returns-in-Elsewhere : goal.returns-in-Elsewhere
returns-in-Elsewhere t c = let s = c.args.system.now in
    let at = c.args.at in
    let base = c.args.base in
    let g = c.requires in
    let l = formula_here s true at g.stands in
    let q : kind_of (get_or s at 0) ≡ Elsewhere = sym c.kind_of.ensures ∙ c.in-Elsewhere.is in
    absurd (not_elsewhere s true at g.stands q)

pub shape_of-grid-in-Next : goal.shape_of-grid-in-Next
shape_of-grid-in-Next t c = c.same.ensures.size

pub returns-in-Next : goal.returns-in-Next
returns-in-Next t c = let s = c.args.system.now in
    let at = c.args.at in
    let base = c.args.base in
    let g = c.requires in
    let l = formula_here s true at g.stands in
    let q : kind_of (get_or s at 0) ≡ Next = sym c.kind_of.ensures ∙ c.in-Next.is in
    r_next s at base q c.variable.result c.variable.ensures c.same.ensures

pub shape_of-grid-in-Proposition : goal.shape_of-grid-in-Proposition
shape_of-grid-in-Proposition t c = c.by_bit.ensures.size

pub returns-in-Proposition : goal.returns-in-Proposition
returns-in-Proposition t c = let s = c.args.system.now in
    let at = c.args.at in
    let base = c.args.base in
    let g = c.requires in
    let l = formula_here s true at g.stands in
    let q : kind_of (get_or s at 0) ≡ Plain Proposition = sym c.kind_of.ensures ∙ c.in-Plain.is ∙ ap Plain c.in-Proposition.is in
    r_prop s at base q c.by_bit.ensures

pub shape_of-grid-in-Truth : goal.shape_of-grid-in-Truth
shape_of-grid-in-Truth t c = c.same-in-Truth.ensures.size

pub returns-in-Truth : goal.returns-in-Truth
returns-in-Truth t c = let s = c.args.system.now in
    let at = c.args.at in
    let base = c.args.base in
    let g = c.requires in
    let l = formula_here s true at g.stands in
    let q : kind_of (get_or s at 0) ≡ Plain Truth = sym c.kind_of.ensures ∙ c.in-Plain.is ∙ ap Plain c.in-Truth.is in
    r_yea s at base q c.same-in-Truth.ensures

pub shape_of-grid-in-Falsity : goal.shape_of-grid-in-Falsity
shape_of-grid-in-Falsity t c = c.same-in-Falsity.ensures.size

pub returns-in-Falsity : goal.returns-in-Falsity
returns-in-Falsity t c = let s = c.args.system.now in
    let at = c.args.at in
    let base = c.args.base in
    let g = c.requires in
    let l = formula_here s true at g.stands in
    let q : kind_of (get_or s at 0) ≡ Plain Falsity = sym c.kind_of.ensures ∙ c.in-Plain.is ∙ ap Plain c.in-Falsity.is in
    r_nay s at base q c.same-in-Falsity.ensures

pub shape_of-grid-in-Not : goal.shape_of-grid-in-Not
shape_of-grid-in-Not t c = c.flip.ensures.size ∙ c.rows_at-end.ensures.size

pub returns-in-Not : goal.returns-in-Not
returns-in-Not t c = let s = c.args.system.now in
    let at = c.args.at in
    let base = c.args.base in
    let g = c.requires in
    let l = formula_here s true at g.stands in
    let q : kind_of (get_or s at 0) ≡ Plain Not = sym c.kind_of.ensures ∙ c.in-Plain.is ∙ ap Plain c.in-Not.is in
    r_neg s at base q c.rows_at-end.ensures c.flip.ensures

pub shape_of-grid-in-Join : goal.shape_of-grid-in-Join
shape_of-grid-in-Join t c = c.join_rows.ensures.size ∙ c.rows_at-end-in-Join.ensures.size ∙ c.rows_at-m.ensures.size

pub returns-in-Join : goal.returns-in-Join
returns-in-Join t c = let s = c.args.system.now in
    let at = c.args.at in
    let base = c.args.base in
    let g = c.requires in
    let l = formula_here s true at g.stands in
    let q : kind_of (get_or s at 0) ≡ Plain (Join c.in-Join.j) = sym c.kind_of.ensures ∙ c.in-Plain.is ∙ ap Plain c.in-Join.is in
    r_join s at base _ q c.rows_at-m.ensures c.rows_at-end-in-Join.ensures c.join_rows.ensures
