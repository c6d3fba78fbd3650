-- `search::search` meets its contract. By the cases of what was read.
-- Assumes nothing.
use Rattle.search.specs.Answer.{refusal}
use Rattle.search.proofs.Whole.{refused_of, usable_of, is_built, built_lent, search_yes}
use mathlib.Core.Path.{refl}
use Rattle.std.proofs.lemmas.Result.{err_from_is_err_and}
use Rattle.search.proofs.search.Goals as goal

pub build_accepted-finals-requires : goal.build_accepted-finals-requires
build_accepted-finals-requires c = let u = usable_of c.read_input-input.ensures c.in_ok-known.was in
    ((u.meant, u.accepted), u.long.table_long)

pub search_stored-searched-requires : goal.search_stored-searched-requires
search_stored-searched-requires c = let i = c.read_input-input.ensures in
    let u = usable_of i c.in_ok-known.was in
    let b = is_built u.accepted (λ k. (c.slice_known-5-1.given k).fits) c.build_accepted-finals.ensures in
    (i.held, built_lent u b u.long.table_long, u.long.marks_long, u.long.useful_long, u.long.run_long)

pub returns-in_err-known : goal.returns-in_err-known
returns-in_err-known c =
    let p = err_from_is_err_and c.from_residual.result c.from_residual.ensures.1 in
    rw (p.1, p.2) (refusal (refused_of c.read_input-input.ensures c.in_err-known.was) refl)

pub returns : goal.returns
returns c = let i = c.read_input-input.ensures in
    let u = usable_of i c.in_ok-known.was in
    let b = is_built u.accepted (λ k. (c.slice_known-5-1.given k).fits) c.build_accepted-finals.ensures in
    search_yes i u b c.search_stored-searched.ensures
