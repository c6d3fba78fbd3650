-- `search_trimmed` meets its contract. By the cases of what was read.
-- Assumes nothing.
use mathlib.Core.Path.{◌≡◌, refl}
use borrow.Author.Rules.{rules}
use Rattle.std.proofs.lemmas.Result.{err_from_is_err_and}
use Rattle.search.specs.Answer.{refusal}
use Rattle.search.proofs.Whole.{refused_of, usable_of}
use Rattle.std.proofs.Common.{Ok, Err}
use Rattle.trimmed_search.proofs.Whole.{known_kept, refusal_kept, ready_to_trim, lent_trimmed, trimmed_yes}
use Rattle.trimmed_search.proofs.search_trimmed.Goals as goal

pub build_accepted-finals-requires : goal.build_accepted-finals-requires
build_accepted-finals-requires c = let u = usable_of c.read_input-input.ensures (let e : c.read_input-input.result.answer ≡ Ok c.in_ok-known.known = search (rules, known_kept) in e) in
    ((u.meant, u.accepted), u.long.table_long)

pub trim_standing-trimmed-requires : goal.trim_standing-trimmed-requires
trim_standing-trimmed-requires c = let u = usable_of c.read_input-input.ensures (let e : c.read_input-input.result.answer ≡ Ok c.in_ok-known.known = search (rules, known_kept) in e) in
    let b = c.build_accepted-finals in
    ready_to_trim u (λ k. (c.slice_known-5-1.given k).fits) b.ensures u.long.table_long

pub search_stored-searched-requires : goal.search_stored-searched-requires
search_stored-searched-requires c = let i = c.read_input-input.ensures in
    let u = usable_of i (let e : c.read_input-input.result.answer ≡ Ok c.in_ok-known.known = search (rules, known_kept) in e) in
    let b = c.build_accepted-finals in
    (i.held, lent_trimmed u (λ k. (c.slice_known-5-1.given k).fits) b.ensures u.long.table_long c.trim_standing-trimmed.ensures, u.long.marks_long, u.long.useful_long, u.long.run_long)

pub returns-in_err-known : goal.returns-in_err-known
returns-in_err-known c =
    let p = err_from_is_err_and c.from_residual.result c.from_residual.ensures.1 in
    rw (p.1, p.2) (refusal (refused_of c.read_input-input.ensures (let e : c.read_input-input.result.answer ≡ Err c.in_err-known.field-0.0 = search (rules, refusal_kept) in e)) refl)

pub returns : goal.returns
returns c = let i = c.read_input-input.ensures in
    trimmed_yes i (usable_of i (let e : c.read_input-input.result.answer ≡ Ok c.in_ok-known.known = search (rules, known_kept) in e)) (λ k. (c.slice_known-5-1.given k).fits) c.build_accepted-finals.ensures c.trim_standing-trimmed.ensures c.search_stored-searched.ensures
