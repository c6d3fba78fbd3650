-- From what the builder, the trimmer and the search over a table promise to what the call promises. Assumes nothing.
use Prim.Native.Nat.{ℕ, ◌≤◌}
use native.Mathlib.Omega.{arith}
use mathlib.Core.Path.{◌≡◌, sym, subst, ap, ◌∙◌}
use mathlib.Core.List.{List}
use lib.ListN.{length}
use Rattle.rules.specs.declared.Known.{Known}
use Rattle.rules.specs.Weight.{weight_of}
use Rattle.automata.specs.Table.{table_entries, table_of}
use Rattle.automata.specs.IsTable.{Words}
use Rattle.automata.specs.Promise.{Serves}
use Rattle.tables.specs.Answer.{TableFor}
use Rattle.trims.specs.Stands.{Stands}
use Rattle.trims.specs.Trimmed.{Trimmed}
use Rattle.trims.specs.Answer.{the_trimmed}
use Rattle.trims.proofs.Built.{built_stands, trimmed_serves}
use Rattle.models.specs.Stored.{model_of}
use Rattle.lasting.specs.Endless.{LastingRun}
use Rattle.passes.specs.declared.inner.Searched.{Searched}
use Rattle.search.specs.declared.Refusal.{Refusal}
use Rattle.std.specs.Prelude.{Result, Ok, Err}
use Rattle.std.specs.Result.{MatchResult, IsErrAnd}
use Rattle.search.specs.declared.input.InputRead.{InputRead}
use Rattle.levels.specs.Lent.{LentTable}
use Rattle.passes.specs.Told.{SearchedTable}
use Rattle.search.specs.Answer.{Slices, slices, told}
use Rattle.search.specs.Input.{Usable, InputRight}
use Rattle.search.proofs.Whole.{as_answered, is_built, lent_table, search_done, call_right}
use Rattle.trimmed_search.specs.Answer.{TrimmedFor, TrimmedSearchRight}

-- what is kept where a refusal is handed on through a function
module _ {r : Result Known Refusal} (P : Refusal → Refusal → Type 0) where
  pub known_kept : {a : Result Known Refusal} {k : Known} → MatchResult a (λ x. r ≡ Ok x) (λ e. IsErrAnd r (P e)) → r ≡ Ok k → a ≡ Ok k
  known_kept {a = Ok x} h e = sym h ∙ e
  known_kept {a = Err y} h e = absurd (subst (λ (z : Result Known Refusal). IsErrAnd z (P y)) e h)

  pub refusal_kept : {a : Result Known Refusal} {x : Refusal} → MatchResult a (λ x. r ≡ Ok x) (λ e. IsErrAnd r (P e)) → ((e d : Refusal) → P e d → e ≡ d) → r ≡ Err x → a ≡ Err x
  refusal_kept {a = Ok y} h f e = sym h ∙ e
  refusal_kept {a = Err y} {x = x} h f e = ap (λ (z : Refusal). Err z) (f y x (subst (λ (z : Result Known Refusal). IsErrAnd z (P y)) e h))

module _ {s g t t' : List ℕ} {l : Slices} {k : Known} {f : ℕ} (w : Usable s g l k) (words : Words t') (b : TableFor s t t' f) (long : table_entries ≤ length t) where
  stands_whole : Stands t' (weight_of w.meant) f
  stands_whole = built_stands w.meant t' f (is_built w.accepted words b).table w.accepted.light words

  long_still : table_entries ≤ length t'
  long_still = omega (arith, (is_built w.accepted words b).table_past.size)

  -- the table that was built can be trimmed
  pub ready_to_trim : (table_entries ≤ length t') × Stands t' k.weight f
  ready_to_trim = (long_still, rw w.known_is stands_whole)

  module _ {u : List ℕ} {m h : ℕ} (z : Trimmed t' u k.weight f m h) where
    trimmed_whole : Trimmed t' u (weight_of w.meant) f m h
    trimmed_whole = rw w.known_is at z

    serves_it : Serves (table_of u m h) w.meant
    serves_it = trimmed_serves w.meant t' f (is_built w.accepted words b).table w.accepted.light words trimmed_whole

    -- and the search takes what trimming leaves
    pub lent_trimmed : LentTable u m
    lent_trimmed = lent_table h (omega (arith, long_still, z.rest.size)) serves_it

    trimmed_for : TrimmedFor s w.meant t u m h
    trimmed_for = record { built = t'; finals = f; words = words; build = b.right w.meant w.accepted; trim = the_trimmed long_still stands_whole trimmed_whole }

pub trimmed_yes : {s g t t' u m m' n n' run run' : List ℕ} {r : InputRead} {k : Known} {f j h : ℕ} {x : Searched} → InputRight s g (slices t m n run) r → (w : Usable s g (slices t m n run) k)
    → Words t' → TableFor s t t' f → Trimmed t' u k.weight f j h → SearchedTable LastingRun (model_of r.model) (table_of u j h) x m m' n n' run run'
    → TrimmedSearchRight s g (slices t m n run) (slices u m' n' run') (told (as_answered x k) run')
trimmed_yes {t = t} {u = u} {m = m} {m' = m'} {n = n} {n' = n'} {run = run} {run' = run'} {j = j} {h = h} {x = x} i w words b z y =
    call_right i x w y.answers.run_kept (record {
      weight = j;
      finals = h;
      accepted = w.accepted;
      table = trimmed_for w words b w.long.table_long z;
      done = search_done t u m m' n n' run run' (serves_it w words b w.long.table_long z) y;
    })
