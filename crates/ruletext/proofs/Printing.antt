-- The line is what is printed for every input that begins with what was kept. Assumes nothing.
use Prim.Native.Nat.{ℕ, ◌≤◌}
use native.Mathlib.Omega.{arith}
use mathlib.Core.Path.{◌≡◌, sym, subst, ◌∙◌}
use mathlib.Core.List.{List}
use lib.ListN.{length}
use Rattle.writing.proofs.Wrotes.{wrote_inside}
use Rattle.text_lines.specs.Line.{LineRight, short_output, written}
use Rattle.text_lines.proofs.Beginning.{line_beginning}
use Rattle.ruletext.specs.Printed.{PrintedFor}

inside : {kept before after : List ℕ} {long : ℕ} → LineRight kept before after long → long ≤ length after
inside (short_output l e z) = omega arith
inside (written line l o w) = let a = wrote_inside w in let b = w.size in omega arith

pub printed_for : {kept part before after : List ℕ} {long : ℕ} → part ≡ kept → LineRight part before after long → PrintedFor kept before after long
printed_for {before = before} {after = after} {long = long} q x = record {
  for_each = λ input e. line_beginning input before after long (subst (λ (s : List ℕ). LineRight s before after long) (q ∙ sym e) x);
  inside = inside x;
}
