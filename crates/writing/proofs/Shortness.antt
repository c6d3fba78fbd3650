-- How long the text of a 64-bit number and of a refusal can get. Assumes nothing.
use Prim.Native.Nat.{ℕ, ◌+◌, ◌^◌, ◌≤◌, ◌<◌}
use native.Mathlib.Omega.{arith}
use mathlib.Core.List.{List}
use lib.ListN.{length, length-append}
use Rattle.writing.specs.Decimal.{decimal, named}
use Rattle.writing.specs.Refused.{refused_word, at_word, refused_text}
use Rattle.writing.proofs.Decimals.{decimal_short}

-- a 64-bit number has at most 20 digits
pub named_short : (word : List ℕ) (n : ℕ) → n < 2 ^ 64 → length (named word n) ≤ length word + 20
named_short word n h = let d = decimal_short 19 n (omega arith) in let l = length-append word (decimal n) in omega arith

pub refused_short : (number place : ℕ) → number < 2 ^ 64 → place < 2 ^ 64 → length (refused_text number place) ≤ 52
unfolding refused_text
refused_short number place h k =
    let a = named_short refused_word number h in
    let b = named_short at_word place k in
    let c = length-append (named refused_word number) (named at_word place) in
    omega arith
