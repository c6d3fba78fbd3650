-- The line of an input is that of its first 961 bytes: the length byte, 255 bytes of a rule and 705 of a model. A program may read these alone. Assumes nothing.
use Prim.Native.Nat.{ℕ, ◌+◌, ◌<◌}
use native.Mathlib.Decide.{dec_lt}
use native.Mathlib.Omega.{arith}
use mathlib.Core.Path.{◌≡◌, sym, ap, subst, ◌∙◌}
use mathlib.Core.List.{List, [], ◌∷◌}
use lib.ListN.{length, get_or, take, drop, length-take, length-drop}
use lib.Seq.{take_all, take-take, get_or-take, get_or-drop}
use Rattle.models.specs.Stored.{model_of}
use Rattle.models.specs.Answer as models
use Rattle.models.proofs.Beginning.{long_alike}
use Rattle.search.specs.Answer.{Slices, Result, told, Searches, SearchRefused, of_rule, of_model, short_slice, SearchRight, refusal, searched}
use Rattle.lines.specs.Input.{rule_in_of, model_in_of}
use Rattle.lines.specs.Line.{fresh, LineOf}

-- a search says the same of models that are answered alike
refused_alike : {rule g g' : List ℕ} {l : Slices} {n p : ℕ} → models.answer g ≡ models.answer g' → SearchRefused rule g l n p → SearchRefused rule g' l n p
refused_alike e (of_rule q) = of_rule q
refused_alike e (of_model f v) = of_model f (ap (λ (x : models.Result). x.verdict) (sym e) ∙ v)
refused_alike e (short_slice f v l) = short_slice f (ap (λ (x : models.Result). x.verdict) (sym e) ∙ v) l

alike : {rule g g' : List ℕ} {b a : Slices} {r : Result} → models.answer g ≡ models.answer g' → SearchRight rule g b a r → SearchRight rule g' b a r
alike e (refusal q z) = refusal (refused_alike e q) z
alike {rule} {g} {g'} {b} {a} e (searched {f} {n} {r} k v l z) =
    searched k (ap (λ (x : models.Result). x.verdict) (sym e) ∙ v) l (subst (λ (x : models.Result). Searches rule f (model_of x.model) b a r) e z)

-- the first byte and the rest
module _ (n : ℕ) (rest : List ℕ) (byte : n < 256) where
  same_rule : take n (take 960 rest) ≡ take n rest
  same_rule = take-take n 960 rest (omega arith)

  long_part : 960 < length rest → 704 < length (drop n (take 960 rest))
  long_part h = let a = length-drop n (take 960 rest) in let b = length-take 960 rest in omega arith

  long_whole : 960 < length rest → 704 < length (drop n rest)
  long_whole h = let a = length-drop n rest in omega arith

  same_byte : (i : ℕ) → i < 704 → get_or (drop n (take 960 rest)) i 0 ≡ get_or (drop n rest) i 0
  same_byte i h = get_or-drop n (take 960 rest) i 0 ∙ get_or-take 960 rest (n + i) 0 (omega arith) ∙ sym (get_or-drop n rest i 0)

  same_model : models.answer (drop n (take 960 rest)) ≡ models.answer (drop n rest)
  same_model = go (dec_lt 960 (length rest))
    where
      go : Dec (960 < length rest) → models.answer (drop n (take 960 rest)) ≡ models.answer (drop n rest)
      go (yes h) = long_alike (drop n (take 960 rest)) (drop n rest) (long_part h) (long_whole h) same_byte
      go (no h) = ap (λ (s : List ℕ). models.answer (drop n s)) (take_all 960 rest (omega arith))

pub beginning : (input line : List ℕ) → get_or input 0 0 < 256 → LineOf (take 961 input) line → LineOf input line
unfolding rule_in_of model_in_of
beginning [] line byte x = x
beginning (n ∷ rest) line byte x = record {
  after = x.after;
  words = x.words;
  answer = x.answer;
  right =
      alike (same_model n rest byte)
      (subst (λ (s : List ℕ). SearchRight s (drop n (take 960 rest)) fresh x.after (told x.answer x.after.run)) (same_rule n rest byte) x.right);
  says = x.says;
}
