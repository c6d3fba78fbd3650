-- What request 2026-06 asks holds. Assumes nothing.
use Prim.Native.Nat.{ℕ}
use native.Mathlib.Omega.{arith}
use mathlib.Core.Path.{◌≡◌, ap}
use Rattle.models.specs.Faults.{ModelFault}
use Rattle.models.proofs.Faulting.{model_fault, fault_model}
use Rattle.lasting.specs.Answer.{Result, lasts, refused, LastingRight, model_refused, lasting}
use Rattle.lasting.proofs.Ways.{lasting_runs}
use Rattle.lasting.proofs.Once as lasting-once
use Rattle.search.proofs.Carrying.{right_lasting, lasting_right}
use Rattle.demands.specs.DeadEnds.{AnswersOfTheRest, EveryModelLasts, LastingRefusedExactly, DeadEnds}

pub answers_of_the_rest : AnswersOfTheRest
answers_of_the_rest M w h A f a = (lasting_right M w h A f a, right_lasting M w h A f a)

pub every_model_lasts : EveryModelLasts
every_model_lasts g x m (model_refused v) = absurd (let z : ◌≡◌ {A = ℕ} 0 1 = cc in omega arith)
every_model_lasts g x m (lasting {w = w} v n s) = (w, ap (λ (k : ℕ). lasts k w) n, λ k. (s.members.holds k, s.members.has k))

pub lasting_refused_exactly : LastingRefusedExactly
lasting_refused_exactly g x n p r = (out r, back r)
  where
    out : {x : Result} → LastingRight g x → x ≡ refused n p → ModelFault g n p
    out (model_refused {n = m} {p = i} v) z =
        let a : m ≡ n = cc in
        let b : i ≡ p = cc in
        model_fault g n p cc
    out (lasting v k s) z = absurd (let y : ◌≡◌ {A = ℕ} 0 1 = cc in omega arith)

    back : {x : Result} → LastingRight g x → ModelFault g n p → x ≡ refused n p
    back (model_refused v) f = let z = fault_model g n p f in cc
    back (lasting v k s) f = absurd (let z = fault_model g n p f in let y : ◌≡◌ {A = ℕ} 0 1 = cc in omega arith)

pub dead_ends : DeadEnds
dead_ends = record {
  runs_of_the_rest = lasting_runs;
  answers_of_the_rest = answers_of_the_rest;
  one_set = λ M w v. lasting-once.one_set w v;
  every_model_lasts = every_model_lasts;
  lasting_refused_exactly = lasting_refused_exactly;
  one_lasting = lasting-once.one_answer;
}
